-- The places lie within the PDU, and the fields are its own.
use Rattle.std.proofs.Common.{arith}
use Rattle.reading.proofs.UserLaws.{user_within}
use Rattle.reading.proofs.ReadLaws.{valid_long, name_within, fields_are}
use Rattle.reading.proofs.valid.Valid.fields.Goals as goal

pub overflow_add-from : goal.overflow_add-from
overflow_add-from c = let w = user_within c.args.self.pdu.now _ _ _ c.items-s.ensures.bytes c.first_of-u.ensures.bytes c.place_of-from.ensures (valid_long c.args.self.pdu.now c.args.self.side c.args.self.is_valid) in omega arith

pub overflow_add-result : goal.overflow_add-result
overflow_add-result c = let w = name_within c.args.self.pdu.now _ c.items-s.ensures.bytes _ c.place_of.ensures (valid_long c.args.self.pdu.now c.args.self.side c.args.self.is_valid) in omega arith

pub part_at-requires : goal.part_at-requires
part_at-requires c = let w = user_within c.args.self.pdu.now _ _ _ c.items-s.ensures.bytes c.first_of-u.ensures.bytes c.place_of-from.ensures (valid_long c.args.self.pdu.now c.args.self.side c.args.self.is_valid) in omega arith

pub part_at-requires-2 : goal.part_at-requires-2
part_at-requires-2 c = let w = user_within c.args.self.pdu.now _ _ _ c.items-s.ensures.bytes c.first_of-u.ensures.bytes c.place_of-from.ensures (valid_long c.args.self.pdu.now c.args.self.side c.args.self.is_valid) in omega arith

pub returns : goal.returns
returns c =
    fields_are c.args.self.pdu.now _ _ _ c.items-s.ensures.bytes c.first_of-u.ensures.bytes c.place_of-from.ensures c.be16_at.ensures c.place_of.ensures c.first_of.ensures.bytes c.maximum_in.ensures c.part_at.ensures c.part_at-2.ensures c.count_in.ensures c.count_in-2.ensures
