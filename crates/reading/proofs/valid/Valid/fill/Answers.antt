-- The sheets have room, and are filled.
use Rattle.reading.proofs.ReadLaws.{sheet_room, roles_room, both_filled}
use Rattle.reading.proofs.valid.Valid.fill.Goals as goal

pub put_contexts-requires : goal.put_contexts-requires
put_contexts-requires c = sheet_room c.args.self.pdu.now c.args.self.side c.args.self.is_valid _ c.items-s.ensures.bytes _ c.context_type.ensures c.args.sheet.now c.requires.0

pub put_roles-requires : goal.put_roles-requires
put_roles-requires c = roles_room c.args.self.pdu.now c.args.self.side c.args.self.is_valid _ c.items-s.ensures.bytes _ c.first_of.ensures.bytes c.args.roles.now c.requires.1

pub returns : goal.returns
returns c = both_filled c.args.self.pdu.now c.args.self.side c.args.self.is_valid _ c.items-s.ensures.bytes _ c.first_of.ensures.bytes _ c.context_type.ensures c.args.sheet.now c.args.roles.now _ _ _ _ c.put_contexts.ensures c.put_roles.ensures
