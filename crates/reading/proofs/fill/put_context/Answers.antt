-- The records of a proposed context, or the one of an answer.
use Rattle.reading.proofs.FillLaws.{proposed_room, proposed_written, answered_room, answered_written}
use Rattle.reading.proofs.fill.put_context.Goals as goal

pub put_transfers-requires : goal.put_transfers-requires
put_transfers-requires c =
    proposed_room c.args.k c.args.n c.args.b.now c.args.sheet.now _ c.byte_at-id.ensures c.if-k-eq32.true _ c.behind_four-s.ensures _ c.first_of.ensures.bytes c.requires

pub returns-then-k-eq32 : goal.returns-then-k-eq32
returns-then-k-eq32 c =
    proposed_written c.args.k c.args.n c.args.b.now c.args.sheet.now _ c.byte_at-id.ensures c.if-k-eq32.true _ c.behind_four-s.ensures _ c.first_of.ensures.bytes _ _ c.put_transfers.ensures

pub put_record-requires : goal.put_record-requires
put_record-requires c = answered_room c.args.k c.args.n c.args.b.now c.args.sheet.now c.if-k-eq32.false c.requires

pub returns : goal.returns
returns c =
    answered_written c.args.k c.args.n c.args.b.now c.args.sheet.now _ c.byte_at-id.ensures c.if-k-eq32.false _ c.byte_at.ensures _ c.transfer_in.ensures _ _ c.put_record.ensures
