-- As many as the sheets of the PDU have.
use Rattle.reading.proofs.ReadLaws.{counts_are}
use Rattle.reading.proofs.valid.Valid.counts.Goals as goal

pub returns : goal.returns
returns c = counts_are c.args.self.pdu.now c.args.self.side c.args.self.is_valid _ c.items-s.ensures.bytes _ c.first_of.ensures.bytes _ c.context_type.ensures _ _ c.rows.ensures c.count_of.ensures
