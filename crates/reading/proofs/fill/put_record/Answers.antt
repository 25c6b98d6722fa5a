-- The record is put whole.
use Rattle.reading.proofs.FillLaws.{record_written}
use Rattle.reading.proofs.fill.put_record.Goals as goal

pub returns : goal.returns
returns c = record_written _ _ _ _ _ _ _ _ _ c.requires c.record_of-r.ensures c.put.ensures
