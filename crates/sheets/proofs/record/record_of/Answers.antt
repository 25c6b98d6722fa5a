use Rattle.sheets.proofs.RecordLaws.{record_laws}
use Rattle.sheets.proofs.record.record_of.Goals as goal

pub fill_record-requires : goal.fill_record-requires
fill_record-requires c = search record_laws

pub returns : goal.returns
returns c = search record_laws
