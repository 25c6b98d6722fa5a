use Rattle.sheets.proofs.RecordLaws.{cut_laws}
use Rattle.sheets.proofs.record.cut.Goals as goal

pub returns : goal.returns
returns c = search cut_laws
