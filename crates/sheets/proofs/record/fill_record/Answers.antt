use Rattle.sheets.proofs.RecordLaws.{fill_laws}
use Rattle.sheets.proofs.record.fill_record.Goals as goal

pub returns : goal.returns
returns c = search fill_laws
