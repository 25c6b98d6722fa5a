use Rattle.sheets.proofs.RecordLaws.{same_laws}
use Rattle.sheets.proofs.record.same_run.Goals as goal

pub returns-then-r-next : goal.returns-then-r-next
returns-then-r-next c = search same_laws

pub returns-else-r-next : goal.returns-else-r-next
returns-else-r-next c = search same_laws
