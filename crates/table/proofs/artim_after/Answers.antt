-- No other action starts or stops the timer.
use Rattle.std.proofs.Common.{rules}
use Rattle.table.proofs.Columns.{artim_other}
use Rattle.table.proofs.artim_after.Goals as goal

pub returns-in_default : goal.returns-in_default
returns-in_default c = search (rules, artim_other)
