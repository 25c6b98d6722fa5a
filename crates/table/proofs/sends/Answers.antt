-- No other action sends.
use Rattle.std.proofs.Common.{rules}
use Rattle.table.proofs.Columns.{sends_other}
use Rattle.table.proofs.sends.Goals as goal

pub returns-in_default-2 : goal.returns-in_default-2
returns-in_default-2 c = search (rules, sends_other)
