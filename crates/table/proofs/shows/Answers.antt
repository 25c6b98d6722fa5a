-- No other action shows the PDU.
use Rattle.std.proofs.Common.{rules}
use Rattle.table.proofs.Columns.{shows_other}
use Rattle.table.proofs.shows.Goals as goal

pub returns-in_default-2 : goal.returns-in_default-2
returns-in_default-2 c = search (rules, shows_other)
