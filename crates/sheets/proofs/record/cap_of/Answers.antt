use Rattle.sheets.proofs.RecordLaws.{cap_is}
use Rattle.std.proofs.Common.{arith}
use Rattle.sheets.proofs.record.cap_of.Goals as goal

pub returns : goal.returns
returns c = (cap_is _ _ c.min.ensures, omega arith)
