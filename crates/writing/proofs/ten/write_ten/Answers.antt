-- `write_ten`: of no PDU nothing is written.
use Rattle.writing.proofs.TenLaws.{nothing_placed}
use Rattle.writing.proofs.ten.write_ten.Goals as goal

pub returns-in-None : goal.returns-in-None
returns-in-None c = nothing_placed _ _ (rw c.in-None.is at c.ten_of.ensures)
