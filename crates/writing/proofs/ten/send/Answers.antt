-- `send`: refused, or written.
use Rattle.writing.proofs.TenLaws.{send_laws}
use Rattle.writing.proofs.ten.send.Goals as goal

pub returns-then-out-lt-TEN : goal.returns-then-out-lt-TEN
returns-then-out-lt-TEN c = search send_laws

pub returns : goal.returns
returns c = search send_laws
