use Rattle.std.proofs.Common.{◌+◌, ◌<◌, arith, length}
use Rattle.roles.proofs.RecordLaws.{uid_laws}
use Rattle.roles.proofs.record.uid_at.Goals as goal
use Rattle.roles.proofs.record.uid_at.Goals.{then-s-lt-ROLE-via-then-s-lt-ROLE, then-s-lt-ROLE-via-else-s-lt-ROLE+then-s-at}

pub returns-then-s-lt-ROLE : goal.returns-then-s-lt-ROLE
returns-then-s-lt-ROLE c =
    let h : length c.args.s.now < c.args.at + 68
    = elim c.then-s-lt-ROLE.branch [ then-s-lt-ROLE-via-then-s-lt-ROLE w ↦ omega arith | then-s-lt-ROLE-via-else-s-lt-ROLE+then-s-at w ↦ omega arith ] in
    search uid_laws

pub returns : goal.returns
returns c = search uid_laws
