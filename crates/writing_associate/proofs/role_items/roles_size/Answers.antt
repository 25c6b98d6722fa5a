-- `roles_size`: one 54H more, above the limit, or all.
use Rattle.std.proofs.Common.{arith}
use Rattle.writing_associate.proofs.RoleLaws.{size_over, roles_size_laws}
use Rattle.writing_associate.proofs.role_items.roles_size.Goals as goal

pub returns-then-n-gt-LONGEST : goal.returns-then-n-gt-LONGEST
returns-then-n-gt-LONGEST c =
    size_over c.args.base c.args.rs.now c.loop-r.n c.loop-r.r-index c.loop-r.invariant.1 (omega arith) c.uid_of.result.now c.uid_of.ensures.0 (omega arith)

pub loop-r-preserved : goal.loop-r-preserved
loop-r-preserved c = search roles_size_laws

pub returns : goal.returns
returns c = search roles_size_laws
