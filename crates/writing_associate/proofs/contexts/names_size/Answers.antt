-- `names_size`: one name more, above the limit, or all.
use Rattle.std.proofs.Common.{arith}
use Rattle.writing_associate.proofs.ContextLaws.{names_over, names_laws}
use Rattle.writing_associate.proofs.contexts.names_size.Goals as goal

pub returns-then-n-gt-LONGEST : goal.returns-then-n-gt-LONGEST
returns-then-n-gt-LONGEST c =
    names_over c.args.head c.args.base c.args.rs.now c.loop-r.n c.loop-r.r-index c.loop-r.invariant.1 (omega arith) c.transfer_of.result.now c.transfer_of.ensures.0 (omega arith)

pub loop-r-preserved : goal.loop-r-preserved
loop-r-preserved c = search names_laws

pub returns : goal.returns
returns c = search names_laws
