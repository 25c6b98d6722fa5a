-- `next` gives the first PDV and leaves the others.
use Rattle.std.proofs.Common.{arith, length}
use mathlib.Core.Path.{ap}
use Rattle.pdvs.proofs.EndLaws.{first_item}
use Rattle.pdvs.proofs.PdvsIterator.next.Goals as goal

pub returns-clause-steps : goal.returns-clause-steps
returns-clause-steps c = first_item c.args.self.now.0.now c.in_ok-end.end (c.in_ok-end.ensures.place)

pub returns-clause-goes : goal.returns-clause-goes
returns-clause-goes c = let e = first_item c.args.self.now.0.now c.in_ok-end.end (c.in_ok-end.ensures.place) in grind (arith, e, ap length e)
