-- What is left of the title trims as all of it did: first from the front, then from the back.
use Rattle.std.proofs.Common.{◌≡◌, length}
use Rattle.titles.specs.Title.{trim_start, trim_end, trim}
use Rattle.titles.proofs.equal.trimmed.Given as goal

abbrev pub invariant-loop-t : goal.invariant-loop-t
invariant-loop-t l = trim_start l.t ≡ trim_start l.fn.s

abbrev pub decreases-loop-t : goal.decreases-loop-t
decreases-loop-t l = length l.t

abbrev pub invariant-loop-t-2 : goal.invariant-loop-t-2
invariant-loop-t-2 l = trim_end l.t ≡ trim l.fn.s

abbrev pub decreases-loop-t-2 : goal.decreases-loop-t-2
decreases-loop-t-2 l = length l.t
