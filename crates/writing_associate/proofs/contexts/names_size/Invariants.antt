-- n counts the base and the names gone over.
use Rattle.std.proofs.Common.{◌≡◌, ◌+◌, ◌≤◌, drop}
use Rattle.numbers.specs.Lengths.{LONGEST}
use Rattle.writing_associate.specs.Private.ContextItems.{names_size}
use Rattle.writing_associate.proofs.contexts.names_size.Given as goal

abbrev pub invariant-loop-r : goal.invariant-loop-r
invariant-loop-r l = (l.n ≤ LONGEST) × (l.base + names_size l.head l.rs ≡ l.n + names_size l.head (drop l.r-index l.rs))
