-- n counts the base and the runs gone over.
use Rattle.std.proofs.Common.{◌≡◌, ◌+◌, ◌≤◌, length}
use Rattle.numbers.specs.Lengths.{LONGEST}
use Rattle.writing_associate.specs.Private.ContextItems.{run_items}
use Rattle.writing_associate.proofs.contexts.runs_size.Given as goal

abbrev pub invariant-loop-run : goal.invariant-loop-run
invariant-loop-run l = (l.n ≤ LONGEST) × (l.base + length (run_items l.rs) ≡ l.n + length (run_items l.run-iterator.rest.now))
