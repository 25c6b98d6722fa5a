-- The items of the runs gone over are there, and the rest has room and keeps the limit.
use Rattle.std.proofs.Common.{◌≤◌, length}
use Rattle.numbers.specs.Lengths.{LONGEST}
use Rattle.writing_associate.specs.Private.ContextItems.{run_items}
use Rattle.writing_associate.proofs.ItemLaws.{Writing}
use Rattle.writing_associate.proofs.contexts.put_runs.Given as goal

abbrev pub invariant-loop-run : goal.invariant-loop-run
invariant-loop-run l =
    (length (run_items l.run-iterator.rest.now) ≤ LONGEST)
    × Writing l.fn.out l.from (run_items l.rs) l.out l.n (run_items l.run-iterator.rest.now)
