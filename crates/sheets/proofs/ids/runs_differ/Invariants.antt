-- The IDs of the runs gone over come once and are those seen; the rest decides.
use Rattle.std.proofs.Common.{◌≡◌, map}
use Rattle.laws.specs.Lists.{distinct}
use Rattle.id_set.proofs.SeenLaws.{fresh}
use Rattle.sheets.specs.Contexts.{context_id}
use Rattle.sheets.specs.Sheet.{sheet_runs}
use Rattle.sheets.proofs.ids.runs_differ.Given as goal

abbrev pub invariant-loop-run : goal.invariant-loop-run
invariant-loop-run l = distinct (map context_id (sheet_runs l.rs)) ≡ fresh l.seen (map context_id (sheet_runs l.run-iterator.rest.now))
