-- The IDs of the records gone over come once and are those seen; the rest decides.
use Rattle.std.proofs.Common.{◌≡◌, map, drop}
use Rattle.laws.specs.Lists.{distinct}
use Rattle.id_set.proofs.SeenLaws.{fresh}
use Rattle.sheets.specs.Sheet.{record_id}
use Rattle.sheets.proofs.ids.ids_differ.Given as goal

abbrev pub invariant-loop-r : goal.invariant-loop-r
invariant-loop-r l = distinct (map record_id l.rs) ≡ fresh l.seen (map record_id (drop l.r-index l.rs))
