-- No ID was seen twice so far, and those that are left decide.
use Rattle.std.proofs.Common.{◌≡◌}
use Rattle.laws.specs.Lists.{distinct}
use Rattle.id_set.proofs.SeenLaws.{fresh}
use Rattle.items.specs.Items.{walk}
use Rattle.items.specs.Steps.{left}
use Rattle.contents.specs.Contents.{ids}
use Rattle.contents.proofs.ids.ids_differ.Given as goal

abbrev pub invariant-loop-item : goal.invariant-loop-item
invariant-loop-item l = distinct (ids l.k (walk l.s)) ≡ fresh l.seen (ids l.k (left l.item-iterator))
