-- There are as many as were counted and those that are left; none has fewer bytes than one.
use Rattle.std.proofs.Common.{◌≡◌, ◌+◌, ◌≤◌, length}
use Rattle.items.specs.Items.{walk, bodies}
use Rattle.items.specs.Steps.{left, rest_of}
use Rattle.items.proofs.count_of.Given as goal

abbrev pub invariant-loop-item : goal.invariant-loop-item
invariant-loop-item l = record {
  count : length (bodies l.t (walk l.s)) ≡ l.n + length (bodies l.t (left l.item-iterator));
  below : l.n + length (rest_of l.item-iterator).now ≤ length l.s;
}
