-- The place is behind what was gone through.
use Rattle.std.proofs.Common.{◌≡◌, ◌+◌, ◌≤◌, length}
use Rattle.items.specs.Items.{walk, place}
use Rattle.items.specs.Steps.{left, rest_of}
use Rattle.items.proofs.place_of.Given as goal

abbrev pub invariant-loop-item : goal.invariant-loop-item
invariant-loop-item l = record {
  place : place l.t (walk l.s) ≡ l.at + place l.t (left l.item-iterator);
  within : l.at + length (rest_of l.item-iterator).now ≤ length l.s;
}
