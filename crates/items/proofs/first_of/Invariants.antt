-- What is left has the first body of all, at its place.
use Rattle.std.proofs.Common.{◌≡◌, ◌+◌}
use Rattle.items.specs.Items.{bodies, first, place}
use Rattle.items.specs.Steps.{left, rest_of}
use Rattle.items.proofs.first_of.Given as goal

abbrev pub invariant-loop-item : goal.invariant-loop-item
invariant-loop-item l = record {
  body : first (bodies l.t (left l.initial.items)) ≡ first (bodies l.t (left l.items));
  block : (rest_of l.items).ref_ptr.0 ≡ (rest_of l.initial.items).ref_ptr.0;
  place : (rest_of l.items).ref_ptr.1 + place l.t (left l.items) ≡ (rest_of l.initial.items).ref_ptr.1 + place l.t (left l.initial.items);
}
