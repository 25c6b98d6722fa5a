-- What is left fills its bytes exactly where all does.
use Rattle.std.proofs.Common.{◌≡◌}
use Rattle.items.specs.Items.{walk, filled}
use Rattle.items.specs.Steps.{left}
use Rattle.items.proofs.fills.Given as goal

abbrev pub invariant-loop-item : goal.invariant-loop-item
invariant-loop-item l = filled (walk l.s) ≡ filled (left l.item-iterator)
