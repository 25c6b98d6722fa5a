-- Those that are left pass exactly where all do.
use Rattle.std.proofs.Common.{◌≡◌}
use Rattle.items.specs.Items.{walk}
use Rattle.items.specs.Steps.{left}
use Rattle.user_items.specs.Kinds.{user_kinds}
use Rattle.user_items.specs.Private.OnePass.{passes}
use Rattle.user_items.proofs.user.subs_ok.Given as goal

abbrev pub invariant-loop-item : goal.invariant-loop-item
invariant-loop-item l = passes user_kinds (walk l.s) ≡ passes user_kinds (left l.items)
