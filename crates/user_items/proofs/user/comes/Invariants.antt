-- What comes, comes among those that are left.
use Rattle.std.proofs.Common.{◌≡◌}
use Rattle.items.specs.Steps.{left}
use Rattle.user_items.specs.Kinds.{user_kinds}
use Rattle.user_items.specs.Private.OnePass.{once_in, comes}
use Rattle.user_items.proofs.user.comes.Given as goal

abbrev pub invariant-loop-item : goal.invariant-loop-item
invariant-loop-item l =
    comes (once_in user_kinds l.t) l.t l.x (left l.fn.among) ≡ comes (once_in user_kinds l.t) l.t l.x (left l.item-iterator)
