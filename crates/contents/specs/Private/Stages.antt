-- For the private functions: the stages of the code as the numbers of Order, and the order that a holder knows as a rule.
use Rattle.std.specs.Prelude.{ℕ, List, Bool, Option, None, Some}
use Rattle.items.specs.Private.Rules.{Rule}
use Rattle.contents.specs.declared.order.Stage.{Stage}
use Rattle.contents.specs.declared.order.Stage.TheVariants.{Start, First, Many, Last}
use Rattle.contents.specs.declared.order.Order.{Order}
use Rattle.contents.specs.Private.Order.{wrong, next, in_order}

abbrev pub stage_number : Stage → ℕ
stage_number Start = 0
stage_number First = 1
stage_number Many = 2
stage_number Last = 3

abbrev pub stage_after : Option Stage → ℕ
stage_after None = wrong
stage_after (Some s) = stage_number s

-- where there is no last type, nothing comes behind the many: `next` looks for these first
abbrev pub last_type : ℕ → Option ℕ → ℕ
last_type many None = many
last_type many (Some t) = t

abbrev pub end_number : Option ℕ → ℕ
end_number None = 2
end_number (Some t) = 3

abbrev pub next_in : Order → ℕ → ℕ → ℕ
next_in o = next o.first o.many (last_type o.many o.last)

abbrev pub last_stage : Order → ℕ
last_stage o = end_number o.last

abbrev pub rule_of : Order → (ℕ → List ℕ → Bool) → Rule
rule_of o good = in_order good o.first o.many (last_type o.many o.last) (end_number o.last)

-- of a 20H, and of an RQ or an AC with k for the type of a context
abbrev pub sub_order : Order
sub_order = record { first = 0x30; many = 0x40; last = None }

abbrev pub top_order : ℕ → Order
top_order k = record { first = 0x10; many = k; last = Some 0x50 }
