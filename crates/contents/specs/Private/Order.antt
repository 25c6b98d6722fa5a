-- For the private functions: the order of the known items as the loops follow it, with a number for what came so far (OrderLaws: it comes to `subs_ok`
-- and `top_ok`).
use Rattle.std.specs.Prelude.{ℕ, Bool, true, cond, List, eqb}
use Rattle.names.specs.Name.{name_ok}
use Rattle.items.specs.Private.Rules.{Rule}
use Rattle.contents.specs.Contents.{top_good}

-- the state after a known item that is out of order: none leads on from it
abbrev pub wrong : ℕ
wrong = 9

-- one item of type `first`, one or more of type `many`, one of type `last`. 0: none yet; 1: after the first; 2: after one of the many; 3: after the last
unfoldable pub next : ℕ → ℕ → ℕ → ℕ → ℕ → ℕ
next first many last st t =
    cond (eqb t first) (cond (eqb st 0) 1 wrong)
    (cond (eqb t many) (cond (eqb st 1) 2 (cond (eqb st 2) 2 wrong))
    (cond (eqb t last) (cond (eqb st 2) 3 wrong)
    st))

-- items with good bodies in that order, up to a state
abbrev pub in_order : (ℕ → List ℕ → Bool) → ℕ → ℕ → ℕ → ℕ → Rule
in_order good first many last end = record { good = good; next = next first many last; last = end }

-- ---- in a 20H, where nothing comes behind the 40H: `next` looks for `many` before it looks for `last`
unfoldable pub sub_good : ℕ → List ℕ → Bool
sub_good t b = cond (eqb t 0x30) (name_ok b) (cond (eqb t 0x40) (name_ok b) true)

abbrev pub sub_rule : Rule
sub_rule = in_order sub_good 0x30 0x40 0x40 2

-- ---- in an RQ or an AC
abbrev pub top_rule : ℕ → Rule
top_rule k = in_order (top_good k) 0x10 k 0x50 3
