-- From what a test or a call told to the value of the definition's test: the laws by which `search` follows a definition along the branches that the code took.
-- Assumes nothing.
use Prim.Native.Nat.{ℕ, ◌≤◌, ◌<◌}
use mathlib.Core.Path.{◌≡◌, sym, ◌∙◌}
use mathlib.Core.Bool.{Bool, true, false, cond, not, ◌&&◌}
use lib.Dec.{eqb, ltb, leb}
use borrow.Author.Rules.{rules}
use borrow.Author.Tests.{lt-ltb, le-ltb, le-leb, lt-leb, eq-eqb, ne_eqb, not-true, not-false}

-- ---- one step of a chain of `cond`
pub pick_true : {A : Type 0} (z x y : A) (b : Bool) → b ≡ true → z ≡ x → z ≡ cond b x y
pick_true z x y b e h = rw e h

pub pick_false : {A : Type 0} (z x y : A) (b : Bool) → b ≡ false → z ≡ y → z ≡ cond b x y
pick_false z x y b e h = rw e h

-- ---- one step of a conjunction
pub and_step : (r x y : Bool) → x ≡ true → r ≡ y → r ≡ (x && y)
and_step r x y t q = rw (t, q)

pub no_here : (x y : Bool) → x ≡ false → false ≡ (x && y)
no_here x y t = rw t

-- ---- a call answered the truth value r, which is x
pub call_true : (r x : Bool) → r ≡ x → r ≡ true → x ≡ true
call_true r x p t = sym p ∙ t

pub call_false : (r x : Bool) → r ≡ x → r ≡ false → x ≡ false
call_false r x p t = sym p ∙ t

pub call_not : (r x : Bool) → r ≡ x → not r ≡ true → x ≡ false
call_not r x p t = sym p ∙ not-true r t

pub call_yes : (r x : Bool) → r ≡ x → not r ≡ false → x ≡ true
call_yes r x p t = sym p ∙ not-false r t

pub not_as : (r x : Bool) → r ≡ x → not r ≡ not x
not_as r x p = rw p

-- ---- a call answered the number r, which is x
pub is_eq : (r x y : ℕ) → r ≡ x → r ≡ y → eqb x y ≡ true
is_eq r x y p q = eq-eqb x y (sym p ∙ q)

pub is_ne : (r x y : ℕ) → r ≡ x → (r ≡ y → ⊥) → eqb x y ≡ false
is_ne r x y p q = ne_eqb x y (λ e. q (p ∙ e))

pub is_le : (r x y : ℕ) → r ≡ x → r ≤ y → leb x y ≡ true
is_le r x y p q = le-leb x y (rw p at q)

pub is_gt : (r x y : ℕ) → r ≡ x → y < r → leb x y ≡ false
is_gt r x y p q = lt-leb x y (rw p at q)

pub is_above : (r x y : ℕ) → r ≡ x → y < r → ltb y x ≡ true
is_above r x y p q = lt-ltb y x (rw p at q)

pub is_upto : (r x y : ℕ) → r ≡ x → r ≤ y → ltb y x ≡ false
is_upto r x y p q = le-ltb y x (rw p at q)

pub leb_is : (r x y : ℕ) → r ≡ x → leb r y ≡ leb x y
leb_is r x y p = rw p

-- `search follow` closes a `returns` whose contract is `r ≡ f ..`, with f a nest of `cond` over `ltb`, `leb` and `eqb`
pub ruleset follow = (rules, pick_true, pick_false, lt-ltb, le-ltb, le-leb, lt-leb, eq-eqb, ne_eqb)

-- the same where tests are calls
pub ruleset decide = (follow, call_true, call_false, not_as, is_eq, is_ne)

-- a conjunction of tests, calls among them
pub ruleset deciding = (and_step, no_here, call_true, call_false, call_not, call_yes, is_eq, is_ne, is_le, is_gt, leb_is, eq-eqb, ne_eqb, le-leb, lt-leb)
