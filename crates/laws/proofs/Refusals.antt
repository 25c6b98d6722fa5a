-- Laws of refusals in order: which number is given, what a refusal that is not given tells, and one list behind the other.
-- Assumes nothing.
use Prim.Native.Nat.{ℕ}
use mathlib.Core.Path.{◌≡◌, refl}
use mathlib.Core.Bool.{Bool, true, false, not, cond}
use mathlib.Core.List.{List, [], ◌∷◌, ◌++◌}
use lib.Dec.{eqb}
use borrow.Author.Tests.{eqb-true, eqb-false, not-true}
use Rattle.laws.specs.Lists.{all}
use Rattle.laws.specs.Refusals.{first_due}
use Rattle.laws.proofs.Booleans.{held, left_of, right_of}

-- no number is 0, which stands for no refusal
abbrev pub numbered : List (Bool × ℕ) → Bool
numbered ts = all (λ t. not (eqb t.1 0)) ts

-- ---- which is given

-- that of a test that holds and has none before it that does
pub due_at : (xs ys : List (Bool × ℕ)) (n : ℕ) → all (λ t. not t.0) xs ≡ true → first_due (xs ++ ((true, n) ∷ ys)) ≡ n
due_at [] ys n h = refl
due_at ((true, m) ∷ xs) ys n h = absurd (held false h)
due_at ((false, m) ∷ xs) ys n h = due_at xs ys n h

-- none where no test holds
pub due_none : (xs : List (Bool × ℕ)) → all (λ t. not t.0) xs ≡ true → first_due xs ≡ 0
due_none [] h = refl
due_none ((true, m) ∷ xs) h = absurd (held false h)
due_none ((false, m) ∷ xs) h = due_none xs h

-- a refusal that is not given
pub not_due : (b : Bool) (n m : ℕ) → (n ≡ 0 → ⊥) → cond b n m ≡ 0 → (b ≡ false) × (m ≡ 0)
not_due true n m h e = absurd (h e)
not_due false n m h e = (refl, e)

-- ---- one list behind the other

-- a refusal by the first list stands
pub due_first : (xs ys : List (Bool × ℕ)) → (first_due xs ≡ 0 → ⊥) → first_due (xs ++ ys) ≡ first_due xs
due_first [] ys h = absurd (h refl)
due_first ((true, n) ∷ xs) ys h = refl
due_first ((false, n) ∷ xs) ys h = due_first xs ys h

-- where it gives none, the second decides
pub due_second : (xs ys : List (Bool × ℕ)) → numbered xs ≡ true → first_due xs ≡ 0 → first_due (xs ++ ys) ≡ first_due ys
due_second [] ys k z = refl
due_second ((true, n) ∷ xs) ys k z = absurd (eqb-false n 0 (not-true (eqb n 0) (left_of _ _ k)) z)
due_second ((false, n) ∷ xs) ys k z = due_second xs ys (right_of (not (eqb n 0)) _ k) z

pub due_both : (xs ys : List (Bool × ℕ)) → numbered xs ≡ true → first_due (xs ++ ys) ≡ cond (eqb (first_due xs) 0) (first_due ys) (first_due xs)
due_both xs ys k = go (eqb (first_due xs) 0) refl
  where
    go : (b : Bool) → eqb (first_due xs) 0 ≡ b → first_due (xs ++ ys) ≡ cond b (first_due ys) (first_due xs)
    go true e = due_second xs ys k (eqb-true _ _ e)
    go false e = due_first xs ys (eqb-false _ _ e)

-- where both give none
pub due_neither : (xs ys : List (Bool × ℕ)) → numbered xs ≡ true → first_due (xs ++ ys) ≡ 0 → (first_due xs ≡ 0) × (first_due ys ≡ 0)
due_neither [] ys k z = (refl, z)
due_neither ((true, n) ∷ xs) ys k z = absurd (eqb-false n 0 (not-true (eqb n 0) (left_of _ _ k)) z)
due_neither ((false, n) ∷ xs) ys k z = due_neither xs ys (right_of (not (eqb n 0)) _ k) z
