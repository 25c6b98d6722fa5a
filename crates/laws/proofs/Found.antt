-- An element of a list that passes a test, by its place: some one, none, the first, every one.
-- Assumes nothing.
use Prim.Native.Nat.{ℕ, zero, suc, ◌<◌, ◌≤◌}
use native.Mathlib.Omega.{arith}
use native.Mathlib.Decide.{dec_lt}
use mathlib.Core.Path.{◌≡◌, refl, sym, ◌∙◌}
use mathlib.Core.Bool.{Bool, true, false, cond, ◌||◌}
use mathlib.Core.List.{List, [], ◌∷◌}
use lib.ListN.{length, get_or}
use Rattle.laws.specs.Lists.{all, any, first_place}
use Rattle.laws.proofs.Booleans.{held, not_held, left_of, right_of, both_of, or_left, or_right}

-- ---- the first stands in the list just where there is one
module _ {A : Type 0} (p : A → Bool) where
  pub first_there : (xs : List A) → any p xs ≡ true → first_place p xs < length xs
  first_there [] e = absurd (held false e)
  first_there (x ∷ xs) e = go (p x) e (first_there xs)
    where
      go : (b : Bool) → (b || any p xs) ≡ true → (any p xs ≡ true → first_place p xs < length xs) → cond b 0 (suc (first_place p xs)) < length (x ∷ xs)
      go true q f = omega arith
      go false q f = let t = f q in omega arith

  pub first_none : (xs : List A) → length xs ≤ first_place p xs → any p xs ≡ false
  first_none xs h = not_held (any p xs) (λ e. let t = first_there xs e in omega arith)

-- past the end stands d
module _ {A : Type 0} (p : A → Bool) (d : A) where
  -- ---- none
  pub none_at : (xs : List A) → any p xs ≡ false → (k : ℕ) → k < length xs → p (get_or xs k d) ≡ false
  none_at [] e k h = absurd (omega arith)
  none_at (x ∷ xs) e zero h = or_left (p x) (any p xs) e
  none_at (x ∷ xs) e (suc k) h = none_at xs (or_right (p x) (any p xs) e) k (omega arith)

  -- ---- the first: it passes, and none before it does
  pub first_passes : (xs : List A) → first_place p xs < length xs → p (get_or xs (first_place p xs) d) ≡ true
  first_passes [] h = absurd (omega arith)
  first_passes (x ∷ xs) h = go (p x) refl h (first_passes xs)
    where
      go : (b : Bool) → p x ≡ b → cond b 0 (suc (first_place p xs)) < length (x ∷ xs) → (first_place p xs < length xs → p (get_or xs (first_place p xs) d) ≡ true) → p (get_or (x ∷ xs) (cond b 0 (suc (first_place p xs))) d) ≡ true
      go true q t f = q
      go false q t f = f (omega arith)

  pub none_before : (xs : List A) (k : ℕ) → k < first_place p xs → p (get_or xs k d) ≡ false
  none_before [] k h = absurd (omega arith)
  none_before (x ∷ xs) k h = go (p x) refl k h (none_before xs)
    where
      go : (b : Bool) → p x ≡ b → (k : ℕ) → k < cond b 0 (suc (first_place p xs)) → ((j : ℕ) → j < first_place p xs → p (get_or xs j d) ≡ false) → p (get_or (x ∷ xs) k d) ≡ false
      go true q k t f = absurd (omega arith)
      go false q zero t f = q
      go false q (suc k) t f = f k (omega arith)

  -- and it is the only such place
  pub first_only : (xs : List A) (k : ℕ) → k < length xs → p (get_or xs k d) ≡ true → ((j : ℕ) → j < k → p (get_or xs j d) ≡ false) → first_place p xs ≡ k
  first_only xs k h e n = go (dec_lt (first_place p xs) k) (dec_lt k (first_place p xs))
    where
      go : Dec (first_place p xs < k) → Dec (k < first_place p xs) → first_place p xs ≡ k
      go (yes l) g = absurd (held false (sym (n (first_place p xs) l) ∙ first_passes xs (omega arith)))
      go (no l) (yes g) = absurd (held false (sym (none_before xs k g) ∙ e))
      go (no l) (no g) = omega arith

  -- ---- some one
  pub some_at : (xs : List A) → any p xs ≡ true → (k : ℕ) × ((k < length xs) × (p (get_or xs k d) ≡ true))
  some_at xs e = let h = first_there p xs e in (first_place p xs, (h, first_passes xs h))

  pub any_at : (xs : List A) (k : ℕ) → k < length xs → p (get_or xs k d) ≡ true → any p xs ≡ true
  any_at xs k h e = go (any p xs) refl
    where
      go : (b : Bool) → any p xs ≡ b → b ≡ true
      go true q = refl
      go false q = absurd (held false (sym (none_at xs q k h) ∙ e))

  pub first_some : (xs : List A) → first_place p xs < length xs → any p xs ≡ true
  first_some xs h = any_at xs (first_place p xs) h (first_passes xs h)

  -- ---- every one
  pub all_at : (xs : List A) → all p xs ≡ true → (k : ℕ) → k < length xs → p (get_or xs k d) ≡ true
  all_at [] e k h = absurd (omega arith)
  all_at (x ∷ xs) e zero h = left_of (p x) (all p xs) e
  all_at (x ∷ xs) e (suc k) h = all_at xs (right_of (p x) (all p xs) e) k (omega arith)

  pub at_all : (xs : List A) → ((k : ℕ) → k < length xs → p (get_or xs k d) ≡ true) → all p xs ≡ true
  at_all [] f = refl
  at_all (x ∷ xs) f = both_of _ _ (f 0 (omega arith)) (at_all xs (λ k h. f (suc k) (omega arith)))
