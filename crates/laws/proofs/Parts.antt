-- Parts of a list: the equation of a walk without its count of steps, and what a part at a place tells, in the forms that a loop's needs have.
-- Assumes nothing.
use Prim.Native.Nat.{ℕ, zero, suc, ◌+◌, ◌-◌, ◌^◌, ◌≤◌, ◌<◌}
use native.Mathlib.Omega.{arith}
use mathlib.Core.Bool.{Bool, true, false, ◌&&◌, cond}
use mathlib.Core.List.{List, [], ◌∷◌}
use mathlib.Core.Path.{◌≡◌, refl, sym, ◌∙◌}
use lib.ListN.{length}
use lib.Dec.{leb, ltb}
use borrow.Author.Rules.{rules}
use borrow.Author.Tests.{le-leb, lt-leb, leb-true, leb-false, ltb-true}
use mir.Val.{Fits}
use mir.Syntax.{w64}
use Rattle.laws.specs.Parts.{steps, part_end}
use Rattle.laws.proofs.Booleans.{left_of, right_of, both_of}

-- ---- a step that goes on with fewer bytes alone: as many steps as bytes are enough
module _ {A : Type 0} (step : (List ℕ → A) → List ℕ → A) (stop : List ℕ → A) (nil : (go : List ℕ → A) → step go [] ≡ stop [])
    (fewer : (f g : List ℕ → A) (s : List ℕ) → ((r : List ℕ) → length r ≤ length s - 1 → f r ≡ g r) → step f s ≡ step g s) where
  enough : (n m : ℕ) (s : List ℕ) → length s ≤ n → length s ≤ m → steps step stop n s ≡ steps step stop m s
  enough zero zero s h g = refl
  enough zero (suc m) [] h g = sym (nil (steps step stop m))
  enough zero (suc m) (x ∷ s) h g = absurd (omega arith)
  enough (suc n) zero [] h g = nil (steps step stop n)
  enough (suc n) zero (x ∷ s) h g = absurd (omega arith)
  enough (suc n) (suc m) s h g = fewer (steps step stop n) (steps step stop m) s (λ r l. enough n m r (omega arith) (omega arith))

  pub stepped : (s : List ℕ) → steps step stop (length s) s ≡ step (λ r. steps step stop (length r) r) s
  stepped s =
      enough (length s) (suc (length s)) s (omega arith) (omega arith)
      ∙ fewer (steps step stop (length s)) (λ r. steps step stop (length r) r) s (λ r l. enough (length s) (length r) r (omega arith) (omega arith))

-- ---- a part of 4 + m bytes stands at a place and ends at e
pub record Part (least : ℕ) (s : List ℕ) (at m e : ℕ) : Type 0 where
  pub is : e ≡ at + 4 + m
  pub low : least ≤ m
  pub to : e ≤ length s

-- the test of a step that stands there
abbrev pub stands : ℕ → List ℕ → ℕ → ℕ → Bool
stands least s at m = leb least m && leb (4 + m) (length s - at)

module _ (least : ℕ) (s : List ℕ) (at m e : ℕ) (p : e ≡ part_end least s at m) where
  pub part_there : (e ≡ 0 → ⊥) → Part least s at m e
  unfolding part_end
  part_there ne = go (leb least m && leb (at + 4 + m) (length s)) refl
    where
      go : (d : Bool) → (leb least m && leb (at + 4 + m) (length s)) ≡ d → Part least s at m e
      go false q = absurd (ne (p ∙ simp q))
      go true q =
          let i : e ≡ at + 4 + m = p ∙ simp q in
          let l : at + 4 + m ≤ length s = leb-true _ _ (right_of (leb least m) (leb (at + 4 + m) (length s)) q) in
          record { is = i; low = leb-true _ _ (left_of (leb least m) (leb (at + 4 + m) (length s)) q); to = omega arith }

  pub part_stands : (e ≡ 0 → ⊥) → stands least s at m ≡ true
  part_stands ne = let i = part_there ne in both_of _ _ (le-leb least m (omega arith)) (le-leb (4 + m) (length s - at) (omega arith))

  pub part_not : e ≡ 0 → stands least s at m ≡ false
  unfolding part_end
  part_not z = go (leb least m) (leb (at + 4 + m) (length s)) refl p
    where
      go : (a b : Bool) → leb (at + 4 + m) (length s) ≡ b → e ≡ cond (a && b) (at + 4 + m) 0 → (a && leb (4 + m) (length s - at)) ≡ false
      go false b q r = refl
      go true true q r = absurd (omega arith)
      go true false q r = let h : length s < at + 4 + m = leb-false _ _ q in lt-leb (4 + m) (length s - at) (omega arith)

  -- where it lies
  module _ (ne : e ≡ 0 → ⊥) where
    pub part_to : e ≤ length s
    part_to = (part_there ne).to

    pub part_less : length s - e < length s - at
    part_less = let i = part_there ne in omega arith

    pub part_from : (k : ℕ) → leb k (4 + least) ≡ true → at + k ≤ e
    part_from k q = let i = part_there ne in let h : k ≤ 4 + least = leb-true _ _ q in omega arith

    pub part_in : (k : ℕ) → ltb k (4 + least) ≡ true → at + k < length s
    part_in k q = let i = part_there ne in let h : k < 4 + least = ltb-true _ _ q in omega arith

    pub part_fits : (k : ℕ) → leb k (4 + least) ≡ true → length s < 2 ^ 64 → Fits w64 (at + k)
    part_fits k q l = let i = part_there ne in let h : k ≤ 4 + least = leb-true _ _ q in omega arith

-- for any loop over parts
pub ruleset parting = (part_to, part_less, part_from, part_in, part_fits, rules)

-- ---- what a call that looks for a part's end answers, from its tests: of the head's h bytes, and of the number n that it read there
module _ (least : ℕ) (s : List ℕ) (at m : ℕ) where
  none : (least ≤ m → length s < at + 4 + m) → 0 ≡ part_end least s at m
  unfolding part_end
  none f = go (leb least m) refl
    where
      go : (a : Bool) → leb least m ≡ a → 0 ≡ cond (a && leb (at + 4 + m) (length s)) (at + 4 + m) 0
      go false q = refl
      go true q = simp (lt-leb (at + 4 + m) (length s) (f (leb-true _ _ q)))

  pub end_short : (h : ℕ) → leb h (4 + least) ≡ true → length s < h → 0 ≡ part_end least s at m
  end_short h q l = let r : h ≤ 4 + least = leb-true _ _ q in none (λ g. omega arith)

  pub end_late : (h : ℕ) → leb h (4 + least) ≡ true → h ≤ length s → length s - h < at → 0 ≡ part_end least s at m
  end_late h q k l = let r : h ≤ 4 + least = leb-true _ _ q in none (λ g. omega arith)

  module _ (n : ℕ) (p : n ≡ m) where
    pub end_low : n < least → 0 ≡ part_end least s at m
    end_low l = none (λ g. absurd (omega arith))

    module _ (h : ℕ) (k : h ≤ length s) (l : at ≤ length s - h) (q : leb 4 h ≡ true) where
      pub end_over : length s - 4 - at < n → 0 ≡ part_end least s at m
      end_over g = let r : 4 ≤ h = leb-true _ _ q in none (λ w. omega arith)

      pub end_is : leb least n ≡ true → n ≤ length s - 4 - at → at + 4 + n ≡ part_end least s at m
      unfolding part_end
      end_is w g =
          let r : 4 ≤ h = leb-true _ _ q in
          rw (← p, w, le-leb (at + 4 + n) (length s) (omega arith))

pub any_length : (n : ℕ) → leb 0 n ≡ true
any_length n = le-leb 0 n (omega arith)

pub ruleset end_laws = (end_short, end_late, end_low, end_over, end_is, any_length, le-leb, rules)
