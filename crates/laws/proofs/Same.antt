-- `same_bytes` is equality; a loop compares two lists byte by byte.
-- Assumes nothing.
use Prim.Native.Nat.{ℕ, suc, ◌≤◌, ◌<◌, ◌+◌, ◌-◌}
use mathlib.Core.Path.{◌≡◌, refl, sym, ap, ◌∙◌}
use mathlib.Core.Logic.{◌↔◌}
use mathlib.Core.Bool.{Bool, true, false, not, ◌&&◌, cond, and-false, and-true}
use mathlib.Core.List.{List, [], ◌∷◌}
use lib.ListN.{length, drop, get_or}
use lib.Dec.{T, eqb, eqb→eq, eqb_refl}
use native.Mathlib.Omega.{arith}
use borrow.Author.Rules.{rules}
use Rattle.laws.specs.Lists.{same_bytes}
use Rattle.laws.proofs.Booleans.{T-left, T-right, T-both, held}
use Rattle.laws.proofs.Places.{at_cons, at_end}

pub same_equal : (a b : List ℕ) → T (same_bytes a b) → a ≡ b
same_equal [] [] t = refl
same_equal [] (y ∷ b) t = absurd t
same_equal (x ∷ a) [] t = absurd t
same_equal (x ∷ a) (y ∷ b) t =
    let p : x ≡ y = eqb→eq x y (T-left (eqb x y) (same_bytes a b) t) in
    let q : a ≡ b = same_equal a b (T-right (eqb x y) (same_bytes a b) t) in
    cc

pub same_self : (a : List ℕ) → T (same_bytes a a)
same_self [] = tt
same_self (x ∷ a) = T-both (eqb x x) (same_bytes a a) (eqb_refl x) (same_self a)

pub same_means : (a b : List ℕ) → T (same_bytes a b) ↔ (a ≡ b)
same_means a b = (same_equal a b, λ e. rw e (same_self b))

-- ---- the loop, premises in the words of the code
pub same_lengths : (a b : List ℕ) → (length a ≡ length b → ⊥) → false ≡ same_bytes a b
same_lengths [] [] n = absurd (n refl)
same_lengths [] (y ∷ b) n = refl
same_lengths (x ∷ a) [] n = refl
same_lengths (x ∷ a) (y ∷ b) n = rw (← same_lengths a b (λ e. n (ap suc e))) (sym (and-false (eqb x y)))

pub same_none : (a b : List ℕ) → length a ≡ 0 → length a ≡ length b → true ≡ same_bytes a b
same_none [] [] e q = refl
same_none [] (y ∷ b) e q = absurd (omega arith)
same_none (x ∷ a) b e q = absurd (omega arith)

pub same_last : (a b : List ℕ) → (get_or a (length a - 1) 0 ≡ get_or b (length a - 1) 0 → ⊥) → false ≡ same_bytes a b
same_last a b n = go (same_bytes a b) refl
  where
    go : (d : Bool) → same_bytes a b ≡ d → false ≡ d
    go true e = absurd (n (ap (λ (l : List ℕ). get_or l (length a - 1) 0) (same_equal a b (held _ e))))
    go false e = refl

-- d tells whether one of the first i differs; the rest decides
pub Comparing : List ℕ → List ℕ → Bool → ℕ → Type 0
Comparing a b d i = same_bytes a b ≡ (not d && same_bytes (drop i a) (drop i b))

pub compare_start : (a b : List ℕ) → Comparing a b false 0
unfolding Comparing
compare_start a b = refl

module _ (a b : List ℕ) (i : ℕ) (d : Bool) (v : Comparing a b d i) (q : length a ≡ length b) where
  pub compare_next : (r : Bool) → i < length a → r ≡ cond (eqb (get_or a i 0) (get_or b i 0)) d true → Comparing a b r (i + 1)
  unfolding Comparing
  compare_next r h e = v ∙ (rw (at_cons a i h, at_cons b i (omega arith), e) (go (eqb (get_or a i 0) (get_or b i 0)) d (same_bytes (drop (i + 1) a) (drop (i + 1) b))))
    where
      go : (x d s : Bool) → (not d && (x && s)) ≡ (not (cond x d true) && s)
      go true d s = refl
      go false true s = refl
      go false false s = refl

  pub compare_end : length a ≤ i → not d ≡ same_bytes a b
  unfolding Comparing
  compare_end h = sym (v ∙ (rw (at_end a i h, at_end b i (omega arith)) (and-true (not d))))

pub ruleset same_laws = (rules, same_lengths, same_none, same_last, compare_start, compare_next, compare_end)
