-- Laws of trimming.
-- Assumes nothing.
use Prim.Native.Nat.{ℕ, ◌≤◌, ◌<◌, ◌-◌}
use mathlib.Core.Path.{◌≡◌, refl, sym, ◌∙◌, ap}
use mathlib.Core.List.{List, [], ◌∷◌, ◌++◌, reverse-append, reverse-cons, reverse-reverse}
use lib.ListN.{length, take, drop, get_or}
use lib.Seq.{take-length}
use native.Mathlib.Omega.{arith}
use borrow.Author.Tests.{eq-eqb, ne_eqb}
use Rattle.titles.specs.Title.{trim_start, trim_end}
use Rattle.laws.proofs.Places.{take_last}

-- ---- from the front
pub first_goes : (t : List ℕ) → 1 ≤ length t → get_or t 0 0 ≡ 0x20 → trim_start (drop 1 t) ≡ trim_start t
first_goes [] h e = absurd (omega arith)
first_goes (x ∷ t) h e = simp (eq-eqb _ _ e)

pub first_stays : (t : List ℕ) → (get_or t 0 0 ≡ 0x20 → ⊥) → trim_start t ≡ t
first_stays [] n = refl
first_stays (x ∷ t) n = simp (ne_eqb _ _ n)

pub none_first : (t : List ℕ) → length t < 1 → trim_start t ≡ t
none_first [] h = refl
none_first (x ∷ t) h = absurd (omega arith)

-- ---- from the end
space_goes : (l : List ℕ) (x : ℕ) → x ≡ 0x20 → trim_end (l ++ (x ∷ [])) ≡ trim_end l
unfolding trim_end
space_goes l x e = simp (reverse-append, eq-eqb _ _ e)

other_stays : (l : List ℕ) (x : ℕ) → (x ≡ 0x20 → ⊥) → trim_end (l ++ (x ∷ [])) ≡ l ++ (x ∷ [])
unfolding trim_end
other_stays l x n = simp (reverse-append, ne_eqb _ _ n, reverse-cons, reverse-reverse)

module _ (t : List ℕ) (h : 1 ≤ length t) where
  split : take (length t - 1) t ++ (get_or t (length t - 1) 0 ∷ []) ≡ t
  split = sym (take_last t (length t) (omega arith) (omega arith)) ∙ take-length t

  pub last_goes : get_or t (length t - 1) 0 ≡ 0x20 → trim_end (take (length t - 1) t) ≡ trim_end t
  last_goes e = sym (space_goes (take (length t - 1) t) (get_or t (length t - 1) 0) e) ∙ ap trim_end split

  pub last_stays : (get_or t (length t - 1) 0 ≡ 0x20 → ⊥) → t ≡ trim_end t
  last_stays n = sym split ∙ (sym (other_stays (take (length t - 1) t) (get_or t (length t - 1) 0) n) ∙ ap trim_end split)

pub none_last : (t : List ℕ) → length t < 1 → t ≡ trim_end t
unfolding trim_end
none_last [] h = refl
none_last (x ∷ t) h = absurd (omega arith)
