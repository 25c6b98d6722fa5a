-- Lists at a place: a loop at index i has `drop i s` before it. Each step law takes what the loop knows at i to what it must show next.
-- Assumes nothing.
use Prim.Native.Nat.{ℕ, suc, ◌≤◌, ◌<◌, ◌-◌, ◌+◌}
use mathlib.Core.Path.{◌≡◌, ◌∙◌, ap}
use mathlib.Core.Bool.{Bool, true, false}
use mathlib.Core.List.{List, [], ◌∷◌, ◌++◌}
use lib.ListN.{length, take, drop, get_or, drop_of_length-le, length-drop}
use lib.Seq.{drop-cons, take-suc, take_all, length-take-le}
use native.Mathlib.Numerals.{add-one}
use native.Mathlib.Omega.{arith}
use Rattle.laws.specs.Lists.{all}

-- what stands before a loop at i: the element, and what stands before it at i + 1
pub at_cons : (s : List ℕ) (i : ℕ) → i < length s → drop i s ≡ get_or s i 0 ∷ drop (i + 1) s
at_cons s i h = rw (add-one, drop-cons s i 0)

-- after the last element nothing
pub at_end : (s : List ℕ) (i : ℕ) → length s ≤ i → drop i s ≡ []
at_end s i h = drop_of_length-le s h

-- `&s[at..]`, a part from a place to the end
pub part_tail : (at : ℕ) (l : List ℕ) → take (length l - at) (drop at l) ≡ drop at l
part_tail at l = take_all (length l - at) (drop at l) (simp length-drop (omega arith))

-- `&s[..n]` has n bytes
pub counted : (n : ℕ) (l : List ℕ) → n ≤ length l → length (take n l) ≡ n
counted n l h = length-take-le n l h

-- the last of the first e
pub take_last : (s : List ℕ) (e : ℕ) → 0 < e → e ≤ length s → take e s ≡ take (e - 1) s ++ (get_or s (e - 1) 0 ∷ [])
take_last s e p h =
    let q : e ≡ suc (e - 1) = omega arith in
    let l : e - 1 < length s = omega arith in
    ap (λ (k : ℕ). take k s) q ∙ take-suc s (e - 1) 0 l

-- ---- `all` from a place on
module _ (p : ℕ → Bool) (s : List ℕ) (i : ℕ) (h : i < length s) where
  pub all_passes : p (get_or s i 0) ≡ true → all p (drop i s) ≡ all p (drop (i + 1) s)
  all_passes e = rw (at_cons s i h) (simp e)

  pub all_fails : p (get_or s i 0) ≡ false → all p (drop i s) ≡ false
  all_fails e = rw (at_cons s i h) (simp e)

pub all_end : (p : ℕ → Bool) (s : List ℕ) (i : ℕ) → length s ≤ i → all p (drop i s) ≡ true
all_end p s i h = rw (at_end s i h)
