-- A test of every number below a bound, that antt computes once, and what it says of each of them: how a table's rule is proved.
-- Assumes nothing.
use Prim.Native.Nat.{ℕ, zero, suc, ◌<◌}
use mathlib.Core.Path.{◌≡◌, subst}
use mathlib.Core.Bool.{Bool, true, ◌&&◌}
use native.Mathlib.Omega.{arith}
use native.Mathlib.Decide.{dec_lt}
use lib.Dec.{T}
use Rattle.laws.proofs.Booleans.{T-left, T-right}

abbrev pub all_below : ℕ → (ℕ → Bool) → Bool
all_below zero f = true
all_below (suc n) f = f n && all_below n f

pub below : (n : ℕ) (f : ℕ → Bool) → T (all_below n f) → (k : ℕ) → k < n → T (f k)
below zero f t k h = absurd (omega arith)
below (suc n) f t k h = by (dec_lt k n) (below n f (T-right (f n) (all_below n f) t) k)
  where
    by : Dec (k < n) → (k < n → T (f k)) → T (f k)
    by (yes l) ih = ih l
    by (no l) ih = let e : n ≡ k = omega arith in subst (λ (m : ℕ). T (f m)) e (T-left (f n) (all_below n f) t)
