-- A test of every event in every state, that antt computes once, and what it says of each of them.
-- Assumes nothing.
use Prim.Native.Nat.{ℕ, zero, suc, ◌≤◌, ◌<◌}
use mathlib.Core.Bool.{Bool}
use native.Mathlib.Omega.{arith}
use lib.Dec.{T}
use Rattle.laws.proofs.Below.{all_below, below}

-- events 1 to 19, states 1 to 13
abbrev pub grid : (ℕ → ℕ → Bool) → Bool
grid f = all_below 19 (λ e. all_below 13 (λ s. f (suc e) (suc s)))

pub each : (f : ℕ → ℕ → Bool) → T (grid f) → (e s : ℕ) → 1 ≤ e → e < 20 → 1 ≤ s → s < 14 → T (f e s)
each f t zero s a b c d = absurd (omega arith)
each f t (suc e) zero a b c d = absurd (omega arith)
each f t (suc e) (suc s) a b c d =
    below 13 (λ k. f (suc e) (suc k)) (below 19 (λ j. all_below 13 (λ k. f (suc j) (suc k))) t e (omega arith)) s (omega arith)
