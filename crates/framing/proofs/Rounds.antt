-- Where each round leaves fewer bytes, as many rounds as bytes are enough: the equation without fuel.
-- Assumes nothing.
use Prim.Native.Nat.{ℕ, zero, suc, ◌≤◌, ◌<◌}
use mathlib.Core.List.{List, [], ◌∷◌}
use native.Mathlib.Omega.{arith}
use lib.ListN.{length}
use Rattle.framing.specs.Rounds.{rounds, by_length}

-- `Rel` is the sameness that is meant: equality, or equality from every state that matters
module _ {X : Type 0} (spent : List ℕ → X) (body : (List ℕ → X) → List ℕ → X) (Rel : X → X → Type 0)
    (shorter : (go to : List ℕ → X) (s : List ℕ) → ((t : List ℕ) → length t < length s → Rel (go t) (to t)) → Rel (body go s) (body to s))
    (empty : Rel (spent []) (spent []))
    (first : (to : List ℕ → X) → Rel (spent []) (body to []))
    (last : (go : List ℕ → X) → Rel (body go []) (spent [])) where
  enough : (k m : ℕ) (s : List ℕ) → length s ≤ k → length s ≤ m → Rel (rounds spent body k s) (rounds spent body m s)
  unfolding rounds
  enough zero zero [] h l = empty
  enough zero (suc m) [] h l = first (rounds spent body m)
  enough zero m (x ∷ s) h l = absurd (omega arith)
  enough (suc k) zero [] h l = last (rounds spent body k)
  enough (suc k) zero (x ∷ s) h l = absurd (omega arith)
  enough (suc k) (suc m) s h l = shorter (rounds spent body k) (rounds spent body m) s (λ t lt. enough k m t (omega arith) (omega arith))

  pub without_fuel : (s : List ℕ) → Rel (by_length spent body s) (body (by_length spent body) s)
  unfolding rounds by_length
  without_fuel [] = first (by_length spent body)
  without_fuel (x ∷ s) =
      shorter (rounds spent body (length s)) (by_length spent body) (x ∷ s) (λ t lt. enough (length s) (length t) t (omega arith) (omega arith))
