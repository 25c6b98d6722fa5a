-- Rounds: the one recursion of this crate that is not on a list's own shape, and the one place with fuel.
use Rattle.std.specs.Prelude.{ℕ, zero, suc, List, length}

-- A body works on a list of bytes, and may call itself on what it leaves of it.
module _ {X : Type 0} (spent : List ℕ → X) (body : (List ℕ → X) → List ℕ → X) where
  -- at most k rounds, and `spent` where they are used up
  unfoldable pub rounds : ℕ → List ℕ → X
  rounds zero s = spent s
  rounds (suc k) s = body (rounds k) s

  -- As many rounds as there are bytes. A body that leaves fewer bytes at each round never uses them up: what to believe is the equation without them,
  -- by_length s ≡ body by_length s. It is proved for framing as `split_step` (proofs/Split) and for the host's loop as `feed_step` (proofs/Hosts).
  unfoldable pub by_length : List ℕ → X
  by_length s = rounds (length s) s
