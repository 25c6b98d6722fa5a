-- The bytes so far are those that are copied.
use Rattle.std.proofs.Common.{◌≡◌, ℕ, ◌<◌, length, get_or}
use Rattle.octets.proofs.copy.Given as goal

abbrev pub invariant-loop-k : goal.invariant-loop-k
invariant-loop-k l = record { long : length l.to ≡ l.k-end; so_far : (k : ℕ) → k < l.k → get_or l.to k 0 ≡ get_or l.bytes k 0 }
