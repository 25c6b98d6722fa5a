-- The bytes so far are those from the place on.
use Rattle.std.proofs.Common.{◌≡◌, ℕ, ◌+◌, ◌<◌, length, get_or}
use Rattle.octets.proofs.bytes_at.Given as goal

abbrev pub invariant-loop-k : goal.invariant-loop-k
invariant-loop-k g l = record { long : length l.byte-items ≡ l.k-end; so_far : (k : ℕ) → k < l.k → get_or l.byte-items k 0 ≡ get_or l.s (l.at + k) 0 }
