-- Numbers in bytes, low byte first, as x86-64 has them.
use Rattle.std.specs.Prelude.{ℕ, zero, suc, ◌+◌, ◌*◌, ◌/◌, ◌%◌, List, [], ◌∷◌, get_or}

-- a number below 256 ^ n as n bytes
abbrev pub low : ℕ → ℕ → List ℕ
low zero x = []
low (suc n) x = x % 256 ∷ low n (x / 256)

-- the number in the n bytes from a place on
abbrev pub low_at : ℕ → List ℕ → ℕ → ℕ
low_at zero s at = 0
low_at (suc n) s at = get_or s at 0 + 256 * low_at n s (at + 1)
