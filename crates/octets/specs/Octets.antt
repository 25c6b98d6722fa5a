-- Numbers of two and four bytes, high byte first (PS3.8, 9.3.1: "Big Endian byte ordering").
use Rattle.std.specs.Prelude.{ℕ, ◌+◌, ◌*◌, ◌/◌, ◌%◌, Bool, List, [], ◌∷◌, eqb, get_or}

-- the number in the two bytes from a place on; a byte past the end counts as 0
unfoldable pub be16 : List ℕ → ℕ → ℕ
be16 s at = get_or s at 0 * 256 + get_or s (at + 1) 0

-- the number in the four bytes from a place on
unfoldable pub be32 : List ℕ → ℕ → ℕ
be32 s at = be16 s at * 65536 + be16 s (at + 2)

-- a number below 65,536 as two bytes
abbrev pub two : ℕ → List ℕ
two n = n / 256 ∷ n % 256 ∷ []

-- a number below 4,294,967,296 as four bytes
abbrev pub four : ℕ → List ℕ
four n = n / 16777216 ∷ n / 65536 % 256 ∷ n / 256 % 256 ∷ n % 256 ∷ []

-- of the ID of a context or of a PDV, and of a version that has bit 0
abbrev pub odd : ℕ → Bool
odd n = eqb (n % 2) 1
