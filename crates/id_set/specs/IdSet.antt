-- "Mark the IDs seen" (document 02, E5): a set of IDs 0 to 255, a bit for each: ID n is bit n % 64 of word n / 64.
use Rattle.std.specs.Prelude.{ℕ, ◌/◌, ◌%◌, ◌^◌, ◌<◌, Bool, false, ◌||◌, List, ◌≡◌, eqb, length, get_or}
use Rattle.octets.specs.Octets.{odd}

-- n is in the set
unfoldable pub is_in : ℕ → List ℕ → Bool
is_in n set = odd (get_or set (n / 64) 0 / 2 ^ (n % 64))

-- four words of 64 bits
pub record Words (set : List ℕ) : Type 0 where
  pub four : length set ≡ 4
  pub fit : (k : ℕ) → get_or set k 0 < 2 ^ 64

-- no ID is in it
pub record Empty (set : List ℕ) : Type 0 where
  pub words : Words set
  pub none : (n : ℕ) → is_in n set ≡ false

-- r has the IDs of the set, and this one
pub record With (set : List ℕ) (id : ℕ) (r : List ℕ) : Type 0 where
  pub words : Words r
  pub ids : (n : ℕ) → is_in n r ≡ (eqb n id || is_in n set)
