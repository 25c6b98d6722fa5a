-- Items and sub-items: "then items that fill the rest exactly. An item is type, reserved, two-byte length, body; a remainder of 1 to 3 bytes is
-- invalid. .. Every other type is skipped wherever it stands. The same filling and skipping holds inside items."
use Rattle.std.specs.Prelude.{ℕ, ◌+◌, Bool, true, false, ◌&&◌, cond, List, [], ◌∷◌, length, take, drop, get_or, leb, eqb}
use Rattle.laws.specs.Lists.{all, empty, among, same_bytes}
use Rattle.laws.specs.Parts.{steps, part_end}
use Rattle.octets.specs.Octets.{be16}

-- what stands in a holder: items, each a type and a body, up to the holder's very end (`done`) or to something that is no whole item (`broken`)
pub data Walk : Type 0 where
  done broken : Walk
  item : ℕ → List ℕ → Walk → Walk

-- one step over a holder's bytes, with `go` for the walk over those behind the first item
unfoldable pub step : (List ℕ → Walk) → List ℕ → Walk
step go s =
    cond (empty s) done
    (cond (leb (4 + be16 s 2) (length s)) (item (get_or s 0 0) (take (be16 s 2) (drop 4 s)) (go (drop (4 + be16 s 2) s)))
    broken)

-- at most n steps
unfoldable pub walk_in : ℕ → List ℕ → Walk
walk_in = steps step (λ s. cond (empty s) done broken)

-- the items of a holder's bytes: `walk s ≡ step walk s` (WalkLaws.walk_step)
unfoldable pub walk : List ℕ → Walk
walk s = walk_in (length s) s

-- the items fill the holder
unfoldable pub filled : Walk → Bool
filled done = true
filled broken = false
filled (item t b w) = filled w

-- the bodies of the items of a type, in order
unfoldable pub bodies : ℕ → Walk → List (List ℕ)
bodies t done = []
bodies t broken = []
bodies t (item u b w) = cond (eqb u t) (b ∷ bodies t w) (bodies t w)

abbrev pub first : List (List ℕ) → List ℕ
first [] = []
first (b ∷ bs) = b

-- how many bytes stand before the body of the first item of a type (before the end of the items, where there is none)
unfoldable pub place : ℕ → Walk → ℕ
place t done = 0
place t broken = 0
place t (item u b w) = cond (eqb u t) 4 (4 + length b + place t w)

-- the types of the items, in order
unfoldable pub types : Walk → List ℕ
types done = []
types broken = []
types (item t b w) = t ∷ types w

-- the known ones among types, in order: "Every other type is skipped wherever it stands."
unfoldable pub only : List ℕ → List ℕ → List ℕ
only known [] = []
only known (t ∷ ts) = cond (among t known) (t ∷ only known ts) (only known ts)

-- every body of a known type is good
unfoldable pub good_bodies : List ℕ → (ℕ → List ℕ → Bool) → Walk → Bool
good_bodies known good w = all (λ t. all (good t) (bodies t w)) known

-- the items fill the holder; the known ones are of these types, in this order, each with a good body
unfoldable pub holds : List ℕ → (ℕ → List ℕ → Bool) → List ℕ → Walk → Bool
holds known good order w = filled w && (same_bytes (only known (types w)) order && good_bodies known good w)

-- the place behind the item at a place, or 0 where no whole item stands there
abbrev pub item_end : List ℕ → ℕ → ℕ
item_end s at = part_end 0 s at (be16 s (at + 2))
