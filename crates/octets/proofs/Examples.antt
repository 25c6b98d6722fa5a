-- Numbers and places at worked examples: antt computes both sides.
-- Assumes nothing.
use mathlib.Core.List.{[], ◌∷◌}
use mathlib.Core.Path.{◌≡◌, refl}
use Rattle.octets.specs.Octets.{be16, be32}
use Rattle.octets.specs.Put.{put, placed, place_behind}

-- the high byte comes first
pub high_first : be32 (1 ∷ 2 ∷ 3 ∷ 4 ∷ 5 ∷ []) 1 ≡ 0x02030405
unfolding be16 be32
high_first = refl

-- a last byte alone is the highest of the four
pub last_alone : be32 (1 ∷ 2 ∷ 3 ∷ []) 2 ≡ 0x03000000
unfolding be16 be32
last_alone = refl

-- bytes that fill the buffer have room; of others not even those are put that would have it
pub fills : (placed (7 ∷ 8 ∷ 9 ∷ []) 1 (5 ∷ 6 ∷ []) ≡ 7 ∷ 5 ∷ 6 ∷ []) × (place_behind (7 ∷ 8 ∷ 9 ∷ []) 1 (5 ∷ 6 ∷ []) ≡ 3)
unfolding put placed place_behind
fills = (refl, refl)

pub no_room : (placed (7 ∷ 8 ∷ 9 ∷ []) 2 (5 ∷ 6 ∷ []) ≡ 7 ∷ 8 ∷ 9 ∷ []) × (place_behind (7 ∷ 8 ∷ 9 ∷ []) 2 (5 ∷ 6 ∷ []) ≡ 2)
unfolding put placed place_behind
no_room = (refl, refl)
