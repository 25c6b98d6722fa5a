-- PDV items at worked examples: antt computes both sides.
-- Assumes nothing.
use mathlib.Core.Bool.{true, false}
use mathlib.Core.List.{[], ◌∷◌}
use mathlib.Core.Path.{◌≡◌, refl}
use Rattle.laws.specs.Parts.{part_end}
use Rattle.octets.specs.Octets.{be16, be32}
use Rattle.pdvs.specs.Data.{pdv_step, pdvs_in, pdvs, pdv_ok, pdvs_ok, pdv_end}

-- what the definitions of PDV items compute with, by one name for an `unfolding` line
unfoldable pub pdvs_open : Unit {0}
unfolding pdv_step pdvs_in pdvs pdv_ok pdvs_ok part_end be16 be32
pdvs_open = tt

-- bits 2 to 7 of a control byte are not tested in a received PDV, and zero in one to be sent
pub upper_bits : (pdvs_ok 255 (0 ∷ 0 ∷ 0 ∷ 2 ∷ 1 ∷ 0xFC ∷ []) ≡ true) × (pdvs_ok 3 (0 ∷ 0 ∷ 0 ∷ 2 ∷ 1 ∷ 0xFC ∷ []) ≡ false)
unfolding pdvs_open
upper_bits = (refl, refl)

-- a length of 4 with three bytes behind it, and with four
pub past_the_end : (pdv_end (0 ∷ 0 ∷ 0 ∷ 4 ∷ 1 ∷ 3 ∷ 9 ∷ []) 0 ≡ 0) × (pdv_end (0 ∷ 0 ∷ 0 ∷ 4 ∷ 1 ∷ 3 ∷ 9 ∷ 9 ∷ []) 0 ≡ 8)
unfolding pdvs_open
past_the_end = (refl, refl)
