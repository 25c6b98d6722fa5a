-- "04H P-DATA-TF: one or more PDV items that fill it: four-byte length at least 2, odd ID, control byte (bit 0 command, bit 1 last; bits 2 to 7 not
-- tested), fragment, perhaps empty."
use Rattle.std.specs.Prelude.{ℕ, ◌+◌, ◌-◌, Bool, ◌&&◌, cond, List, [], ◌∷◌, ◌++◌, length, take, drop, get_or, leb, eqb, Option, None, Some}
use Rattle.laws.specs.Lists.{all}
use Rattle.laws.specs.Parts.{steps, part_end}
use Rattle.octets.specs.Octets.{be32, four, odd}

pub record Pdv : Type 0 where
  pub id : ℕ
  pub control : ℕ
  pub fragment : List ℕ

-- one step over the body of a P-DATA-TF, with `go` for the PDV items behind the first
unfoldable pub pdv_step : (List ℕ → List Pdv) → List ℕ → List Pdv
pdv_step go s =
    cond (leb 2 (be32 s 0) && leb (4 + be32 s 0) (length s))
    (record { id = get_or s 4 0; control = get_or s 5 0; fragment = take (be32 s 0 - 2) (drop 6 s) } ∷ go (drop (4 + be32 s 0) s))
    []

-- at most n steps
unfoldable pub pdvs_in : ℕ → List ℕ → List Pdv
pdvs_in = steps pdv_step (λ s. [])

-- the PDV items that stand at the start of a body, one behind the other: `pdvs s ≡ pdv_step pdvs s` (DataLaws.pdvs_step)
unfoldable pub pdvs : List ℕ → List Pdv
pdvs s = pdvs_in (length s) s

-- and back: a PDV as its item, the four-byte length, which counts ID, control byte and fragment, then these
unfoldable pub pdv_bytes : Pdv → List ℕ
pdv_bytes p = four (2 + length p.fragment) ++ (p.id ∷ p.control ∷ p.fragment)

-- a PDV with a length that four bytes can hold
abbrev pub pdv_fits : Pdv → Bool
pdv_fits p = leb (2 + length p.fragment) 0xFFFFFFFF

-- the bytes that PDV items take: four for the length, two for ID and control byte, and the fragment
abbrev pub size : List Pdv → ℕ
size [] = 0
size (p ∷ ps) = 6 + length p.fragment + size ps

-- a PDV whose control byte is at most `most`: 255, so any, in a received one; 3, so bits 2 to 7 zero, in one to be sent
unfoldable pub pdv_ok : ℕ → Pdv → Bool
pdv_ok most p = odd p.id && leb p.control most

unfoldable pub pdvs_ok : ℕ → List ℕ → Bool
pdvs_ok most s = leb 1 (length (pdvs s)) && (eqb (size (pdvs s)) (length s) && all (pdv_ok most) (pdvs s))

-- the place behind the PDV item at a place, or 0 where none stands there
abbrev pub pdv_end : List ℕ → ℕ → ℕ
pdv_end s at = part_end 2 s at (be32 s at)

-- the same as the code answers it: None where none stands there
abbrev pub item_end : List ℕ → ℕ → Option ℕ
item_end s at = cond (eqb (pdv_end s at) 0) None (Some (pdv_end s at))
