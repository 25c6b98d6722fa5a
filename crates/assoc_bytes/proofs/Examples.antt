-- An association as bytes at worked examples: antt computes both sides.
-- Assumes nothing.
use mathlib.Core.Bool.{true, false}
use mathlib.Core.List.{List, [], ◌∷◌}
use mathlib.Core.Path.{◌≡◌, refl}
use Prim.Native.Nat.{ℕ}
use Rattle.association.specs.declared.Assoc.{Assoc}
use Rattle.association.specs.Record.{idle}
use Rattle.assoc_bytes.specs.Bytes.{bytes_of, assoc_of}

-- a fresh one
pub fresh_bytes : bytes_of idle ≡ 1 ∷ 0 ∷ 0 ∷ 0 ∷ 0 ∷ 0 ∷ 0 ∷ 0 ∷ 0 ∷ 0 ∷ 0 ∷ 0 ∷ 0 ∷ 0 ∷ 0 ∷ 0 ∷ []
unfolding bytes_of idle
fresh_bytes = refl

-- every byte of both numbers at its place
abbrev pub counted : Assoc
counted = record { state = 6; gathered = 0x05060708090A0B0C; deaf = false; artim = true; requestor = false; peer_max = 0x01020304 }

pub low_first : bytes_of counted ≡ 6 ∷ 0 ∷ 1 ∷ 0 ∷ 4 ∷ 3 ∷ 2 ∷ 1 ∷ 0x0C ∷ 0x0B ∷ 0x0A ∷ 9 ∷ 8 ∷ 7 ∷ 6 ∷ 5 ∷ []
unfolding bytes_of
low_first = refl

-- the greatest numbers; marks above 1 are set, and come back as 1
abbrev pub greatest : List ℕ
greatest = 255 ∷ 2 ∷ 128 ∷ 255 ∷ 255 ∷ 255 ∷ 255 ∷ 255 ∷ 255 ∷ 255 ∷ 255 ∷ 255 ∷ 255 ∷ 255 ∷ 255 ∷ 255 ∷ []

pub marks_above_1 : (assoc_of greatest ≡ record { state = 255; gathered = 0xFFFFFFFFFFFFFFFF; deaf = true; artim = true; requestor = true; peer_max = 0xFFFFFFFF })
    × (bytes_of (assoc_of greatest) ≡ 255 ∷ 1 ∷ 1 ∷ 1 ∷ 255 ∷ 255 ∷ 255 ∷ 255 ∷ 255 ∷ 255 ∷ 255 ∷ 255 ∷ 255 ∷ 255 ∷ 255 ∷ 255 ∷ [])
unfolding bytes_of assoc_of
marks_above_1 = (refl, refl)
