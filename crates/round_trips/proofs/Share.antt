-- The bytes that items take in a holder, by their types: those of different types together are at most the holder's.
-- Assumes nothing.
use Prim.Native.Nat.{ℕ, ◌+◌, ◌≤◌}
use native.Mathlib.Omega.{arith}
use mathlib.Core.Bool.{true}
use mathlib.Core.List.{List, [], ◌∷◌}
use mathlib.Core.Path.{◌≡◌, refl}
use lib.ListN.{length}
use Rattle.laws.specs.Lists.{distinct}
use Rattle.items.specs.Items.{walk, filled, first}
use Rattle.items.specs.Wire.{items_bytes}
use Rattle.items.proofs.WireLaws.{items_cons}
use Rattle.sheet_room.proofs.Sizes.{sizes, sizes_of, sizes_most, size_filled}

-- in a holder that its items fill
pub shares : (ts : List ℕ) → distinct ts ≡ true → (s : List ℕ) → filled (walk s) ≡ true → sizes_of ts (walk s) ≤ length s
shares ts d s f = let m = sizes_most ts d (walk s) in let l = size_filled s f in omega arith

-- written, items of a type take as many bytes
pub items_size : (t : ℕ) (bs : List (List ℕ)) → length (items_bytes t bs) ≡ sizes bs
unfolding sizes
items_size t [] = refl
items_size t (b ∷ bs) = let l = items_cons t b bs in let r = items_size t bs in omega arith

-- the first item of a type, where there is one
pub first_size : (bs : List (List ℕ)) → 1 ≤ length bs → 4 + length (first bs) ≤ sizes bs
unfolding sizes
first_size [] n = absurd (omega arith)
first_size (b ∷ bs) n = omega arith
