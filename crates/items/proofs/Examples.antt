-- Worked examples of the walk: antt computes both sides.
-- Assumes nothing.
use mathlib.Core.List.{[], ◌∷◌}
use mathlib.Core.Path.{◌≡◌, refl}
use Rattle.laws.specs.Lists.{among}
use Rattle.octets.specs.Octets.{be16}
use Rattle.items.specs.Items.{done, broken, item, step, walk_in, walk, filled, bodies, place, types, only, good_bodies, holds}
use Rattle.items.specs.Wire.{item_bytes}

-- what the definitions of items compute with, by one name for an `unfolding` line
unfoldable pub items_open : Unit {0}
unfolding walk walk_in step filled bodies place types only good_bodies holds item_bytes among be16
items_open = tt

-- an item of two bytes and one of none fill their holder; the reserved byte is not looked at
pub two_items : walk (0x10 ∷ 0xFF ∷ 0 ∷ 2 ∷ 7 ∷ 8 ∷ 0xF0 ∷ 0 ∷ 0 ∷ 0 ∷ []) ≡ item 0x10 (7 ∷ 8 ∷ []) (item 0xF0 [] done)
unfolding items_open
two_items = refl

-- a remainder of three bytes
pub remainder : walk (0xF0 ∷ 0 ∷ 0 ∷ 0 ∷ 0x10 ∷ 0 ∷ 0 ∷ []) ≡ item 0xF0 [] broken
unfolding items_open
remainder = refl

-- an item that would pass its holder's end
pub passes : walk (0xF0 ∷ 0 ∷ 0 ∷ 2 ∷ 1 ∷ []) ≡ broken
unfolding items_open
passes = refl

-- the second item is the first of its type; its body stands behind 4 + 2 + 4 bytes
pub second : place 0xF0 (walk (0x10 ∷ 0 ∷ 0 ∷ 2 ∷ 7 ∷ 8 ∷ 0xF0 ∷ 0 ∷ 0 ∷ 1 ∷ 9 ∷ [])) ≡ 10
unfolding items_open
second = refl
