-- Items as we send them: type, reserved byte zero, two-byte length, body.
use Rattle.std.specs.Prelude.{ℕ, List, [], ◌∷◌, ◌++◌, length}
use Rattle.octets.specs.Octets.{two}

unfoldable pub item_bytes : ℕ → List ℕ → List ℕ
item_bytes t b = t ∷ 0 ∷ (two (length b) ++ b)

-- items of one type, one for each body
abbrev pub items_bytes : ℕ → List (List ℕ) → List ℕ
items_bytes t [] = []
items_bytes t (b ∷ bs) = item_bytes t b ++ items_bytes t bs

-- items of any types, each a type and a body
abbrev pub sequence : List (ℕ × List ℕ) → List ℕ
sequence [] = []
sequence (i ∷ is) = item_bytes i.0 i.1 ++ sequence is
