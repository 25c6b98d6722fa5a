-- A name (UID): "1 to 64 bytes of digits and dots; components non-empty, no leading zero unless the component is "0"."
use Rattle.std.specs.Prelude.{Bool, false, cond, not, ◌&&◌, ◌||◌, List, [], ◌∷◌, ℕ, leb, eqb, length}
use Rattle.laws.specs.Lists.{all, empty}

-- x put in front of the first component
abbrev pub ahead : ℕ → List (List ℕ) → List (List ℕ)
ahead x [] = (x ∷ []) ∷ []
ahead x (p ∷ ps) = (x ∷ p) ∷ ps

-- the components: what stands between the dots ('.' is 46), one more than there are dots
abbrev pub components : List ℕ → List (List ℕ)
components [] = [] ∷ []
components (x ∷ xs) = cond (eqb x 46) ([] ∷ components xs) (ahead x (components xs))

-- '0' is 48, '9' is 57
abbrev pub digit : ℕ → Bool
digit b = leb 48 b && leb b 57

-- not empty, digits alone, and with a first digit 0 nothing after it
abbrev pub component : List ℕ → Bool
component [] = false
component (x ∷ xs) = all digit (x ∷ xs) && (not (eqb x 48) || empty xs)

-- '.' is 46
unfoldable pub name_ok : List ℕ → Bool
name_ok s = leb 1 (length s) && leb (length s) 64 && all component (components s)
