-- The rules of titles at worked examples, computed by antt. Those of document 01 are in `cases`, case 4.
-- Assumes nothing.
use mathlib.Core.Path.{◌≡◌, refl}
use mathlib.Core.Bool.{false, cond}
use mathlib.Core.List.{List, [], ◌∷◌, ◌++◌, map}
use lib.ListN.{replicate}
use Prim.Native.Nat.{ℕ}
use Rattle.laws.specs.Lists.{joined}
use Rattle.laws.specs.Text.{bytes}
use Rattle.titles.specs.Title.{title_ok, titles_equal, trim_end}
use Rattle.titles.specs.Own.{list_ok, title_refusal, known, title_place}

-- a backslash, sixteen spaces, fifteen characters
backslash : title_ok (bytes "STORE\\EQUINE    ") ≡ false
unfolding title_ok
backslash = refl

blank : title_ok (bytes "                ") ≡ false
unfolding title_ok
blank = refl

fifteen : title_ok (bytes "STORE-EQUINE   ") ≡ false
unfolding title_ok
fifteen = refl

inner : titles_equal (bytes "STORE EQUINE    ") (bytes "STORE  EQUINE   ") ≡ false
unfolding titles_equal trim_end
inner = refl

-- ---- which of our titles it is: refusal, known, place
record Row : Type 0 where
  own : List ℕ
  sought : List ℕ
  answer : ℕ × (ℕ × ℕ)

abbrev asks : List ℕ → List ℕ → ℕ × (ℕ × ℕ) → Row
asks l t a = record { own = l; sought = t; answer = a }

abbrev checked : Row → ℕ × (ℕ × ℕ)
checked r = (title_refusal r.own r.sought, (cond (known r.own r.sought) 1 0, title_place r.own r.sought))

abbrev equine : List ℕ
equine = bytes "STORE-EQUINE    "

abbrev exotic : List ℕ
exotic = bytes "STORE-EXOTIC    "

abbrev spaces : List ℕ
spaces = bytes "                "

-- n times the same title
abbrev times : ℕ → List ℕ → List ℕ
times n t = joined (replicate n t)

unfoldable rows : List Row
rows =
    -- the sixth character is the last that another maker's box compared
    asks (exotic ++ bytes "STORE-FELINE    ") equine (0, (0, 0))
    ∷ asks (exotic ++ bytes "STORE-FELINE    ") (bytes " STORE-FELINE   ") (0, (1, 1))
    -- the list is tested whole: a bad eighth title, a ninth, a part of one
    ∷ asks (equine ++ (times 6 exotic ++ bytes "STORE\\AVIAN     ")) equine (4, (0, 0))
    ∷ asks (times 9 equine) equine (4, (0, 0))
    ∷ asks (times 8 equine) equine (0, (1, 0))
    ∷ asks (equine ++ bytes "S") equine (4, (0, 0))
    ∷ asks (times 8 equine ++ bytes "S") equine (4, (0, 0))
    -- sixteen bytes that are no valid title are answered none; in our own list they are refused
    ∷ asks (equine ++ exotic) spaces (0, (0, 0))
    ∷ asks (equine ++ spaces) spaces (4, (0, 0))
    ∷ asks equine (bytes "STORE-EQUINE" ++ replicate 4 0x00) (0, (0, 0))
    ∷ asks (bytes "STORE-EQUINE" ++ replicate 4 0x00) equine (4, (0, 0))
    -- the first that is equal once the outer spaces go, not the first or last of the same bytes
    ∷ asks (exotic ++ (bytes "    STORE-EQUINE" ++ (bytes " STORE-EQUINE   " ++ equine))) equine (0, (1, 1))
    -- place 0 is a yes, an empty list none
    ∷ asks (bytes " STORE-EQUINE   ") equine (0, (1, 0))
    ∷ asks [] equine (0, (0, 0))
    -- the eighth is reached
    ∷ asks (times 7 exotic ++ equine) equine (0, (1, 7))
    -- a sought title of other than sixteen bytes
    ∷ asks [] (bytes "STORE-EQUINE") (4, (0, 0))
    ∷ asks equine (equine ++ bytes " ") (4, (0, 0))
    ∷ asks [] [] (4, (0, 0))
    -- all sixteen characters count, and 7EH, 5BH and 5DH are good
    ∷ asks (bytes "STORE-EQUINE-001~[]!STORE-EQUIN~STORE-EQUINE-002") (bytes "STORE-EQUINE-002") (0, (1, 2))
    ∷ []

places : map checked rows ≡ map (λ (r : Row). r.answer) rows
unfolding rows title_refusal known title_place list_ok title_ok titles_equal trim_end
places = refl
