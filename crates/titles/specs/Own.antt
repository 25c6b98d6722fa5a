-- The check of a sought title: "Our own titles are records of 16 bytes, 0 to 8 of them, valid as in an RQ. Any other list, or a sought title of other than
-- 16 bytes, gets 4." By document 02, E3, it answers "the place, from 0 to 7, of the first own title equal to the sought one, or that there is none".
use Rattle.std.specs.Prelude.{◌≡◌, Bool, not, cond, ◌&&◌, List, [], ◌∷◌, ℕ, ◌/◌, ◌%◌, leb, eqb, length}
use Rattle.laws.specs.Lists.{all, any, first_place, records}
use Rattle.laws.specs.Refusals.{first_due}
use Rattle.numbers.specs.Lengths.{TITLE}
use Rattle.numbers.specs.Refusals.{NOT-REFUSED, BAD-CONTENTS}
use Rattle.titles.specs.Title.{title_ok, titles_equal}

-- the titles of a list
abbrev pub titles : List ℕ → List (List ℕ)
titles l = records TITLE (length l / TITLE) l

unfoldable pub list_ok : List ℕ → Bool
list_ok l = eqb (length l % TITLE) 0 && leb (length l / TITLE) 8 && all title_ok (titles l)

unfoldable pub title_refusal : List ℕ → List ℕ → ℕ
title_refusal own sought = first_due ((not (list_ok own), BAD-CONTENTS) ∷ (not (eqb (length sought) TITLE), BAD-CONTENTS) ∷ [])

-- the old yes, which the check answered before E3: nothing is refused, and one of our own titles is equal to the sought one
unfoldable pub known : List ℕ → List ℕ → Bool
known own sought = eqb (title_refusal own sought) NOT-REFUSED && any (titles_equal sought) (titles own)

-- the place of the first that is equal, 0 where the title is not known
unfoldable pub title_place : List ℕ → List ℕ → ℕ
title_place own sought = cond (known own sought) (first_place (titles_equal sought) (titles own)) 0

-- an answer in numbers: the refusal, 0 for none; 1 where the title is known, else 0; the place
pub record Checked (own sought : List ℕ) (r k p : ℕ) : Type 0 where
  pub refused : r ≡ title_refusal own sought
  pub yes : k ≡ cond (known own sought) 1 0
  pub place : p ≡ title_place own sought

-- ---- the cases of an answer: at a place, from 0 to 7; none; or refused. And the three numbers of each
pub data Place : Type 0 where
  At : ℕ → Place
  None : Place
  Refused : Place

abbrev pub refusal : Place → ℕ
refusal (At k) = NOT-REFUSED
refusal None = NOT-REFUSED
refusal Refused = BAD-CONTENTS

abbrev pub known_as : Place → ℕ
known_as (At k) = 1
known_as None = 0
known_as Refused = 0

abbrev pub place_as : Place → ℕ
place_as (At k) = k
place_as None = 0
place_as Refused = 0
