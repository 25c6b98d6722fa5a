-- What the answer of the title check means, in its own words: "the place, from 0 to 7, of the first own title equal to the sought one, or that there is none .. the old yes is exactly "some place"."
use Rattle.std.specs.Prelude.{ℕ, ◌<◌, ◌*◌, ◌/◌, ◌≡◌, true, ◌↔◌, List, length, take, drop}
use Rattle.numbers.specs.Lengths.{TITLE}
use Rattle.numbers.specs.Refusals.{NOT-REFUSED, BAD-CONTENTS}
use Rattle.titles.specs.Title.{trim}
use Rattle.titles.specs.Own.{title_refusal, known, refusal, known_as, place_as}
use Rattle.titles.specs.Own.{Place, Place.At, Place.None, Place.Refused}

-- an own title stands at the place k, and it is the sought one but for their outer spaces
pub record EqualAt (own sought : List ℕ) (k : ℕ) : Type 0 where
  pub there : k < length own / TITLE
  pub same : trim sought ≡ trim (take TITLE (drop (k * TITLE) own))

-- k is the place of the first such title: equal there, and at no lower place
pub record FirstAt (own sought : List ℕ) (k : ℕ) : Type 0 where
  pub equal : EqualAt own sought k
  pub none_lower : (j : ℕ) → j < k → EqualAt own sought j → ⊥

abbrev pub NoneEqual : List ℕ → List ℕ → Type 0
NoneEqual own sought = (k : ℕ) → EqualAt own sought k → ⊥

-- the answer a, from the titles to its case and back
pub record Tells (own sought : List ℕ) (a : Place) : Type 0 where
  pub refused : (a ≡ Refused) ↔ (title_refusal own sought ≡ BAD-CONTENTS)
  pub none : (a ≡ None) ↔ ((title_refusal own sought ≡ NOT-REFUSED) × NoneEqual own sought)
  pub at : (k : ℕ) → (a ≡ At k) ↔ ((title_refusal own sought ≡ NOT-REFUSED) × FirstAt own sought k)
  pub low : (k : ℕ) → a ≡ At k → k < 8
  -- the old yes
  pub some_place : (known own sought ≡ true) ↔ ((k : ℕ) × (a ≡ At k))

-- the same of an answer in numbers, as C is handed it: they are those of one case
pub record TellsBy (own sought : List ℕ) (r k p : ℕ) : Type 0 where
  pub case : Place
  pub by_refusal : r ≡ refusal case
  pub by_known : k ≡ known_as case
  pub by_place : p ≡ place_as case
  pub tells : Tells own sought case
