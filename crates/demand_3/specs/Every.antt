-- What holds of every call that a host makes.
use Rattle.std.specs.Prelude.{ℕ, ◌≤◌, ◌<◌, ◌≡◌, true, false, List, [], ◌∷◌, ◌++◌}
use Rattle.laws.specs.Lists.{among}
use Rattle.numbers.specs.Refusals.{NOT-REFUSED, BLANK-CELL, BAD-CONTENTS, LONG-PDU}
use Rattle.association.specs.Record.{broken_over}
use Rattle.demand_3.specs.Calls.{Given, Given.piece, Given.local, bytes_in, Made}

-- each of a list
abbrev pub Each : {X : Type 0} → (X → Type 0) → List X → Type 0
Each P [] = Unit
Each P (x ∷ l) = P x × Each P l

-- what is looked at of each call, in order
abbrev pub looked : {X T : Type 0} → (X → List T) → List X → List T
looked look [] = []
looked look (m ∷ l) = look m ++ looked look l

-- the refusals that it may get: bytes none, a local event 1, 4 and 5. So 6, 3 and 2 never come
abbrev pub may_get : Given → List ℕ
may_get (piece p) = []
may_get (local e) = BLANK-CELL ∷ BAD-CONTENTS ∷ LONG-PDU ∷ []

pub record Held (m : Made) : Type 0 where
  -- neither the record that it was lent nor the one that it left is broken over the gather buffer
  pub lent_whole : broken_over m.lent.assoc m.lent.gather ≡ false
  pub left_whole : broken_over m.call.answer.assoc m.call.gather ≡ false
  -- of those that it may get, or none
  pub refusal : among m.call.answer.told.refusal (NOT-REFUSED ∷ may_get m.given) ≡ true
  -- of a piece that is not empty it used a byte or more, and none that is not there
  pub at_least : 0 < bytes_in m.given → 0 < m.call.answer.told.used
  pub at_most : m.call.answer.told.used ≤ bytes_in m.given
