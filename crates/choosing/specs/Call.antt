-- The call: "Given a received proposal, write the answer sheet .. Refusals: 4 for either bad sheet, then 2."
use Rattle.std.specs.Prelude.{ℕ, ◌*◌, ◌≡◌, Bool, not, cond, List, [], ◌∷◌, Result, Ok, Err, length, ltb, eqb}
use Rattle.laws.specs.Refusals.{first_due}
use Rattle.numbers.specs.declared.refusals.Refusal.{Refusal}
use Rattle.numbers.specs.Refusals.{NOT-REFUSED, SHORT-OUTPUT, BAD-CONTENTS, refusal_number}
use Rattle.numbers.specs.Lengths.{RECORD}
use Rattle.octets.specs.Put.{front}
use Rattle.sheets.specs.Sheet.{answer_sheet_of, contexts_in, proposal_ok, site_ok}
use Rattle.choosing.specs.Choice.{site_in, chosen_for}

-- refusal: 0, or 4 or 2 with no record. records: how many the answer sheet starts with
pub record Chosen : Type 0 where
  pub refusal : ℕ
  pub records : ℕ

-- the answer sheet
unfoldable pub chosen_sheet : List ℕ → List ℕ → List ℕ
chosen_sheet proposal site = answer_sheet_of (chosen_for (site_in site) (contexts_in proposal))

-- a bad proposal, a bad site's sheet; then too little room: 132 bytes for each context
abbrev pub choose_tests : List ℕ → List ℕ → ℕ → List (Bool × ℕ)
choose_tests proposal site room =
    (not (proposal_ok proposal), BAD-CONTENTS)
    ∷ (not (site_ok site), BAD-CONTENTS)
    ∷ (ltb room (RECORD * length (contexts_in proposal)), SHORT-OUTPUT)
    ∷ []

unfoldable pub choose_refusal : List ℕ → List ℕ → ℕ → ℕ
choose_refusal proposal site room = first_due (choose_tests proposal site room)

-- refused: no record
abbrev pub none_chosen : ℕ → Chosen
none_chosen n = record { refusal = n; records = 0 }

-- what the code answers
abbrev pub chosen_as : Result ℕ Refusal → Chosen
chosen_as (Ok n) = record { refusal = NOT-REFUSED; records = n }
chosen_as (Err e) = none_chosen (refusal_number e)

-- answered: a record for each context
unfoldable pub chosen_of : List ℕ → List ℕ → ℕ → Chosen
chosen_of proposal site room =
    cond (eqb (choose_refusal proposal site room) NOT-REFUSED) (record { refusal = NOT-REFUSED; records = length (contexts_in proposal) })
    (none_chosen (choose_refusal proposal site room))

-- what the lent sheet then starts with
unfoldable pub chosen_bytes : List ℕ → List ℕ → ℕ → List ℕ
chosen_bytes proposal site room = cond (eqb (choose_refusal proposal site room) NOT-REFUSED) (chosen_sheet proposal site) []

-- the call was made with the sheet o lent, which is now o', and r was answered
pub record Chose (proposal site o : List ℕ) (r : Chosen) (o' : List ℕ) : Type 0 where
  pub answer : r ≡ chosen_of proposal site (length o)
  pub sheet : o' ≡ front o (chosen_bytes proposal site (length o))
