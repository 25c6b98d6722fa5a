-- Worked examples of the sheet: antt computes both sides.
-- Assumes nothing.
use Prim.Native.Nat.{ℕ}
use mathlib.Core.Bool.{true, false}
use mathlib.Core.List.{List, [], ◌∷◌, ◌++◌}
use mathlib.Core.Path.{◌≡◌, refl}
use lib.ListN.{take}
use Rattle.laws.specs.Lists.{among, distinct}
use Rattle.laws.specs.Text.{bytes}
use Rattle.names.specs.Name.{name_ok}
use Rattle.sheets.specs.Contexts.{context_ok, transfer_name_ok, answered_ok, contexts_ok, all_answered_ok}
use Rattle.sheets.specs.Sheet.{record_bytes, records_of, cap, abstract_of, transfer_of, goes_on, start, sheet_runs, contexts_in, answered_of, answers_in, field_ok, fields_ok, proposes, answers, proposal_ok, answers_ok}

-- what the definitions of sheets compute with, by one name for an `unfolding` line
unfoldable pub sheets_open : Unit {0}
unfolding name_ok among distinct context_ok contexts_ok transfer_name_ok answered_ok all_answered_ok record_bytes records_of cap abstract_of transfer_of goes_on start sheet_runs contexts_in answered_of answers_in field_ok fields_ok proposes proposal_ok answers answers_ok
sheets_open = tt

abbrev verification : List ℕ
verification = bytes "1.2.840.10008.1.1"

abbrev storage : List ℕ
storage = bytes "1.2.840.10008.5.1.4.1.1.2"

abbrev implicit : List ℕ
implicit = bytes "1.2.840.10008.1.2"

abbrev explicit : List ℕ
explicit = bytes "1.2.840.10008.1.2.1"

-- two transfer names of one context, and a second context
pub a_run : contexts_in (record_bytes 1 0 verification implicit ++ (record_bytes 1 0 verification explicit ++ record_bytes 3 0 storage implicit))
    ≡ record { id = 1; abstr = verification; transfers = implicit ∷ explicit ∷ [] } ∷ record { id = 3; abstr = storage; transfers = implicit ∷ [] } ∷ []
unfolding sheets_open
a_run = refl

-- equal transfer names in one run are allowed
pub equal_transfers : proposal_ok (record_bytes 1 0 verification implicit ++ record_bytes 1 0 verification implicit) ≡ true
unfolding sheets_open
equal_transfers = refl

-- an equal ID with another abstract name in the next record starts a second run
pub second_run : proposal_ok (record_bytes 1 0 verification implicit ++ record_bytes 1 0 storage implicit) ≡ false
unfolding sheets_open
second_run = refl

-- and so does an ID that comes back
pub back_again : proposal_ok (record_bytes 1 0 verification implicit ++ (record_bytes 3 0 storage implicit ++ record_bytes 1 0 verification explicit)) ≡ false
unfolding sheets_open
back_again = refl

-- no record
pub no_record : proposal_ok [] ≡ false
unfolding sheets_open
no_record = refl

-- a part record
pub part_record : proposal_ok (record_bytes 1 0 verification implicit ++ (3 ∷ [])) ≡ false
unfolding sheets_open
part_record = refl

-- answers: result 4 is the last, and an ID comes once
pub result_four : answers_ok (record_bytes 1 0 [] implicit ++ record_bytes 3 4 [] []) ≡ true
unfolding sheets_open
result_four = refl

pub result_five : answers_ok (record_bytes 1 5 [] []) ≡ false
unfolding sheets_open
result_five = refl

pub twice : answers_ok (record_bytes 1 0 [] implicit ++ record_bytes 1 3 [] []) ≡ false
unfolding sheets_open
twice = refl

-- a refused record that carries a transfer name; one with a byte in its transfer field; an accepted one without a name
pub refused_name : answers_ok (record_bytes 1 0 [] implicit ++ record_bytes 3 4 [] implicit) ≡ false
unfolding sheets_open
refused_name = refl

pub refused_byte : answers_ok (take 131 (record_bytes 3 1 [] []) ++ (7 ∷ [])) ≡ false
unfolding sheets_open
refused_byte = refl

pub accepted_nameless : answers_ok (record_bytes 1 0 [] []) ≡ false
unfolding sheets_open
accepted_nameless = refl

-- result 1 in a proposal; an abstract name in an answer; an unused byte that is not zero
pub proposed_result : proposal_ok (record_bytes 1 1 verification implicit) ≡ false
unfolding sheets_open
proposed_result = refl

pub answered_abstract : answers_ok (record_bytes 1 0 verification implicit) ≡ false
unfolding sheets_open
answered_abstract = refl

pub unused_byte : answers_ok (take 131 (record_bytes 1 0 [] implicit) ++ (7 ∷ [])) ≡ false
unfolding sheets_open
unused_byte = refl
