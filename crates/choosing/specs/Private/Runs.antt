-- For the private functions: what the records of the site's sheet make of the result so far, and the answers to the contexts of a proposal's records.
use Rattle.std.specs.Prelude.{ℕ, cond, List, [], map}
use Rattle.laws.specs.Lists.{any}
use Rattle.numbers.specs.Results.{ACCEPTED, TRANSFER-NOT-SUPPORTED}
use Rattle.sheets.specs.Contexts.{Context, Answered}
use Rattle.sheets.specs.Sheet.{record_bytes, sheet_runs, answer_sheet_of}
use Rattle.choosing.specs.Choice.{Liked, liked_of, same_abstract, matches, chosen_for}

-- the result, where the records before these gave this one
unfoldable pub result_from : ℕ → Context → List Liked → ℕ
result_from before c ws = cond (any (matches c) ws) ACCEPTED (cond (any (same_abstract c) ws) TRANSFER-NOT-SUPPORTED before)

-- the record of an answer
unfoldable pub answer_bytes : Answered → List ℕ
answer_bytes a = record_bytes a.id a.result [] a.transfer

-- the answers' records, one behind the other
unfoldable pub answers_for : List (List ℕ) → List (List ℕ) → List ℕ
answers_for proposal site = answer_sheet_of (chosen_for (map liked_of site) (sheet_runs proposal))
