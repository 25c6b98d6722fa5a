-- For the private functions: the test of one record of an answer by itself, and the context of one run. No public contract cites it.
use Rattle.std.specs.Prelude.{ℕ, Bool, ◌&&◌, List, [], ◌∷◌, map}
use Rattle.sheets.specs.Contexts.{Context, answered_ok}
use Rattle.sheets.specs.Sheet.{record_id, abstract_of, transfer_of, answered_of, answers}

-- a record that may stand in an answer
unfoldable pub answer_record : List ℕ → Bool
answer_record r = answers r && answered_ok (answered_of r)

-- the context whose records are the run, which has one
unfoldable pub run_context : List (List ℕ) → Context
run_context [] = record { id = 0; abstr = []; transfers = [] }
run_context (r ∷ rs) = record { id = record_id r; abstr = abstract_of r; transfers = transfer_of r ∷ map transfer_of rs }
