-- For the private functions: the items of a sheet's contexts, over its records.
use Rattle.std.specs.Prelude.{ℕ, ◌+◌, Bool, true, false, cond, List, [], ◌∷◌, ◌++◌, map, length, leb}
use Rattle.numbers.specs.Lengths.{LONGEST}
use Rattle.octets.specs.Octets.{two}
use Rattle.items.specs.Wire.{item_bytes, items_bytes}
use Rattle.sheets.specs.Sheet.{transfer_of, sheet_runs, answered_of}
use Rattle.sheets.specs.Private.OneRecord.{run_context}
use Rattle.writing.specs.Wire.{context_body, answer_body}
use Rattle.writing_associate.specs.declared.contexts.Side.{Side}
use Rattle.writing_associate.specs.declared.contexts.Side.TheVariants.{Request, Accept}

-- the PDU is an AC, which answers
abbrev pub answers : Side → Bool
answers Request = false
answers Accept = true

-- ---- of records: the 40Hs, one each; the bytes of their transfer names, each with a head of so many bytes
unfoldable pub name_items : List (List ℕ) → List ℕ
name_items rs = items_bytes 0x40 (map transfer_of rs)

unfoldable pub names_size : ℕ → List (List ℕ) → ℕ
names_size head [] = 0
names_size head (r ∷ rs) = head + length (transfer_of r) + names_size head rs

-- ---- a proposal: the 20H of a run of records, and of all runs
unfoldable pub run_item : List (List ℕ) → List ℕ
run_item rs = item_bytes 0x20 (context_body (run_context rs))

unfoldable pub run_items : List (List ℕ) → List ℕ
run_items rs = items_bytes 0x20 (map context_body (sheet_runs rs))

-- ---- an answer: the 21H of a record, and of all
unfoldable pub answer_item : List ℕ → List ℕ
answer_item r = item_bytes 0x21 (answer_body (answered_of r))

unfoldable pub answer_items : List (List ℕ) → List ℕ
answer_items rs = items_bytes 0x21 (map answer_body (map answered_of rs))

unfoldable pub context_bytes : Bool → List (List ℕ) → List ℕ
context_bytes answer rs = cond answer (answer_items rs) (run_items rs)

-- a 20H or 21H up to its result, where n bytes follow the length
unfoldable pub context_head : ℕ → ℕ → ℕ → ℕ → List ℕ
context_head kind n id result = kind ∷ 0 ∷ (two n ++ (id ∷ 0 ∷ result ∷ 0 ∷ []))

-- a PDU-length, or one more than the limit for any above it
unfoldable pub capped : ℕ → ℕ
capped n = cond (leb n LONGEST) n (LONGEST + 1)
