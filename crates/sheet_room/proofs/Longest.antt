-- The most records are reached: a valid RQ that fills 3,257 and a valid AC that fills 128. antt computes both sides.
-- Assumes nothing.
use Prim.Native.Nat.{ℕ, zero, suc, ◌+◌, ◌*◌}
use mathlib.Core.List.{List, [], ◌∷◌, ◌++◌}
use mathlib.Core.Path.{◌≡◌, refl}
use lib.ListN.{length, replicate}
use Rattle.laws.specs.Lists.{joined}
use Rattle.laws.specs.Text.{bytes}
use Rattle.numbers.specs.Kinds.{ASSOCIATE-RQ, ASSOCIATE-AC}
use Rattle.octets.specs.Octets.{four}
use Rattle.items.specs.Wire.{item_bytes}
use Rattle.judging.specs.Pdu.{kind_of}
use Rattle.judging.proofs.Examples.{judging_open}
use Rattle.sheets.specs.Sheet.{record_bytes, context_records, sheet_of, answer_sheet_of}
use Rattle.reading.specs.Associate.{context_of, transfer_in, answer_of, proposed, answered, sheet_in}

abbrev name : List ℕ
name = bytes "1"

-- an RQ or AC with these contexts
abbrev body : List ℕ → List ℕ
body contexts =
    0 ∷ 1 ∷ 0 ∷ 0 ∷ (bytes "STORE-EXOTIC    " ++ (bytes "STORE-EQUINE    " ++ (replicate 32 0
    ++ (item_bytes 0x10 name ++ (contexts ++ item_bytes 0x50 (item_bytes 0x51 (0 ∷ 0 ∷ 0x40 ∷ 0 ∷ [])))))))

abbrev pdu : ℕ → List ℕ → List ℕ
pdu kind contexts = kind ∷ 0 ∷ (four (length (body contexts)) ++ body contexts)

-- one context with n transfer names
abbrev request : ℕ → List ℕ
request n = pdu ASSOCIATE-RQ (item_bytes 0x20 (1 ∷ 0 ∷ 0 ∷ 0 ∷ (item_bytes 0x30 name ++ joined (replicate n (item_bytes 0x40 name)))))

pub proposal_reached : (kind_of (request 3257) ≡ ASSOCIATE-RQ) × (length (sheet_in ASSOCIATE-RQ (request 3257)) ≡ 132 * 3257)
unfolding judging_open sheet_in proposed context_of sheet_of context_records record_bytes
proposal_reached = (refl, refl)

-- the contexts with the n odd IDs below 2 n, accepted
abbrev contexts : ℕ → List ℕ
contexts zero = []
contexts (suc n) = item_bytes 0x21 ((1 + 2 * n) ∷ 0 ∷ 0 ∷ 0 ∷ item_bytes 0x40 name) ++ contexts n

abbrev accept : ℕ → List ℕ
accept n = pdu ASSOCIATE-AC (contexts n)

pub answer_reached : (kind_of (accept 128) ≡ ASSOCIATE-AC) × (length (sheet_in ASSOCIATE-AC (accept 128)) ≡ 132 * 128)
unfolding judging_open sheet_in answered transfer_in answer_of answer_sheet_of record_bytes
answer_reached = (refl, refl)
