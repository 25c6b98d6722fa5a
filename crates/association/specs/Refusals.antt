-- The refusals that every call tests first: "They are tested in this order, where they apply, but 6's test of L comes after 3. Every refusal returns its number,
-- zero counts ..; record, gather buffer and output stay unchanged."
use Rattle.std.specs.Prelude.{ℕ, Bool, List, [], ◌∷◌, length, ltb}
use Rattle.laws.specs.Refusals.{first_due}
use Rattle.numbers.specs.Refusals.{BROKEN-RECORD, SHORT-GATHER}
use Rattle.association.specs.declared.Assoc.{Assoc}
use Rattle.association.specs.declared.Answer.{Answer}
use Rattle.association.specs.Record.{broken, bad_length}

-- 6 but for L; 3 where the gather buffer has fewer than `least` bytes ("shorter than 16,390 when receiving, or than the gathered count at a local event"); 6 for L
abbrev pub record_tests : Assoc → List ℕ → ℕ → List (Bool × ℕ)
record_tests a g least =
    (broken a, BROKEN-RECORD)
    ∷ (ltb (length g) least, SHORT-GATHER)
    ∷ (bad_length a.gathered g, BROKEN-RECORD)
    ∷ []

unfoldable pub record_refusal : Assoc → List ℕ → ℕ → ℕ
record_refusal a g least = first_due (record_tests a g least)

-- a refused call's answer: the number, action 0, zero counts, and the record as it was
unfoldable pub refused_with : ℕ → Assoc → Answer
refused_with n a = record { told = record { refusal = n; action = 0; used = 0; sent = 0; shown = 0 }; assoc = a }
