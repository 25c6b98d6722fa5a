-- "An empty piece that isn't refused does nothing."
use Rattle.std.specs.Prelude.{ℕ, ◌≡◌, List, []}
use Rattle.numbers.specs.Refusals.{NOT-REFUSED}
use Rattle.association.specs.declared.Assoc.{Assoc}
use Rattle.association.specs.Calls.{Call, call}
use Rattle.demand_2.specs.Cells.{Engine}

-- a call was answered, and did nothing: action 0, zero counts, the record and both buffers as they were
abbrev pub nothing : Assoc → List ℕ → List ℕ → Call
nothing a g o = call (record { told = record { refusal = NOT-REFUSED; action = 0; used = 0; sent = 0; shown = 0 }; assoc = a }) g o

abbrev pub EmptyPiece : Engine → Type 0
EmptyPiece x = (a : Assoc) (g o : List ℕ) → (x.receive a g [] o).answer.told.refusal ≡ NOT-REFUSED → x.receive a g [] o ≡ nothing a g o
