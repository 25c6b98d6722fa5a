-- The engines that demand 2 shuts out: "the engine that refuses everything, the one whose action never varies, and the one that returns the record untouched". Each is
-- known by the local events that get no refusal of document 01: at the others it may do as it likes.
use Rattle.std.specs.Prelude.{ℕ, ◌≡◌, List}
use Rattle.numbers.specs.Refusals.{NOT-REFUSED}
use Rattle.association.specs.declared.Assoc.{Assoc}
use Rattle.association.specs.Events.{Local}
use Rattle.association.specs.Calls.{local_refusal}
use Rattle.demand_2.specs.Cells.{Engine}

-- it refuses each of them
abbrev pub RefusesAll : Engine → Type 0
RefusesAll x = (a : Assoc) (g o : List ℕ) (e : Local) → local_refusal a g o e ≡ NOT-REFUSED → (x.local a g o e).answer.told.refusal ≡ NOT-REFUSED → ⊥

-- its action is the same at each
abbrev pub SameAction : Engine → ℕ → Type 0
SameAction x action = (a : Assoc) (g o : List ℕ) (e : Local) → local_refusal a g o e ≡ NOT-REFUSED → (x.local a g o e).answer.told.action ≡ action

-- it returns the record of each as it was
abbrev pub RecordUntouched : Engine → Type 0
RecordUntouched x = (a : Assoc) (g o : List ℕ) (e : Local) → local_refusal a g o e ≡ NOT-REFUSED → (x.local a g o e).answer.assoc ≡ a
