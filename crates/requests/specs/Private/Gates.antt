-- For the private functions: what refuses a local event before its contents are looked at, and what follows once its PDU is written.
use Rattle.std.specs.Prelude.{ℕ, ◌≡◌, List, [], ◌∷◌, ◌++◌, eqb, Result, Ok, Err, MatchResult}
use Rattle.laws.specs.Refusals.{first_due}
use Rattle.numbers.specs.declared.refusals.Refusal.{Refusal}
use Rattle.numbers.specs.Refusals.{NOT-REFUSED, BLANK-CELL, refusal_number}
use Rattle.association.specs.declared.Assoc.{Assoc}
use Rattle.association.specs.declared.Answer.{Answer}
use Rattle.association.specs.Record.{standing}
use Rattle.association.specs.Refusals.{record_tests, refused_with}
use Rattle.association.specs.Performing.{brings_nothing, leaving, after}

-- 6, 3, 6 for L, and 1
unfoldable pub gate_refusal : Assoc → List ℕ → ℕ → ℕ
gate_refusal a g action = first_due (record_tests a g a.gathered ++ ((eqb action 0, BLANK-CELL) ∷ []))

-- the action is done, with so many bytes sent
unfoldable pub done_locally : Assoc → ℕ → ℕ → Answer
done_locally a action sent =
    record {
      told = record { refusal = NOT-REFUSED; action = action; used = 0; sent = sent; shown = 0 };
      assoc = leaving (after action (standing a) (brings_nothing (standing a))) a.gathered;
    }

-- the writer refused, or the action is done
abbrev pub finish_of : Assoc → ℕ → Result ℕ Refusal → Answer
finish_of a action (Ok sent) = done_locally a action sent
finish_of a action (Err refusal) = refused_with (refusal_number refusal) a

-- an event with this action went through the gate, or was refused there
abbrev pub Admitted : Assoc → List ℕ → ℕ → Result ℕ Refusal → Type 0
Admitted a g action r = MatchResult r (λ n. (n ≡ action) × (gate_refusal a g action ≡ NOT-REFUSED)) (λ e. refusal_number e ≡ gate_refusal a g action)
