-- The refusals of a call, one group behind the other: the record's, then the call's own. What is not refused passed each test.
-- Assumes nothing.
use Prim.Native.Nat.{ℕ, ◌≤◌}
use mathlib.Core.Path.{◌≡◌, refl, sym, ap, ◌∙◌}
use mathlib.Core.Bool.{false, cond}
use mathlib.Core.List.{List, [], ◌∷◌}
use native.Mathlib.Omega.{arith}
use lib.Dec.{eqb, ltb}
use lib.ListN.{length}
use borrow.Author.Tests.{ltb-false, eqb-false}
use Rattle.laws.proofs.Refusals.{not_due, due_both, due_neither}
use Rattle.numbers.specs.Refusals.{BLANK-CELL, SHORT-OUTPUT, SHORT-GATHER, BROKEN-RECORD}
use Rattle.numbers.specs.Lengths.{BUFFER, TEN}
use Rattle.writing.specs.Form.{form_refusal}
use Rattle.writing.proofs.FormLaws.{refusal_due}
use Rattle.association.specs.declared.Assoc.{Assoc}
use Rattle.association.specs.Record.{Standing, standing, broken, bad_length}
use Rattle.association.specs.Refusals.{record_tests, record_refusal}
use Rattle.association.specs.Events.{Local}
use Rattle.association.specs.Machine.{local_action, form_at, request_tests, request_refusal}
use Rattle.association.specs.Calls.{receive_refusal, local_refusal}

-- ---- the record's
module _ (a : Assoc) (g : List ℕ) (least : ℕ) where
  -- neither 6 nor 3
  pub record Passed : Type 0 where
    pub whole : broken a ≡ false
    pub room : least ≤ length g
    pub fits : bad_length a.gathered g ≡ false

  pub passed : record_refusal a g least ≡ 0 → Passed
  unfolding record_refusal
  passed z =
      let p = not_due (broken a) BROKEN-RECORD _ (λ e. omega arith) z in
      let q = not_due (ltb (length g) least) SHORT-GATHER _ (λ e. omega arith) p.1 in
      let r = not_due (bad_length a.gathered g) BROKEN-RECORD 0 (λ e. omega arith) q.1 in
      record { whole = p.0; room = ltb-false _ _ q.0; fits = r.0 }

-- ---- receiving
module _ (a : Assoc) (g o : List ℕ) where
  pub receive_steps : receive_refusal a g o ≡ cond (eqb (record_refusal a g BUFFER) 0) (cond (ltb (length o) TEN) SHORT-OUTPUT 0) (record_refusal a g BUFFER)
  unfolding receive_refusal record_refusal
  receive_steps = due_both (record_tests a g BUFFER) ((ltb (length o) TEN, SHORT-OUTPUT) ∷ []) refl

  pub receive_passed : receive_refusal a g o ≡ 0 → (record_refusal a g BUFFER ≡ 0) × (TEN ≤ length o)
  unfolding receive_refusal record_refusal
  receive_passed z =
      let p = due_neither (record_tests a g BUFFER) ((ltb (length o) TEN, SHORT-OUTPUT) ∷ []) refl z in
      (p.0, ltb-false _ _ (not_due (ltb (length o) TEN) SHORT-OUTPUT 0 (λ e. omega arith) p.1).0)

-- ---- a local event
module _ (s : Standing) (e : Local) (room : ℕ) where
  pub request_steps : request_refusal s e room ≡ cond (eqb (local_action s e) 0) BLANK-CELL (form_refusal (form_at s e) room)
  unfolding request_refusal
  request_steps = ap (λ (n : ℕ). cond (eqb (local_action s e) 0) BLANK-CELL n) (refusal_due (form_at s e) room)

  -- its cell is filled, and what it sends is not refused
  pub request_passed : request_refusal s e room ≡ 0 → (local_action s e ≡ 0 → ⊥) × (form_refusal (form_at s e) room ≡ 0)
  request_passed z =
      let p = not_due (eqb (local_action s e) 0) BLANK-CELL (form_refusal (form_at s e) room) (λ q. omega arith) (sym request_steps ∙ z) in
      (eqb-false _ _ p.0, p.1)

module _ (a : Assoc) (g o : List ℕ) (e : Local) where
  pub local_steps : local_refusal a g o e ≡ cond (eqb (record_refusal a g a.gathered) 0) (request_refusal (standing a) e (length o)) (record_refusal a g a.gathered)
  unfolding local_refusal record_refusal request_refusal
  local_steps = due_both (record_tests a g a.gathered) (request_tests (standing a) e (length o)) refl

  pub local_passed : local_refusal a g o e ≡ 0 → (record_refusal a g a.gathered ≡ 0) × (request_refusal (standing a) e (length o) ≡ 0)
  unfolding local_refusal record_refusal request_refusal
  local_passed = due_neither (record_tests a g a.gathered) (request_tests (standing a) e (length o)) refl
