-- From what the callees of a local event leave to what the call is.
-- Assumes nothing.
use Prim.Native.Nat.{ℕ, ◌≤◌, ◌<◌}
use mathlib.Core.Path.{◌≡◌, refl}
use mathlib.Core.Bool.{Bool, true, false, cond}
use mathlib.Core.List.{List, [], ◌∷◌, ◌++◌}
use native.Mathlib.Omega.{arith}
use lib.Dec.{eqb}
use lib.ListN.{length}
use borrow.Author.Rules.{rules}
use borrow.Author.Tests.{eq-eqb, ne_eqb, eqb-true, eqb-false}
use Rattle.numbers.specs.declared.refusals.Refusal.{Refusal}
use Rattle.numbers.specs.Refusals.{NOT-REFUSED, BLANK-CELL, SHORT-OUTPUT, BAD-CONTENTS, refusal_number}
use Rattle.numbers.proofs.NumberLaws.{refusal_some}
use Rattle.laws.proofs.Refusals.{due_both}
use Rattle.octets.specs.Put.{front, Placed}
use Rattle.octets.proofs.PutLaws.{placed_put}
use Rattle.std.specs.Prelude.{Result, Ok, Err}
use Rattle.writing.specs.Form.{sent, form_tests, form_refusal, Wrote}
use Rattle.writing.specs.Ten.{ten_of, NO-TEN}
use Rattle.writing.proofs.FormLaws.{refusal_is, refused_kept, sent_count, out_is, wrote_bad, wrote_short, wrote_fine}
use Rattle.writing.proofs.TenLaws.{ten_length}
use Rattle.association.specs.declared.Assoc.{Assoc}
use Rattle.association.specs.declared.Answer.{Answer}
use Rattle.association.specs.Record.{standing}
use Rattle.association.specs.Refusals.{record_tests, record_refusal, refused_with}
use Rattle.association.specs.Events.{Local, Local.plain, carries}
use Rattle.association.specs.Performing.{ten_by}
use Rattle.association.specs.Machine.{doing, local_cell, local_action, plain_form, form_at, on_local}
use Rattle.association.specs.Calls.{call, unless, local_refusal, local_of}
use Rattle.requests.specs.Private.Gates.{gate_refusal, done_locally, finish_of}

-- ---- `gate`
module _ (a : Assoc) (g : List ℕ) (action : ℕ) where
  steps : gate_refusal a g action ≡ cond (eqb (record_refusal a g a.gathered) 0) (cond (eqb action 0) BLANK-CELL 0) (record_refusal a g a.gathered)
  unfolding gate_refusal record_refusal
  steps = due_both (record_tests a g a.gathered) ((eqb action 0, BLANK-CELL) ∷ []) refl

  pub gate_record : (e : Refusal) → refusal_number e ≡ record_refusal a g a.gathered → refusal_number e ≡ gate_refusal a g action
  gate_record e q = rw (steps, ← q, ne_eqb (refusal_number e) 0 (refusal_some e))

  module _ (z : 0 ≡ record_refusal a g a.gathered) where
    pub gate_blank : action ≡ 0 → BLANK-CELL ≡ gate_refusal a g action
    gate_blank h = rw (steps, ← z, eq-eqb action 0 h)

    pub gate_open : (action ≡ 0 → ⊥) → gate_refusal a g action ≡ 0
    gate_open h = rw (steps, ← z, ne_eqb action 0 h)

-- ---- `write_plain`
module _ (number action : ℕ) (o : List ℕ) (x : Bool) (ex : x ≡ carries number) where
  pub plain_bad : x ≡ true → Wrote (plain_form number action) o (record { refusal = BAD-CONTENTS; count = 0 }) o
  unfolding plain_form
  plain_bad t = rw (← ex, t) (wrote_bad _ o refl)

  module _ (f : x ≡ false) (ten : ℕ) (et : ten ≡ ten_by action false NO-TEN) (n : ℕ) (en : n ≡ length (ten_of ten)) where
    pub plain_short : length o < n → Wrote (plain_form number action) o (record { refusal = SHORT-OUTPUT; count = 0 }) o
    unfolding plain_form
    plain_short h = rw (← ex, f, ← et) (wrote_short _ o refl (omega (arith, ten_length ten)) (omega arith))

    pub plain_fine : (m : ℕ) (o' : List ℕ) → n ≤ length o → Placed o 0 (ten_of ten) m o'
        → Wrote (plain_form number action) o (record { refusal = NOT-REFUSED; count = m }) o'
    unfolding plain_form
    plain_fine m o' h P =
        rw (← ex, f, ← et) (wrote_fine _ o refl (omega (arith, ten_length ten)) o' m (omega arith) (placed_put o 0 (ten_of ten) P (omega arith)))

pub ruleset plain_laws = (rules, plain_bad, plain_short, plain_fine)

-- ---- a local event: refused at the gate, or as the writer says
module _ (a : Assoc) (g o : List ℕ) (e : Local) where
  abbrev action : ℕ
  action = local_action (standing a) e

  went : local_of a g o e
      ≡ unless (cond (eqb (gate_refusal a g action) 0) (form_refusal (form_at (standing a) e) (length o)) (gate_refusal a g action)) a g o
      (call (done_locally a action (length (form_at (standing a) e).pdu)) g (front o (form_at (standing a) e).pdu))
  unfolding local_of local_refusal gate_refusal form_refusal on_local doing done_locally
  went =
      rw (← due_both (record_tests a g a.gathered ++ ((eqb (local_action (standing a) e) 0, BLANK-CELL) ∷ [])) (form_tests (form_at (standing a) e) (length o)) refl)

  pub shut_at : (w : Refusal) → refusal_number w ≡ gate_refusal a g action → (r : Answer) → r ≡ refused_with (refusal_number w) a → call r g o ≡ local_of a g o e
  shut_at w q r er = rw (er, went, ← q, ne_eqb (refusal_number w) 0 (refusal_some w)) (rw (ne_eqb (refusal_number w) 0 (refusal_some w)))

  -- by the number of the writer's refusal
  finish_is : (w : Result ℕ Refusal) → finish_of a action w ≡ cond (eqb (sent w).refusal 0) (done_locally a action (sent w).count) (refused_with (sent w).refusal a)
  finish_is (Ok n) = refl
  finish_is (Err e) = rw (ne_eqb (refusal_number e) 0 (refusal_some e))

  pub finish_at : (n : ℕ) → (n ≡ action) × (gate_refusal a g action ≡ 0) → (w : Result ℕ Refusal) (o' : List ℕ) (r : Answer) → Wrote (form_at (standing a) e) o (sent w) o'
      → r ≡ finish_of a n w → call r g o' ≡ local_of a g o e
  finish_at n (en, z) w o' r W er =
      rw (went, eq-eqb (gate_refusal a g action) 0 z, ← refusal_is (form_at (standing a) e) o (sent w) o' W, er, en, finish_is w) (by (eqb (sent w).refusal 0) refl)
    where
      by : (b : Bool) → eqb (sent w).refusal 0 ≡ b
          → call (cond b (done_locally a action (sent w).count) (refused_with (sent w).refusal a)) g o'
          ≡ cond b (call (done_locally a action (length (form_at (standing a) e).pdu)) g (front o (form_at (standing a) e).pdu)) (call (refused_with (sent w).refusal a) g o)
      by true q = rw (sent_count (form_at (standing a) e) o (sent w) o' W (eqb-true _ _ q), out_is (form_at (standing a) e) o (sent w) o' W (eqb-true _ _ q))
      by false q = rw (refused_kept (form_at (standing a) e) o (sent w) o' W (eqb-false _ _ q))

-- by its number alone
pub plain_at : (a : Assoc) (g o : List ℕ) (number n : ℕ) → (n ≡ local_cell number a.state) × (gate_refusal a g (local_cell number a.state) ≡ 0)
    → (w : Result ℕ Refusal) (o' : List ℕ) (r : Answer) → Wrote (plain_form number n) o (sent w) o' → r ≡ finish_of a n w → call r g o' ≡ local_of a g o (plain number)
plain_at a g o number n x w o' r W er = finish_at a g o (plain number) n x w o' r (rw x.0 at W) er
