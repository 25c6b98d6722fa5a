-- Reading an RJ and an ABORT: refused, or the values of its ten bytes.
-- Assumes nothing.
use Prim.Native.Nat.{ℕ}
use native.Mathlib.Omega.{arith}
use mathlib.Core.Bool.{true}
use mathlib.Core.List.{List}
use mathlib.Core.Path.{◌≡◌, refl, sym, ap, ◌∙◌}
use lib.ListN.{length, get_or}
use lib.Dec.{eqb}
use borrow.Author.Tests.{ne_eqb, eqb-true}
use Rattle.laws.proofs.Booleans.{left_of}
use Rattle.judging.specs.Pdu.{pdu_length, reject_pdu_ok, abort_pdu_ok, kind_of}
use Rattle.reasons.specs.Values.{reject_ok, abort_ok}
use Rattle.judging.proofs.KindLaws.{whole_length, kind_whole, kind_reject, kind_abort}
use Rattle.std.specs.Prelude.{Result, Ok, Err}
use Rattle.numbers.specs.declared.refusals.Refusal.{Refusal}
use Rattle.numbers.specs.Refusals.{refusal_in}
use Rattle.numbers.proofs.NumberLaws.{answer_once}
use Rattle.reading.specs.declared.values.Reject.{Reject}
use Rattle.reading.specs.declared.values.Abort.{Abort}
use Rattle.reading.specs.Values.{RejectRead, AbortRead, reject_in, abort_in, reject_as, abort_as}

module _ (x : List ℕ) where
  ten : (kind : ℕ) → kind_of x ≡ kind → (kind ≡ 0 → ⊥) → eqb (pdu_length x) 4 ≡ true → length x ≡ 10
  ten kind h ne f =
      let w = whole_length x (kind_whole x kind h ne) in
      let z : pdu_length x ≡ 4 = eqb-true _ _ f in
      omega arith

  -- ---- `read_reject`
  pub reject_ten : kind_of x ≡ 3 → length x ≡ 10
  unfolding reject_pdu_ok
  reject_ten h = ten 3 h (λ z. omega arith) (left_of _ (reject_ok (get_or x 7 0) (get_or x 8 0) (get_or x 9 0)) (kind_reject x h))

  pub reject_other : (kind_of x ≡ 3 → ⊥) → record { refusal = 7; result = 0; source = 0; reason = 0 } ≡ reject_in x
  unfolding reject_in
  reject_other h = rw (ne_eqb (kind_of x) 3 h)

  pub reject_is : kind_of x ≡ 3 → record { refusal = 0; result = get_or x 7 0; source = get_or x 8 0; reason = get_or x 9 0 } ≡ reject_in x
  unfolding reject_in
  reject_is h = rw h

  -- ---- `read_abort`
  pub abort_ten : kind_of x ≡ 7 → length x ≡ 10
  unfolding abort_pdu_ok
  abort_ten h = ten 7 h (λ z. omega arith) (left_of _ (abort_ok (get_or x 8 0) (get_or x 9 0)) (kind_abort x h))

  pub abort_other : (kind_of x ≡ 7 → ⊥) → record { refusal = 7; source = 0; reason = 0 } ≡ abort_in x
  unfolding abort_in
  abort_other h = rw (ne_eqb (kind_of x) 7 h)

  pub abort_is : kind_of x ≡ 7 → record { refusal = 0; source = get_or x 8 0; reason = get_or x 9 0 } ≡ abort_in x
  unfolding abort_in
  abort_is h = rw h

pub ruleset value_laws = (reject_ten, reject_other, reject_is, abort_ten, abort_other, abort_is)

-- ---- an answer is told by the record that it is
reject_back : RejectRead → Reject
reject_back r = record { result = r.result; source = r.source; reason = r.reason }

pub reject_once : (a b : Result Reject Refusal) → reject_as a ≡ reject_as b → a ≡ b
unfolding reject_back
reject_once a b e =
    answer_once a b (refusals a b e) (λ x y p q. ap reject_back (ap reject_as (sym p) ∙ (e ∙ ap reject_as q)))
  where
    said : (r : Result Reject Refusal) → refusal_in r ≡ (reject_as r).refusal
    said (Ok r) = refl
    said (Err n) = refl

    refusals : (a b : Result Reject Refusal) → reject_as a ≡ reject_as b → refusal_in a ≡ refusal_in b
    refusals a b e = said a ∙ (ap (λ (r : RejectRead). r.refusal) e ∙ sym (said b))

abort_back : AbortRead → Abort
abort_back r = record { source = r.source; reason = r.reason }

pub abort_once : (a b : Result Abort Refusal) → abort_as a ≡ abort_as b → a ≡ b
unfolding abort_back
abort_once a b e =
    answer_once a b (refusals a b e) (λ x y p q. ap abort_back (ap abort_as (sym p) ∙ (e ∙ ap abort_as q)))
  where
    said : (r : Result Abort Refusal) → refusal_in r ≡ (abort_as r).refusal
    said (Ok r) = refl
    said (Err n) = refl

    refusals : (a b : Result Abort Refusal) → abort_as a ≡ abort_as b → refusal_in a ≡ refusal_in b
    refusals a b e = said a ∙ (ap (λ (r : AbortRead). r.refusal) e ∙ sym (said b))
