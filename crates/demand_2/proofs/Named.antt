-- What each action of Table 9-10 sends is of the kind that it names: the ten-byte PDUs by their numbers, and one computed test of the table's cells.
-- Assumes nothing.
use Prim.Native.Nat.{ℕ, zero, suc, ◌<◌}
use mathlib.Core.Path.{◌≡◌, refl}
use mathlib.Core.Bool.{Bool, true, false, cond, ◌&&◌, ◌||◌, beq}
use mathlib.Core.List.{[], ◌∷◌}
use native.Mathlib.Omega.{arith}
use native.Mathlib.Decide.{dec_lt}
use lib.Dec.{T, eqb, ltb, eqb→eq}
use lib.ListN.{get_or}
use Rattle.laws.specs.Lists.{among}
use Rattle.laws.proofs.Booleans.{T-left, T-right}
use Rattle.octets.specs.Octets.{be16, be32}
use Rattle.reasons.specs.Values.{reject_reasons, reject_ok, abort_ok}
use Rattle.judging.specs.Pdu.{whole, valid_as, reject_pdu_ok, release_ok, abort_pdu_ok, kind_of}
use Rattle.writing.specs.Ten.{NO-TEN, ABORT-UNRECOGNIZED, ABORT-UNEXPECTED, ABORT-INVALID, tens, ten_of}
use Rattle.table.specs.EventNames.{INVALID-RECEIVED}
use Rattle.table.specs.Table.{cell_of, is_received}
use Rattle.table.specs.Actions.{next_of}
use Rattle.table.proofs.Right.{filled, each_filled}
use Rattle.table.proofs.Unfolded.{table_unfolded}
use Rattle.association.specs.Events.{carries}
use Rattle.association.specs.Performing.{abort_for, ten_by}
use Rattle.demand_2.proofs.Moves.{beq_eq, both, both_at}
use Rattle.demand_2.specs.Sent.{kind_named, sends_contents}

-- ---- the ten-byte PDUs

-- the kind of each, 0 for none
abbrev pub ten_kind : ℕ → ℕ
ten_kind which = get_or (0 ∷ 7 ∷ 7 ∷ 7 ∷ 7 ∷ 3 ∷ 5 ∷ 6 ∷ []) which 0

pub record Ten (which : ℕ) : Type 0 where
  pub kind : kind_of (ten_of which) ≡ ten_kind which
  pub none : ten_kind which ≡ 0 → ten_of which ≡ []

pub ten : (which : ℕ) → Ten which
unfolding ten_of tens kind_of whole valid_as reject_pdu_ok reject_ok reject_reasons release_ok abort_pdu_ok abort_ok among be32 be16
ten zero = record { kind = refl; none = λ z. refl }
ten (suc zero) = record { kind = refl; none = λ z. absurd (omega arith) }
ten (suc (suc zero)) = record { kind = refl; none = λ z. absurd (omega arith) }
ten (suc (suc (suc zero))) = record { kind = refl; none = λ z. absurd (omega arith) }
ten (suc (suc (suc (suc zero)))) = record { kind = refl; none = λ z. absurd (omega arith) }
ten (suc (suc (suc (suc (suc zero))))) = record { kind = refl; none = λ z. absurd (omega arith) }
ten (suc (suc (suc (suc (suc (suc zero)))))) = record { kind = refl; none = λ z. absurd (omega arith) }
ten (suc (suc (suc (suc (suc (suc (suc zero))))))) = record { kind = refl; none = λ z. absurd (omega arith) }
ten (suc (suc (suc (suc (suc (suc (suc (suc k)))))))) = record { kind = refl; none = λ z. refl }

-- ---- a test of any A-ABORT for a received PDU
abbrev any_abort : (ℕ → Bool) → Bool
any_abort f = f ABORT-UNRECOGNIZED && (f ABORT-UNEXPECTED && f ABORT-INVALID)

abbrev pub IsAbort : ℕ → Type 0
IsAbort which = (f : ℕ → Bool) → T (any_abort f) → T (f which)

pub is_invalid : IsAbort ABORT-INVALID
is_invalid f t = T-right (f ABORT-UNEXPECTED) (f ABORT-INVALID) (T-right (f ABORT-UNRECOGNIZED) (f ABORT-UNEXPECTED && f ABORT-INVALID) t)

pub is_abort : (event type : ℕ) → IsAbort (abort_for event type)
unfolding abort_for
is_abort event type f t = by (eqb event INVALID-RECEIVED) (ltb type 1 || ltb 7 type)
  where
    by : (x y : Bool) → T (f (cond x (cond y ABORT-UNRECOGNIZED ABORT-INVALID) ABORT-UNEXPECTED))
    by true true = T-left (f ABORT-UNRECOGNIZED) (f ABORT-UNEXPECTED && f ABORT-INVALID) t
    by true false = is_invalid f t
    by false y = T-left (f ABORT-UNEXPECTED) (f ABORT-INVALID) (T-right (f ABORT-UNRECOGNIZED) (f ABORT-UNEXPECTED && f ABORT-INVALID) t)

-- ---- the cells

-- the kind named where an action accepts or not, of the requestor's association or not
abbrev pub naming : ℕ → Bool → Bool → ℕ
naming action accepts requestor = kind_named action (next_of action accepts requestor)

-- the kind that a local event sends: by its contents, or the action's own PDU
abbrev pub given_kind : ℕ → ℕ → ℕ
given_kind event action = cond (carries event) (get_or (0 ∷ 0 ∷ 1 ∷ 0 ∷ 0 ∷ 0 ∷ 0 ∷ 2 ∷ 3 ∷ 4 ∷ []) event 0) (ten_kind (ten_by action false NO-TEN))

abbrev heard_right : ℕ → Bool
heard_right action = both (λ p. both (λ q. any_abort (λ w. eqb (naming action p q) (ten_kind (ten_by action p w)))))

abbrev given_right : ℕ → ℕ → Bool
given_right event action = both (λ q. eqb (naming action false q) (given_kind event action)) && beq (sends_contents action) (carries event)

tested : T (filled (λ e s. cond (is_received e) (heard_right (cell_of e s)) (given_right e (cell_of e s))))
unfolding table_unfolded carries kind_named ten_by sends_contents
tested = tt

-- no action at all
blank : T (heard_right 0)
unfolding table_unfolded kind_named ten_by
blank = tt

module _ (e s : ℕ) where
  heard_right_so : is_received e ≡ true → T (heard_right (cell_of e s))
  heard_right_so r = by (dec_lt 0 (cell_of e s))
    where
      by : Dec (0 < cell_of e s) → T (heard_right (cell_of e s))
      by (yes h) = rw r at (each_filled (λ e s. cond (is_received e) (heard_right (cell_of e s)) (given_right e (cell_of e s))) tested e s h)
      by (no h) = let z : cell_of e s ≡ 0 = omega arith in rw z blank

  -- an event that bytes bring, whichever A-ABORT is due
  pub heard_named : is_received e ≡ true → (p q : Bool) (w : ℕ) → IsAbort w → naming (cell_of e s) p q ≡ ten_kind (ten_by (cell_of e s) p w)
  heard_named r p q w a =
      eqb→eq _ _ (a (λ w. eqb (naming (cell_of e s) p q) (ten_kind (ten_by (cell_of e s) p w)))
      (both_at (λ q. any_abort (λ w. eqb (naming (cell_of e s) p q) (ten_kind (ten_by (cell_of e s) p w))))
      (both_at (λ p. both (λ q. any_abort (λ w. eqb (naming (cell_of e s) p q) (ten_kind (ten_by (cell_of e s) p w))))) (heard_right_so r) p) q))

  -- a local event
  module _ (r : is_received e ≡ false) (h : 0 < cell_of e s) where
    given_right_so : T (given_right e (cell_of e s))
    given_right_so = rw r at (each_filled (λ e s. cond (is_received e) (heard_right (cell_of e s)) (given_right e (cell_of e s))) tested e s h)

    pub given_named : (q : Bool) → naming (cell_of e s) false q ≡ given_kind e (cell_of e s)
    given_named q =
        eqb→eq _ _ (both_at (λ q. eqb (naming (cell_of e s) false q) (given_kind e (cell_of e s)))
        (T-left (both (λ q. eqb (naming (cell_of e s) false q) (given_kind e (cell_of e s)))) _ given_right_so) q)

    pub contents_sent : sends_contents (cell_of e s) ≡ carries e
    contents_sent = beq_eq _ _ (T-right (both (λ q. eqb (naming (cell_of e s) false q) (given_kind e (cell_of e s)))) _ given_right_so)
