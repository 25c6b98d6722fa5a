-- Reading an RJ and an ABORT: refused, or the values.
use Rattle.std.specs.Prelude.{ℕ, Bool, not, cond, List, [], ◌∷◌, get_or, eqb, Result, Ok, Err}
use Rattle.laws.specs.Refusals.{first_due}
use Rattle.numbers.specs.Refusals.{NOT-REFUSED, NO-SUCH-PDU, refusal_number}
use Rattle.numbers.specs.declared.refusals.Refusal.{Refusal}
use Rattle.numbers.specs.Kinds.{ASSOCIATE-RJ, ABORT}
use Rattle.judging.specs.Pdu.{kind_of}
use Rattle.reading.specs.declared.values.Reject.{Reject}
use Rattle.reading.specs.declared.values.Abort.{Abort}

-- refusal: 0, or 7 with all else 0
pub record RejectRead : Type 0 where
  pub refusal : ℕ
  pub result : ℕ
  pub source : ℕ
  pub reason : ℕ

pub record AbortRead : Type 0 where
  pub refusal : ℕ
  pub source : ℕ
  pub reason : ℕ

-- no whole valid PDU of the kind
abbrev pub value_tests : ℕ → List ℕ → List (Bool × ℕ)
value_tests kind pdu = (not (eqb (kind_of pdu) kind), NO-SUCH-PDU) ∷ []

abbrev pub value_refusal : ℕ → List ℕ → ℕ
value_refusal kind pdu = first_due (value_tests kind pdu)

unfoldable pub reject_in : List ℕ → RejectRead
reject_in pdu =
    cond (eqb (value_refusal ASSOCIATE-RJ pdu) NOT-REFUSED)
    (record { refusal = NOT-REFUSED; result = get_or pdu 7 0; source = get_or pdu 8 0; reason = get_or pdu 9 0 })
    (record { refusal = value_refusal ASSOCIATE-RJ pdu; result = 0; source = 0; reason = 0 })

unfoldable pub abort_in : List ℕ → AbortRead
abort_in pdu =
    cond (eqb (value_refusal ABORT pdu) NOT-REFUSED)
    (record { refusal = NOT-REFUSED; source = get_or pdu 8 0; reason = get_or pdu 9 0 })
    (record { refusal = value_refusal ABORT pdu; source = 0; reason = 0 })

-- ---- the code's answers as these records
abbrev pub reject_as : Result Reject Refusal → RejectRead
reject_as (Ok r) = record { refusal = NOT-REFUSED; result = r.result; source = r.source; reason = r.reason }
reject_as (Err e) = record { refusal = refusal_number e; result = 0; source = 0; reason = 0 }

abbrev pub abort_as : Result Abort Refusal → AbortRead
abort_as (Ok a) = record { refusal = NOT-REFUSED; source = a.source; reason = a.reason }
abort_as (Err e) = record { refusal = refusal_number e; source = 0; reason = 0 }
