-- The one form of each PDU that is sent, and what a call that writes it answers and leaves: "An answered call writes its sent bytes at the start of the output and changes
-- no byte beyond them." "Every refusal returns its number, zero counts .. output stay unchanged."
use Rattle.std.specs.Prelude.{ℕ, ◌-◌, ◌≡◌, Bool, true, not, cond, List, [], ◌∷◌, length, leb, ltb, eqb, Result, Ok, Err}
use Rattle.laws.specs.Refusals.{first_due}
use Rattle.numbers.specs.declared.refusals.Refusal.{Refusal}
use Rattle.numbers.specs.Refusals.{NOT-REFUSED, SHORT-OUTPUT, BAD-CONTENTS, LONG-PDU, refusal_number}
use Rattle.numbers.specs.Kinds.{DATA-TF}
use Rattle.numbers.specs.Lengths.{HEADER, LONGEST}
use Rattle.octets.specs.Put.{front}
use Rattle.writing.specs.Fields.{RqFields, AcFields, Reject, Items, Abort, rq_good, ac_good, reject_good, items_good, abort_good}
use Rattle.writing.specs.Ten.{ten_of, TEN-RELEASE-RQ, TEN-RELEASE-RP, reject_bytes, abort_bytes}
use Rattle.writing.specs.Wire.{pdu_bytes, associate_bytes, rq_pdu, ac_pdu}

-- what a writing call answers: NOT-REFUSED or the paper's refusal number; the bytes sent
pub record Sent : Type 0 where
  pub refusal : ℕ
  pub count : ℕ

-- as the code's result says it
abbrev pub sent : Result ℕ Refusal → Sent
sent (Ok n) = record { refusal = NOT-REFUSED; count = n }
sent (Err e) = record { refusal = refusal_number e; count = 0 }

-- what some contents want sent: whether they are good, the greatest PDU-length that may be sent, the bytes
pub record Form : Type 0 where
  pub good : Bool
  pub most : ℕ
  pub pdu : List ℕ

-- of good contents, or none of the host's
abbrev pub good_form : List ℕ → Form
good_form pdu = record { good = true; most = LONGEST; pdu = pdu }

-- "Output room is the PDU-length plus 6."
abbrev pub form_tests : Form → ℕ → List (Bool × ℕ)
form_tests f room =
    (not f.good, BAD-CONTENTS)
    ∷ (ltb f.most (length f.pdu - HEADER), LONG-PDU)
    ∷ (ltb room (length f.pdu), SHORT-OUTPUT)
    ∷ []

-- the first of them that holds
unfoldable pub form_refusal : Form → ℕ → ℕ
form_refusal f room = first_due (form_tests f room)

-- the bytes sent: none where the call is refused
unfoldable pub sent_bytes : Form → ℕ → List ℕ
sent_bytes f room = cond (eqb (form_refusal f room) NOT-REFUSED) f.pdu []

unfoldable pub sent_of : Form → ℕ → Sent
sent_of f room = record { refusal = form_refusal f room; count = length (sent_bytes f room) }

-- a call wrote a form to the output o, which is now o', and answered r
pub record Wrote (f : Form) (o : List ℕ) (r : Sent) (o' : List ℕ) : Type 0 where
  pub answer : r ≡ sent_of f (length o)
  pub out : o' ≡ front o (sent_bytes f (length o))

-- ---- the seven

unfoldable pub rq_form : RqFields → Form
rq_form f = record { good = rq_good f; most = LONGEST; pdu = associate_bytes (rq_pdu f) }

unfoldable pub ac_form : AcFields → Form
ac_form f = record { good = ac_good f; most = LONGEST; pdu = associate_bytes (ac_pdu f) }

unfoldable pub reject_form : Reject → Form
reject_form f = record { good = reject_good f; most = LONGEST; pdu = reject_bytes f.result f.source f.reason }

-- 16,384, or a lower non-zero peer maximum
unfoldable pub most_of : ℕ → ℕ
most_of peer = cond (eqb peer 0) LONGEST (cond (leb peer LONGEST) peer LONGEST)

unfoldable pub data_form : ℕ → Items → Form
data_form peer f = record { good = items_good f; most = most_of peer; pdu = pdu_bytes DATA-TF f.items }

abbrev pub release_rq_form : Form
release_rq_form = good_form (ten_of TEN-RELEASE-RQ)

abbrev pub release_rp_form : Form
release_rp_form = good_form (ten_of TEN-RELEASE-RP)

unfoldable pub abort_form : Abort → Form
abort_form f = record { good = abort_good f; most = LONGEST; pdu = abort_bytes f.source f.reason }
