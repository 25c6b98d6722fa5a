-- The 19 events of Table 9-10, by their numbers: those that bytes bring, and those that the host gives.
use Rattle.std.specs.Prelude.{ℕ, Bool, cond, List, [], ◌∷◌, eqb}
use Rattle.laws.specs.Lists.{among}
use Rattle.numbers.specs.Kinds.{ASSOCIATE-RQ, ASSOCIATE-AC, ASSOCIATE-RJ, DATA-TF, RELEASE-RQ, RELEASE-RP, ABORT}
use Rattle.judging.specs.Pdu.{kind_of}
use Rattle.writing.specs.Fields.{RqFields, AcFields, Reject, Items}
use Rattle.table.specs.EventNames.{AC-RECEIVED, RJ-RECEIVED, RQ-RECEIVED, DATA-RECEIVED, RELEASE-RQ-RECEIVED, RELEASE-RP-RECEIVED, ABORT-RECEIVED, INVALID-RECEIVED}
use Rattle.table.specs.EventNames.{ASSOCIATE-REQUEST, TRANSPORT-CONFIRM, TRANSPORT-INDICATION, ACCEPT-RESPONSE, REJECT-RESPONSE, DATA-REQUEST, TRANSPORT-CLOSED}
use Rattle.association.specs.Record.{Standing}

-- ---- received

-- the event of a valid PDU of a kind, or else "Unrecognized or invalid PDU received"
unfoldable pub event_of_kind : ℕ → ℕ
event_of_kind kind =
    cond (eqb kind ASSOCIATE-RQ) RQ-RECEIVED
    (cond (eqb kind ASSOCIATE-AC) AC-RECEIVED
    (cond (eqb kind ASSOCIATE-RJ) RJ-RECEIVED
    (cond (eqb kind DATA-TF) DATA-RECEIVED
    (cond (eqb kind RELEASE-RQ) RELEASE-RQ-RECEIVED
    (cond (eqb kind RELEASE-RP) RELEASE-RP-RECEIVED
    (cond (eqb kind ABORT) ABORT-RECEIVED
    INVALID-RECEIVED))))))

-- the event that a completed PDU brings to an association
unfoldable pub event_of : Standing → List ℕ → ℕ
event_of s pdu = event_of_kind (kind_of pdu)

-- ---- local

-- "RQ fields come with the transport confirmation, AC fields with the accept response, a result, source and reason with the reject response, PDV items with P-DATA
-- request"; any event by its number alone
pub data Local : Type 0 where
  plain : ℕ → Local
  confirm : RqFields → Local
  accept : AcFields → Local
  reject : Reject → Local
  send : Items → Local

abbrev pub number_of : Local → ℕ
number_of (plain n) = n
number_of (confirm f) = TRANSPORT-CONFIRM
number_of (accept f) = ACCEPT-RESPONSE
number_of (reject f) = REJECT-RESPONSE
number_of (send f) = DATA-REQUEST

-- whether an event has contents, which a bare number cannot carry
unfoldable pub carries : ℕ → Bool
carries number = among number (TRANSPORT-CONFIRM ∷ ACCEPT-RESPONSE ∷ REJECT-RESPONSE ∷ DATA-REQUEST ∷ [])

-- three of the seven without contents
abbrev pub associate_request : Local
associate_request = plain ASSOCIATE-REQUEST

abbrev pub transport_indication : Local
transport_indication = plain TRANSPORT-INDICATION

abbrev pub transport_closed : Local
transport_closed = plain TRANSPORT-CLOSED
