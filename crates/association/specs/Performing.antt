-- What an action does: the record that it leaves, and the PDU that it sends by itself. Nothing here looks up a cell of Table 9-10.
use Rattle.std.specs.Prelude.{ℕ, Bool, true, false, cond, ◌&&◌, ◌||◌, List, eqb, ltb}
use Rattle.judging.specs.Pdu.{acceptable, maximum_of, type_of}
use Rattle.writing.specs.Ten.{NO-TEN, ABORT-USER, ABORT-UNRECOGNIZED, ABORT-UNEXPECTED, ABORT-INVALID, REJECT-VERSION, TEN-RELEASE-RQ, TEN-RELEASE-RP}
use Rattle.framing.specs.Framing.{Brought, Brought.pdu, Brought.over_length}
use Rattle.table.specs.ActionNames.{AE-1, AE-3, AE-6}
use Rattle.table.specs.EventNames.{INVALID-RECEIVED}
use Rattle.table.specs.Actions.{Sends, does_of, next_of, artim_of}
use Rattle.table.specs.Actions.{Sends.nothing, Sends.contents, Sends.reject_version, Sends.release_rq, Sends.release_rp, Sends.abort_user, Sends.abort_provider}
use Rattle.association.specs.declared.Assoc.{Assoc}
use Rattle.association.specs.declared.Brings.{Brings}
use Rattle.association.specs.Record.{Standing, with_gathered, moved, cleared}

-- ---- what the record takes from an event

-- "AE-6 .. if A-ASSOCIATE-RQ acceptable by service-provider"
unfoldable pub accepts_at : ℕ → List ℕ → Bool
accepts_at action p = eqb action AE-6 && acceptable p

-- "The peer maximum is taken at AE-3 and at AE-6 when it accepts."
unfoldable pub peer_at : ℕ → Standing → List ℕ → ℕ
peer_at action s p = cond (eqb action AE-3 || accepts_at action p) (maximum_of p) s.peer

-- a local event: nothing new
abbrev pub brings_nothing : Standing → Brings
brings_nothing s = record { accepts = false; peer_max = s.peer; deaf = s.deaf }

-- received bytes: whether AE-6 accepts; the peer maximum and deafness ("the invalid event comes at that sixth byte .. and the association is deaf") from now on
abbrev pub brings : ℕ → Standing → Brought → Brings
brings action s (pdu p) = record { accepts = accepts_at action p; peer_max = peer_at action s p; deaf = s.deaf }
brings action s over_length = record { accepts = false; peer_max = s.peer; deaf = true }

-- "(the mark is then set by AE-1)"
unfoldable pub requestor_after : ℕ → Standing → Bool
requestor_after action s = eqb action AE-1 || s.requestor

-- "Entering Sta1 clears gathered count, deafness, requestor mark and peer maximum.": all but the count
unfoldable pub entering : Standing → Standing
entering s = cond (eqb s.state 1) (cleared s) s

-- the count: the record that stands so, where n bytes were gathered
unfoldable pub leaving : Standing → ℕ → Assoc
leaving s n = with_gathered s (cond (eqb s.state 1) 0 n)

-- the record after an action
unfoldable pub after : ℕ → Standing → Brings → Standing
after action s b =
    entering
    (moved
    (next_of action b.accepts s.requestor)
    (artim_of action b.accepts s.artim)
    (requestor_after action s)
    b)

-- ---- what is sent

-- the A-ABORT of a received PDU: "reason 2 for an unexpected valid PDU, 6 for over-length, else 1 for a type outside 1..7, else 6"
unfoldable pub abort_for : ℕ → ℕ → ℕ
abort_for event type =
    cond (eqb event INVALID-RECEIVED)
    (cond (ltb type 1 || ltb 7 type) ABORT-UNRECOGNIZED ABORT-INVALID)
    ABORT-UNEXPECTED

abbrev pub abort_by : ℕ → Brought → ℕ
abort_by event (pdu p) = abort_for event (type_of p)
abort_by event over_length = ABORT-INVALID

-- what an action sends as the number of a ten-byte PDU, where `abort` is that of AA-7 and AA-8
abbrev pub ten_for : Sends → ℕ → ℕ
ten_for nothing abort = NO-TEN
ten_for (contents kind) abort = NO-TEN
ten_for reject_version abort = REJECT-VERSION
ten_for release_rq abort = TEN-RELEASE-RQ
ten_for release_rp abort = TEN-RELEASE-RP
ten_for abort_user abort = ABORT-USER
ten_for abort_provider abort = abort

-- the ten-byte PDU that an action sends by itself
unfoldable pub ten_by : ℕ → Bool → ℕ → ℕ
ten_by action accepts abort = ten_for (does_of action accepts false).sends abort
