-- The round trip over the calls themselves: whatever a writer's contract permits it to send, whatever a reader's contract permits it to answer of those bytes is the same fields.
use Rattle.std.specs.Prelude.{ℕ, ◌≤◌, ◌≡◌, List, length, take, drop}
use contract.Lifetimes.{Lfts}
use denote.Triple.Clauses.{AtExit}
use borrow.Fn.Kinds.{ParamKind, ResultKind, Dens, res_t, ended_of, Out}
use Rattle.numbers.specs.Refusals.{NOT-REFUSED}
use Rattle.numbers.specs.Kinds.{ASSOCIATE-RQ, ASSOCIATE-AC, ASSOCIATE-RJ, DATA-TF, ABORT, kind_number}
use Rattle.octets.specs.Slice.{PartOf}
use Rattle.pdvs.specs.Data.{Pdv}
use Rattle.judging.specs.Pdu.{called_of, calling_of}
use Rattle.judging.proofs.kind_of as kind-of
use Rattle.reading.specs.Data.{pdv, data_as}
use Rattle.reading.specs.Values.{reject_as, abort_as}
use Rattle.reading.specs.Associate.{Associate, associate_as}
use Rattle.reading.proofs.read_request as read-request
use Rattle.reading.proofs.read_accept as read-accept
use Rattle.reading.proofs.read_reject as read-reject
use Rattle.reading.proofs.read_abort as read-abort
use Rattle.reading.proofs.read_data as read-data
use Rattle.reading.proofs.fragment as fragment
use Rattle.user_items.specs.Sent.{User}
use Rattle.writing.specs.Fields.{RqFields, AcFields, Reject, Abort}
use Rattle.writing.specs.Form.{Sent}
use Rattle.writing.proofs.write_reject as write-reject
use Rattle.writing.proofs.write_data as write-data
use Rattle.writing.proofs.write_release_request as write-release-request
use Rattle.writing.proofs.write_release_response as write-release-response
use Rattle.writing.proofs.write_abort as write-abort
use Rattle.writing_associate.specs.Said.{rq_said, ac_said}
use Rattle.writing_associate.proofs.write_request as write-request
use Rattle.writing_associate.proofs.write_accept as write-accept
use Rattle.round_trips.specs.Trips.{read_of, pdv_read}

-- a call that a function's contract permits, as the checker reads the contract (`Post` of the function's `Reads`): what was given, the answer, and what was lent as the call leaves it
pub record Permitted (n : ℕ) (ps : List (ParamKind n)) (r : ResultKind n) (Post : Out n ps r) : Type 0 where
  pub lifetimes : Lfts n
  pub given : Dens lifetimes ps
  pub answer : (res_t r lifetimes).Denot
  pub left : AtExit (ended_of n ps r) lifetimes
  pub permitted : Post lifetimes given answer left

-- ---- the calls, each with the places of its arguments
-- the contents, out
abbrev pub WriteRequest : Type 0
WriteRequest = Permitted 2 write-request.Kinds.ps write-request.Kinds.r write-request.Reads.Post

-- the contents that it was given, and what it left in the output
abbrev pub request_given : WriteRequest → RqFields
request_given c = rq_said c.given.0

abbrev pub request_out : WriteRequest → List ℕ
request_out c = c.left.1.0.now

-- the contents, out
abbrev pub WriteAccept : Type 0
WriteAccept = Permitted 2 write-accept.Kinds.ps write-accept.Kinds.r write-accept.Reads.Post

abbrev pub accept_given : WriteAccept → AcFields
accept_given c = ac_said c.given.0

abbrev pub accept_out : WriteAccept → List ℕ
accept_out c = c.left.1.0.now

-- result, source, reason, out
abbrev pub WriteReject : Type 0
WriteReject = Permitted 1 write-reject.Kinds.ps write-reject.Kinds.r write-reject.Reads.Post

-- items, peer, out
abbrev pub WriteData : Type 0
WriteData = Permitted 2 write-data.Kinds.ps write-data.Kinds.r write-data.Reads.Post

-- out
abbrev pub WriteReleaseRequest : Type 0
WriteReleaseRequest = Permitted 1 write-release-request.Kinds.ps write-release-request.Kinds.r write-release-request.Reads.Post

-- out
abbrev pub WriteReleaseResponse : Type 0
WriteReleaseResponse = Permitted 1 write-release-response.Kinds.ps write-release-response.Kinds.r write-release-response.Reads.Post

-- source, reason, out
abbrev pub WriteAbort : Type 0
WriteAbort = Permitted 1 write-abort.Kinds.ps write-abort.Kinds.r write-abort.Reads.Post

-- pdu
abbrev pub KindOf : Type 0
KindOf = Permitted 1 kind-of.Kinds.ps kind-of.Kinds.r kind-of.Reads.Post

-- pdu, sheet, roles: either reader of an RQ or AC, by its contract
abbrev pub ReadAssociate : Out 3 read-request.Kinds.ps read-request.Kinds.r → Type 0
ReadAssociate Post = Permitted 3 read-request.Kinds.ps read-request.Kinds.r Post

-- pdu
abbrev pub ReadReject : Type 0
ReadReject = Permitted 1 read-reject.Kinds.ps read-reject.Kinds.r read-reject.Reads.Post

abbrev pub ReadAbort : Type 0
ReadAbort = Permitted 1 read-abort.Kinds.ps read-abort.Kinds.r read-abort.Reads.Post

-- pdu, number
abbrev pub ReadData : Type 0
ReadData = Permitted 1 read-data.Kinds.ps read-data.Kinds.r read-data.Reads.Post

abbrev pub Fragment : Type 0
Fragment = Permitted 1 fragment.Kinds.ps fragment.Kinds.r fragment.Reads.Post

-- what a writing call sent, of the output that it left
abbrev pub bytes_written : Sent → List ℕ → List ℕ
bytes_written r out = take r.count out

-- ---- bytes that are read back
-- `kind_of` answers the kind of this number
abbrev pub Judged : List ℕ → ℕ → Type 0
Judged pdu k = (c : KindOf) → c.given.0.now ≡ pdu → kind_number c.answer ≡ k

-- s' starts with these bytes, and behind them nothing of s is changed
pub record StartsWith (bs s s' : List ℕ) : Type 0 where
  pub start : take (length bs) s' ≡ bs
  pub behind : drop (length bs) s' ≡ drop (length bs) s

-- reading an RQ or AC answered r, into the sheet s and the role sheet q, which are then s' and q': the same application name, class UID and version name, each where the answer says, and
-- the same sheets
pub record SameFields (application : List ℕ) (u : User) (sheet pdu s q : List ℕ) (r : Associate) (s' q' : List ℕ) : Type 0 where
  pub answer : r ≡ read_of application u sheet (length pdu)
  pub name : take r.application_len (drop r.application_at pdu) ≡ application
  pub class_uid : take r.class_len (drop r.class_at pdu) ≡ u.class
  pub version_name : take r.version_name_len (drop r.version_name_at pdu) ≡ u.version
  pub contexts : StartsWith sheet s s'
  pub roles : StartsWith u.roles q q'

-- whatever a reader with this contract answers of the bytes, into sheets that have room
abbrev pub ReadBack : Out 3 read-request.Kinds.ps read-request.Kinds.r → List ℕ → User → List ℕ → List ℕ → Type 0
ReadBack Post application u sheet pdu =
    (c : ReadAssociate Post) → c.given.0.now ≡ pdu → length sheet ≤ length c.given.1.0.now → length u.roles ≤ length c.given.1.1.0.now
    → SameFields application u sheet pdu c.given.1.0.now c.given.1.1.0.now (associate_as c.answer) c.left.1.0.now c.left.1.1.0.now

-- as an RQ with the fields f, the titles at their fixed places
pub record RequestBack (f : RqFields) (pdu : List ℕ) : Type 0 where
  pub kind : Judged pdu ASSOCIATE-RQ
  pub called : called_of pdu ≡ f.called
  pub calling : calling_of pdu ≡ f.calling
  pub read : ReadBack read-request.Reads.Post f.application f.user f.sheet pdu

-- as an AC with the fields f, the echoed bytes at their fixed place
pub record AcceptBack (f : AcFields) (pdu : List ℕ) : Type 0 where
  pub kind : Judged pdu ASSOCIATE-AC
  pub echoed : take 64 (drop 10 pdu) ≡ f.echoed
  pub read : ReadBack read-accept.Reads.Post f.application f.user f.sheet pdu

-- as an RJ and an ABORT with the values f
pub record RejectBack (f : Reject) (pdu : List ℕ) : Type 0 where
  pub kind : Judged pdu ASSOCIATE-RJ
  pub read : (c : ReadReject) → c.given.0.now ≡ pdu → reject_as c.answer ≡ record { refusal = NOT-REFUSED; result = f.result; source = f.source; reason = f.reason }

pub record AbortBack (f : Abort) (pdu : List ℕ) : Type 0 where
  pub kind : Judged pdu ABORT
  pub read : (c : ReadAbort) → c.given.0.now ≡ pdu → abort_as c.answer ≡ record { refusal = NOT-REFUSED; source = f.source; reason = f.reason }

-- as a P-DATA-TF of the PDVs ps: each by its number, its fragment the caller's own part; past the last refused, with the empty part
pub record DataBack (ps : List Pdv) (pdu : List ℕ) : Type 0 where
  pub kind : Judged pdu DATA-TF
  pub read : (c : ReadData) → c.given.0.now ≡ pdu → data_as c.answer ≡ pdv_read ps c.given.1.0
  pub own : (c : Fragment) → c.given.0.now ≡ pdu → PartOf c.given.0 (pdv_read ps c.given.1.0).start (pdv ps c.given.1.0).fragment c.answer
