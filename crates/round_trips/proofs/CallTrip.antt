-- The round trip over the calls themselves, for all seven: what a writer's contract permits it to send, a reader's contract reads back as the same fields.
-- Assumes nothing.
use Prim.Native.Nat.{ℕ, ◌+◌, ◌≤◌}
use mathlib.Core.Path.{◌≡◌, sym, ap, ◌∙◌}
use mathlib.Core.Bool.{true}
use mathlib.Core.List.{List, map}
use lib.ListN.{length}
use denote.Ref.{Bor}
use borrow.Fn.Kinds.{Out}
use Rattle.laws.specs.Lists.{all, joined}
use Rattle.octets.specs.Put.{front}
use Rattle.octets.specs.Slice.{PartOf}
use Rattle.octets.proofs.PutLaws.{front_start, front_behind}
use Rattle.pdvs.specs.Data.{Pdv, pdvs, pdv_bytes, pdv_fits}
use Rattle.pdvs.proofs.Back.{pdvs_of_bytes}
use Rattle.judging.specs.Pdu.{kind_of}
use Rattle.reading.specs.Associate.{Associate, associate_of, filling, roles_filling, Read, associate_as}
use Rattle.reading.specs.Values as values
use Rattle.reading.specs.Data.{DataRead, data_of, fragment_of}
use Rattle.reading.proofs.read_request as read-request
use Rattle.reading.proofs.read_accept as read-accept
use Rattle.user_items.specs.Sent.{User}
use Rattle.writing.specs.Fields.{reject_of, items_of, abort_of}
use Rattle.writing.specs.Form.{Sent, sent, Form, form_refusal, sent_bytes, sent_of, Wrote, rq_form, ac_form, reject_form, data_form, release_rq_form, release_rp_form, abort_form}
use Rattle.writing.proofs.FormLaws.{refusal_is}
use Rattle.round_trips.specs.Trips.{read_of, AssociateTrip, RqTrip, AcTrip, RejectTrip, DataTrip, AbortTrip}
use Rattle.round_trips.specs.Calls.{WriteRequest, request_given, request_out, WriteAccept, accept_given, accept_out, WriteReject, WriteData, WriteReleaseRequest, WriteReleaseResponse, WriteAbort, ReadAssociate, bytes_written, Judged, StartsWith, SameFields, ReadBack, RequestBack, AcceptBack, RejectBack, AbortBack, DataBack}
use Rattle.round_trips.proofs.SentTrip.{sent_rq, sent_ac, sent_reject, sent_data, sent_release_rq, sent_release_rp, sent_abort}

-- ---- what a writer's contract says was sent
module _ (f : Form) (o : List ℕ) (r : Sent) (o' : List ℕ) (w : Wrote f o r o') where
  sent_is : bytes_written r o' ≡ sent_bytes f (length o)
  unfolding sent_of
  sent_is = rw (w.answer, w.out) (front_start o (sent_bytes f (length o)))

  -- what holds of the bytes that an answered call sends
  holds : (P : List ℕ → Type 0) → (form_refusal f (length o) ≡ 0 → P (sent_bytes f (length o))) → r.refusal ≡ 0 → P (bytes_written r o')
  holds P p z = rw sent_is (p (sym (refusal_is f o r o' w) ∙ z))

-- ---- what the readers' contracts say
judged : (pdu : List ℕ) (k : ℕ) → kind_of pdu ≡ k → Judged pdu k
judged pdu k e c g = c.permitted ∙ (ap kind_of g ∙ e)

starts : (bs s s' : List ℕ) → s' ≡ front s bs → StartsWith bs s s'
starts bs s s' e = record { start = rw e (front_start s bs); behind = rw e (front_behind s bs) }

module _ (kind : ℕ) (application : List ℕ) (u : User) (sheet pdu x s q s' q' : List ℕ) (r : Associate) (g : x ≡ pdu) (p : Read kind x s q r s' q') (t : AssociateTrip kind application u sheet pdu) where
  same_fields : length sheet ≤ length s → length u.roles ≤ length q → SameFields application u sheet pdu s q r s' q'
  same_fields h l =
      let e : r ≡ read_of application u sheet (length pdu) = p.answer ∙ (ap (λ (y : List ℕ). associate_of kind y (length s) (length q)) g ∙ t.read (length s) (length q) h l) in
      record {
        answer = e;
        name = rw e t.stands;
        class_uid = rw e t.class_stands;
        version_name = rw e t.version_stands;
        contexts = starts sheet s s' (p.sheet ∙ (ap (λ (y : List ℕ). front s (filling kind y (length s) (length q))) g ∙ ap (front s) (t.filled (length s) (length q) h l)));
        roles = starts u.roles q q' (p.roles ∙ (ap (λ (y : List ℕ). front q (roles_filling kind y (length s) (length q))) g ∙ ap (front q) (t.roles (length s) (length q) h l)));
      }

-- whatever a reader of that kind answers
read_back : (kind : ℕ) (Post : Out 3 read-request.Kinds.ps read-request.Kinds.r)
    → ((c : ReadAssociate Post) → Read kind c.given.0.now c.given.1.0.now c.given.1.1.0.now (associate_as c.answer) c.left.1.0.now c.left.1.1.0.now)
    → (application : List ℕ) (u : User) (sheet pdu : List ℕ) → AssociateTrip kind application u sheet pdu → ReadBack Post application u sheet pdu
read_back kind Post p application u sheet pdu t d g h l =
    same_fields kind application u sheet pdu d.given.0.now d.given.1.0.now d.given.1.1.0.now d.left.1.0.now d.left.1.1.0.now (associate_as d.answer) g (p d) t h l

-- the part that `fragment` hands back
part_is : (s r : Bor (List ℕ)) (pdu : List ℕ) (n : ℕ) {at : ℕ} {bs : List ℕ} → s.now ≡ pdu → PartOf s (data_of s.now n).start (fragment_of s.now n) r
    → (data_of pdu n).start ≡ at → fragment_of pdu n ≡ bs → PartOf s at bs r
part_is s r pdu n g p a b =
    record {
      block = p.block;
      place = p.place ∙ ap (λ (k : ℕ). s.ref_ptr.1 + k) (ap (λ (x : List ℕ). (data_of x n).start) g ∙ a);
      bytes = p.bytes ∙ (ap (λ (x : List ℕ). fragment_of x n) g ∙ b);
    }

-- ---- the seven
pub request_call : (c : WriteRequest) → (sent c.answer).refusal ≡ 0 → RequestBack (request_given c) (bytes_written (sent c.answer) (request_out c))
request_call c z =
    let f = request_given c in
    let o = c.given.1.0.now in
    let pdu = bytes_written (sent c.answer) (request_out c) in
    let t = holds (rq_form f) o (sent c.answer) (request_out c) c.permitted (RqTrip f) (sent_rq (length o) f) z in
    record {
      kind = judged pdu 1 t.kind;
      called = t.called;
      calling = t.calling;
      read = read_back 1 read-request.Reads.Post (λ d. d.permitted.0) f.application f.user f.sheet pdu t.fields;
    }

pub accept_call : (c : WriteAccept) → (sent c.answer).refusal ≡ 0 → AcceptBack (accept_given c) (bytes_written (sent c.answer) (accept_out c))
accept_call c z =
    let f = accept_given c in
    let o = c.given.1.0.now in
    let pdu = bytes_written (sent c.answer) (accept_out c) in
    let t = holds (ac_form f) o (sent c.answer) (accept_out c) c.permitted (AcTrip f) (sent_ac (length o) f) z in
    record {
      kind = judged pdu 2 t.kind;
      echoed = t.echoed;
      read = read_back 2 read-accept.Reads.Post (λ d. d.permitted.0) f.application f.user f.sheet pdu t.fields;
    }

pub reject_call : (c : WriteReject) → (sent c.answer).refusal ≡ 0 → RejectBack (reject_of c.given.0 c.given.1.0 c.given.1.1.0) (bytes_written (sent c.answer) c.left.1.1.1.0.now)
reject_call c z =
    let f = reject_of c.given.0 c.given.1.0 c.given.1.1.0 in
    let o = c.given.1.1.1.0.now in
    let pdu = bytes_written (sent c.answer) c.left.1.1.1.0.now in
    let t = holds (reject_form f) o (sent c.answer) c.left.1.1.1.0.now c.permitted (RejectTrip f) (sent_reject (length o) f) z in
    record { kind = judged pdu 3 t.kind; read = λ d g. d.permitted ∙ (ap values.reject_in g ∙ t.read) }

pub data_call : (c : WriteData) → (sent c.answer).refusal ≡ 0 → DataBack (pdvs c.given.0.now) (bytes_written (sent c.answer) c.left.1.1.0.now)
data_call c z =
    let f = items_of c.given.0.now in
    let o = c.given.1.1.0.now in
    let pdu = bytes_written (sent c.answer) c.left.1.1.0.now in
    let t = holds (data_form c.given.1.0 f) o (sent c.answer) c.left.1.1.0.now c.permitted (DataTrip f) (sent_data (length o) c.given.1.0 f) z in
    record {
      kind = judged pdu 4 t.kind;
      read = λ d g. d.permitted ∙ (ap (λ (x : List ℕ). data_of x d.given.1.0) g ∙ t.read d.given.1.0);
      own = λ d g. part_is d.given.0 d.answer pdu d.given.1.0 g d.permitted (ap (λ (x : DataRead). x.start) (t.read d.given.1.0)) (t.fragment d.given.1.0);
    }

-- items that are the bytes of PDVs: these PDVs
pub pdvs_call : (ps : List Pdv) → all pdv_fits ps ≡ true → (c : WriteData) → c.given.0.now ≡ joined (map pdv_bytes ps) → (sent c.answer).refusal ≡ 0
    → DataBack ps (bytes_written (sent c.answer) c.left.1.1.0.now)
pdvs_call ps h c g z = let e : pdvs c.given.0.now ≡ ps = ap pdvs g ∙ pdvs_of_bytes ps h in rw e at (data_call c z)

pub release_request_call : (c : WriteReleaseRequest) → (sent c.answer).refusal ≡ 0 → Judged (bytes_written (sent c.answer) c.left.0.now) 5
release_request_call c z =
    let o = c.given.0.now in
    judged (bytes_written (sent c.answer) c.left.0.now) 5 (holds release_rq_form o (sent c.answer) c.left.0.now c.permitted (λ (x : List ℕ). kind_of x ≡ 5) (sent_release_rq (length o)) z)

pub release_response_call : (c : WriteReleaseResponse) → (sent c.answer).refusal ≡ 0 → Judged (bytes_written (sent c.answer) c.left.0.now) 6
release_response_call c z =
    let o = c.given.0.now in
    judged (bytes_written (sent c.answer) c.left.0.now) 6 (holds release_rp_form o (sent c.answer) c.left.0.now c.permitted (λ (x : List ℕ). kind_of x ≡ 6) (sent_release_rp (length o)) z)

pub abort_call : (c : WriteAbort) → (sent c.answer).refusal ≡ 0 → AbortBack (abort_of c.given.0 c.given.1.0) (bytes_written (sent c.answer) c.left.1.1.0.now)
abort_call c z =
    let f = abort_of c.given.0 c.given.1.0 in
    let o = c.given.1.1.0.now in
    let pdu = bytes_written (sent c.answer) c.left.1.1.0.now in
    let t = holds (abort_form f) o (sent c.answer) c.left.1.1.0.now c.permitted (AbortTrip f) (sent_abort (length o) f) z in
    record { kind = judged pdu 7 t.kind; read = λ d g. d.permitted ∙ (ap values.abort_in g ∙ t.read) }
