-- Any two permitted answers agree, for each function, and so do the numbers, the association and the buffers that it was lent, as it leaves them.
-- Assumes nothing.
use mathlib.Core.Path.{refl, ap}
use Prim.Native.Nat.{ℕ}
use mathlib.Core.List.{List, []}
use Rattle.laws.proofs.Agree.{agree, AgreesLent}
use Rattle.reading.specs.Associate.{Associate}
use Rattle.assoc_bytes.specs.Handed.{Handed, handed}
use Rattle.feohanna.specs.Fields.{associate, reject, abort, pdv_fields}
use Rattle.feohanna.proofs.calls.feo_raw_receive as receive
use Rattle.feohanna.proofs.calls.feo_raw_event as event
use Rattle.feohanna.proofs.calls.feo_raw_confirm as confirm
use Rattle.feohanna.proofs.calls.feo_raw_accept as accept
use Rattle.feohanna.proofs.calls.feo_raw_reject as reject
use Rattle.feohanna.proofs.calls.feo_raw_send as send
use Rattle.feohanna.proofs.fresh.feo_raw_fresh as fresh
use Rattle.feohanna.proofs.readers.feo_raw_read_request as read-request
use Rattle.feohanna.proofs.readers.feo_raw_read_accept as read-accept
use Rattle.feohanna.proofs.readers.feo_raw_read_reject as read-reject
use Rattle.feohanna.proofs.readers.feo_raw_read_abort as read-abort
use Rattle.feohanna.proofs.readers.feo_raw_read_data as read-data
use Rattle.feohanna.proofs.readers.feo_raw_pdv_at as pdv-at
use Rattle.feohanna.proofs.choose.feo_raw_choose as choose
use Rattle.feohanna.proofs.title.feo_raw_title_place as title-place

-- what is handed out beside the refusal
abbrev rest : Handed → Handed
rest h = handed 0 h.numbers h.assoc h.gather h.out

-- and where the gather buffer is only read
abbrev rest_but : Handed → Handed
rest_but h = handed 0 h.numbers h.assoc [] h.out

abbrev others : Associate → Associate
others f =
    associate 0 f.version f.application_at f.application_len f.maximum f.records
    f.class_at f.class_len f.version_name_at f.version_name_len f.invoked f.performed f.roles

pub feo_raw_receive_agrees : AgreesLent 5 receive.Kinds.ps receive.Kinds.r receive.Reads.Post (λ κs x. handed 0 x.1.1.1.1.0.now x.0.now x.1.0.now x.1.1.1.0.now)
feo_raw_receive_agrees κs args a b x y p q = (ap (λ h. h.refusal) (agree p q), ap rest (agree p q))

pub feo_raw_event_agrees : AgreesLent 4 event.Kinds.ps event.Kinds.r event.Reads.Post (λ κs x. handed 0 x.1.1.1.1.0.now x.0.now [] x.1.1.1.0.now)
feo_raw_event_agrees κs args a b x y p q = (ap (λ h. h.refusal) (agree p q), ap rest_but (agree p q))

pub feo_raw_confirm_agrees : AgreesLent 11 confirm.Kinds.ps confirm.Kinds.r confirm.Reads.Post (λ κs x. handed 0 x.1.1.1.1.1.1.1.1.1.1.1.1.0.now x.0.now [] x.1.1.1.1.1.1.1.1.1.1.1.0.now)
feo_raw_confirm_agrees κs args a b x y p q = (ap (λ h. h.refusal) (agree p q), ap rest_but (agree p q))

pub feo_raw_accept_agrees : AgreesLent 10 accept.Kinds.ps accept.Kinds.r accept.Reads.Post (λ κs x. handed 0 x.1.1.1.1.1.1.1.1.1.1.1.0.now x.0.now [] x.1.1.1.1.1.1.1.1.1.1.0.now)
feo_raw_accept_agrees κs args a b x y p q = (ap (λ h. h.refusal) (agree p q), ap rest_but (agree p q))

pub feo_raw_reject_agrees : AgreesLent 4 reject.Kinds.ps reject.Kinds.r reject.Reads.Post (λ κs x. handed 0 x.1.1.1.1.1.1.0.now x.0.now [] x.1.1.1.1.1.0.now)
feo_raw_reject_agrees κs args a b x y p q = (ap (λ h. h.refusal) (agree p q), ap rest_but (agree p q))

pub feo_raw_send_agrees : AgreesLent 5 send.Kinds.ps send.Kinds.r send.Reads.Post (λ κs x. handed 0 x.1.1.1.1.0.now x.0.now [] x.1.1.1.0.now)
feo_raw_send_agrees κs args a b x y p q = (ap (λ h. h.refusal) (agree p q), ap rest_but (agree p q))

pub feo_raw_fresh_agrees : AgreesLent 1 fresh.Kinds.ps fresh.Kinds.r fresh.Reads.Post (λ κs x. x.0.now)
feo_raw_fresh_agrees κs args a b x y p q = (refl, agree p q)

pub feo_raw_read_request_agrees : AgreesLent {L = Associate × (List ℕ × List ℕ)} 15 read-request.Kinds.ps read-request.Kinds.r read-request.Reads.Post (λ κs x. (associate 0 x.1.1.1.0.now x.1.1.1.1.0.now x.1.1.1.1.1.0.now x.1.1.1.1.1.1.0.now x.1.1.1.1.1.1.1.0.now x.1.1.1.1.1.1.1.1.0.now x.1.1.1.1.1.1.1.1.1.0.now x.1.1.1.1.1.1.1.1.1.1.0.now x.1.1.1.1.1.1.1.1.1.1.1.0.now x.1.1.1.1.1.1.1.1.1.1.1.1.0.now x.1.1.1.1.1.1.1.1.1.1.1.1.1.0.now x.1.1.1.1.1.1.1.1.1.1.1.1.1.1.0.now, (x.1.0.now, x.1.1.0.now)))
feo_raw_read_request_agrees κs args a b x y p q =
    (ap (λ f. f.refusal) (agree p.answer q.answer), λ i. (others (agree p.answer q.answer i), (agree p.sheet q.sheet i, agree p.roles q.roles i)))

pub feo_raw_read_accept_agrees : AgreesLent {L = Associate × (List ℕ × List ℕ)} 15 read-accept.Kinds.ps read-accept.Kinds.r read-accept.Reads.Post (λ κs x. (associate 0 x.1.1.1.0.now x.1.1.1.1.0.now x.1.1.1.1.1.0.now x.1.1.1.1.1.1.0.now x.1.1.1.1.1.1.1.0.now x.1.1.1.1.1.1.1.1.0.now x.1.1.1.1.1.1.1.1.1.0.now x.1.1.1.1.1.1.1.1.1.1.0.now x.1.1.1.1.1.1.1.1.1.1.1.0.now x.1.1.1.1.1.1.1.1.1.1.1.1.0.now x.1.1.1.1.1.1.1.1.1.1.1.1.1.0.now x.1.1.1.1.1.1.1.1.1.1.1.1.1.1.0.now, (x.1.0.now, x.1.1.0.now)))
feo_raw_read_accept_agrees κs args a b x y p q =
    (ap (λ f. f.refusal) (agree p.answer q.answer), λ i. (others (agree p.answer q.answer i), (agree p.sheet q.sheet i, agree p.roles q.roles i)))

pub feo_raw_read_reject_agrees : AgreesLent 4 read-reject.Kinds.ps read-reject.Kinds.r read-reject.Reads.Post
    (λ κs x. reject 0 x.1.0.now x.1.1.0.now x.1.1.1.0.now)
feo_raw_read_reject_agrees κs args a b x y p q = (ap (λ f. f.refusal) (agree p q), ap (λ f. reject 0 f.result f.source f.reason) (agree p q))

pub feo_raw_read_abort_agrees : AgreesLent 3 read-abort.Kinds.ps read-abort.Kinds.r read-abort.Reads.Post
    (λ κs x. abort 0 x.1.0.now x.1.1.0.now)
feo_raw_read_abort_agrees κs args a b x y p q = (ap (λ f. f.refusal) (agree p q), ap (λ f. abort 0 f.source f.reason) (agree p q))

pub feo_raw_read_data_agrees : AgreesLent 5 read-data.Kinds.ps read-data.Kinds.r read-data.Reads.Post
    (λ κs x. pdv_fields 0 x.1.1.0.now x.1.1.1.0.now x.1.1.1.1.0.now x.1.1.1.1.1.0.now)
feo_raw_read_data_agrees κs args a b x y p q = (ap (λ f. f.refusal) (agree p q), ap (λ f. pdv_fields 0 f.id f.control f.start f.len) (agree p q))

pub feo_raw_pdv_at_agrees : AgreesLent 5 pdv-at.Kinds.ps pdv-at.Kinds.r pdv-at.Reads.Post
    (λ κs x. pdv_fields 0 x.1.1.0.now x.1.1.1.0.now x.1.1.1.1.0.now x.1.1.1.1.1.0.now)
feo_raw_pdv_at_agrees κs args a b x y p q = (ap (λ f. f.refusal) (agree p q), ap (λ f. pdv_fields 0 f.id f.control f.start f.len) (agree p q))

pub feo_raw_choose_agrees : AgreesLent {L = ℕ × List ℕ} 4 choose.Kinds.ps choose.Kinds.r choose.Reads.Post
    (λ κs x. (x.1.1.1.0.now, x.1.1.0.now))
feo_raw_choose_agrees κs args a b x y p q = (ap (λ c. c.refusal) (agree p.answer q.answer), λ i. ((agree p.answer q.answer i).records, agree p.sheet q.sheet i))

pub feo_raw_title_place_agrees : AgreesLent {L = ℕ × ℕ} 4 title-place.Kinds.ps title-place.Kinds.r title-place.Reads.Post
    (λ κs x. (x.1.1.0.now, x.1.1.1.0.now))
feo_raw_title_place_agrees κs args a b x y p q = (agree p.refused q.refused, λ i. (agree p.yes q.yes i, agree p.place q.place i))
