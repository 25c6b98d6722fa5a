-- Any two permitted answers agree, for each public function, and so do the contents of the lent sheets; of a slice that is handed back, where it lies and its bytes.
-- Assumes nothing.
use Prim.Native.Nat.{ℕ}
use mathlib.Core.List.{List}
use Rattle.laws.proofs.Agree.{agree, Agrees, AgreesLent, AgreesPart}
use Rattle.octets.proofs.SliceLaws.{parts_agree}
use Rattle.reading.proofs.ReadLaws.{associate_once}
use Rattle.reading.proofs.ValueLaws.{reject_once, abort_once}
use Rattle.reading.proofs.DataLaws.{data_once}
use Rattle.reading.proofs.associate.read_request as read-request
use Rattle.reading.proofs.associate.read_accept as read-accept
use Rattle.reading.proofs.values.read_reject as read-reject
use Rattle.reading.proofs.values.read_abort as read-abort
use Rattle.reading.proofs.data.read_data as read-data
use Rattle.reading.proofs.data.fragment as fragment
use Rattle.reading.proofs.data.pdv_at as pdv-at

pub read_request_agrees : AgreesLent {L = List ℕ × List ℕ} 3 read-request.Kinds.ps read-request.Kinds.r read-request.Reads.Post (λ κs x. (x.1.0.now, x.1.1.0.now))
read_request_agrees κs args a b x y p q = (associate_once a b p.1 q.1 (agree p.0.answer q.0.answer), λ i. (agree p.0.sheet q.0.sheet i, agree p.0.roles q.0.roles i))

pub read_accept_agrees : AgreesLent {L = List ℕ × List ℕ} 3 read-accept.Kinds.ps read-accept.Kinds.r read-accept.Reads.Post (λ κs x. (x.1.0.now, x.1.1.0.now))
read_accept_agrees κs args a b x y p q = (associate_once a b p.1 q.1 (agree p.0.answer q.0.answer), λ i. (agree p.0.sheet q.0.sheet i, agree p.0.roles q.0.roles i))

pub read_reject_agrees : Agrees 1 read-reject.Kinds.ps read-reject.Kinds.r read-reject.Reads.Post
read_reject_agrees κs args a b x y p q = reject_once a b (agree p q)

pub read_abort_agrees : Agrees 1 read-abort.Kinds.ps read-abort.Kinds.r read-abort.Reads.Post
read_abort_agrees κs args a b x y p q = abort_once a b (agree p q)

pub read_data_agrees : Agrees 1 read-data.Kinds.ps read-data.Kinds.r read-data.Reads.Post
read_data_agrees κs args a b x y p q = data_once a b (agree p q)

pub fragment_agrees : AgreesPart 1 fragment.Kinds.ps fragment.Kinds.r fragment.Reads.Post (λ κs a. a)
fragment_agrees κs args a b x y p q = parts_agree p q

pub pdv_at_agrees : Agrees 1 pdv-at.Kinds.ps pdv-at.Kinds.r pdv-at.Reads.Post
pdv_at_agrees κs args a b x y p q = data_once a b (agree p q)
