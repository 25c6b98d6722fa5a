-- Any two permitted answers agree, for each public function, and so do the contents of the lent output.
-- Assumes nothing.
use Rattle.laws.proofs.Agree.{agree, AgreesLent}
use Rattle.writing.proofs.FormLaws.{sent_once}
use Rattle.writing_associate.proofs.write_request as write-request
use Rattle.writing_associate.proofs.write_accept as write-accept

pub write_request_agrees : AgreesLent 2 write-request.Kinds.ps write-request.Kinds.r write-request.Reads.Post (λ κs x. x.1.0.now)
write_request_agrees κs args a b x y p q = (sent_once _ _ (agree p.answer q.answer), agree p.out q.out)

pub write_accept_agrees : AgreesLent 2 write-accept.Kinds.ps write-accept.Kinds.r write-accept.Reads.Post (λ κs x. x.1.0.now)
write_accept_agrees κs args a b x y p q = (sent_once _ _ (agree p.answer q.answer), agree p.out q.out)
