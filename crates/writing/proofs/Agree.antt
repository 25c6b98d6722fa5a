-- Any two permitted answers agree, for each public function, and so do the contents of the lent output.
-- Assumes nothing.
use Rattle.laws.proofs.Agree.{agree, Agrees, AgreesLent}
use Rattle.writing.proofs.FormLaws.{sent_once}
use Rattle.writing.proofs.ten.ten_len as ten-len
use Rattle.writing.proofs.ten.write_ten as write-ten
use Rattle.writing.proofs.ten.write_reject as write-reject
use Rattle.writing.proofs.data.write_data as write-data
use Rattle.writing.proofs.ten.write_release_request as write-release-request
use Rattle.writing.proofs.ten.write_release_response as write-release-response
use Rattle.writing.proofs.ten.write_abort as write-abort

pub ten_len_agrees : Agrees 0 ten-len.Kinds.ps ten-len.Kinds.r ten-len.Reads.Post
ten_len_agrees κs args a b x y p q = agree p q

pub write_ten_agrees : AgreesLent 1 write-ten.Kinds.ps write-ten.Kinds.r write-ten.Reads.Post (λ κs x. x.1.0.now)
write_ten_agrees κs args a b x y p q = (agree p.behind q.behind, agree p.out q.out)

pub write_reject_agrees : AgreesLent 1 write-reject.Kinds.ps write-reject.Kinds.r write-reject.Reads.Post (λ κs x. x.1.1.1.0.now)
write_reject_agrees κs args a b x y p q = (sent_once _ _ (agree p.answer q.answer), agree p.out q.out)

pub write_data_agrees : AgreesLent 2 write-data.Kinds.ps write-data.Kinds.r write-data.Reads.Post (λ κs x. x.1.1.0.now)
write_data_agrees κs args a b x y p q = (sent_once _ _ (agree p.answer q.answer), agree p.out q.out)

pub write_release_request_agrees : AgreesLent 1 write-release-request.Kinds.ps write-release-request.Kinds.r write-release-request.Reads.Post (λ κs x. x.0.now)
write_release_request_agrees κs args a b x y p q = (sent_once _ _ (agree p.answer q.answer), agree p.out q.out)

pub write_release_response_agrees : AgreesLent 1 write-release-response.Kinds.ps write-release-response.Kinds.r write-release-response.Reads.Post (λ κs x. x.0.now)
write_release_response_agrees κs args a b x y p q = (sent_once _ _ (agree p.answer q.answer), agree p.out q.out)

pub write_abort_agrees : AgreesLent 1 write-abort.Kinds.ps write-abort.Kinds.r write-abort.Reads.Post (λ κs x. x.1.1.0.now)
write_abort_agrees κs args a b x y p q = (sent_once _ _ (agree p.answer q.answer), agree p.out q.out)
