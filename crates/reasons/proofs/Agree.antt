-- Any two permitted answers agree, for each public function.
-- Assumes nothing.
use Rattle.laws.proofs.Agree.{agree, Agrees}
use Rattle.reasons.proofs.abort_ok as abort-ok
use Rattle.reasons.proofs.reject_ok as reject-ok

pub abort_ok_agrees : Agrees 0 abort-ok.Kinds.ps abort-ok.Kinds.r abort-ok.Reads.Post
abort_ok_agrees κs args a b x y p q = agree p q

pub reject_ok_agrees : Agrees 0 reject-ok.Kinds.ps reject-ok.Kinds.r reject-ok.Reads.Post
reject_ok_agrees κs args a b x y p q = agree p q
