-- Any two permitted answers agree, for each public function.
-- Assumes nothing.
use Rattle.laws.proofs.Agree.{agree, Agrees}
use Rattle.pdvs.proofs.pdv_end as pdv-end
use Rattle.pdvs.proofs.pdvs_ok as pdvs-ok

pub pdv_end_agrees : Agrees 1 pdv-end.Kinds.ps pdv-end.Kinds.r pdv-end.Reads.Post
pdv_end_agrees κs args a b x y p q = agree p.0 q.0

pub pdvs_ok_agrees : Agrees 1 pdvs-ok.Kinds.ps pdvs-ok.Kinds.r pdvs-ok.Reads.Post
pdvs_ok_agrees κs args a b x y p q = agree p q
