-- Any two permitted answers agree, for the public function.
-- Assumes nothing.
use Rattle.laws.proofs.Agree.{agree, Agrees}
use Rattle.names.proofs.name.name_ok as name-ok

pub name_ok_agrees : Agrees 1 name-ok.Kinds.ps name-ok.Kinds.r name-ok.Reads.Post
name_ok_agrees κs args a b x y p q = agree p q
