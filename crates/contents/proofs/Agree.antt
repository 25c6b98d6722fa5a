-- Any two permitted answers agree, for each public function.
-- Assumes nothing.
use Rattle.laws.proofs.Agree.{agree, Agrees}
use Rattle.contents.proofs.top.items_ok as items-ok
use Rattle.contents.proofs.user.maximum_in as maximum-in

pub items_ok_agrees : Agrees 1 items-ok.Kinds.ps items-ok.Kinds.r items-ok.Reads.Post
items_ok_agrees κs args a b x y p q = agree p q

pub maximum_in_agrees : Agrees 1 maximum-in.Kinds.ps maximum-in.Kinds.r maximum-in.Reads.Post
maximum_in_agrees κs args a b x y p q = agree p q
