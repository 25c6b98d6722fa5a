-- Any two permitted answers agree, for each public function; of a slice that is handed back, where it lies and its bytes.
-- Assumes nothing.
use Rattle.laws.proofs.Agree.{agree, Agrees, AgreesPart}
use Rattle.octets.proofs.SliceLaws.{parts_agree}
use Rattle.user_items.proofs.body.uid_in as uid-in
use Rattle.user_items.proofs.sent.user_good as user-good
use Rattle.user_items.proofs.user.user_ok as user-ok

pub uid_in_agrees : AgreesPart 1 uid-in.Kinds.ps uid-in.Kinds.r uid-in.Reads.Post (λ κs a. a)
uid_in_agrees κs args a b x y p q = parts_agree p q

pub user_ok_agrees : Agrees 1 user-ok.Kinds.ps user-ok.Kinds.r user-ok.Reads.Post
user_ok_agrees κs args a b x y p q = agree p q

pub user_good_agrees : Agrees 1 user-good.Kinds.ps user-good.Kinds.r user-good.Reads.Post
user_good_agrees κs args a b x y p q = agree p q
