-- Any two permitted answers agree, for each public function; of a slice that is handed back, where it lies and its bytes.
-- Assumes nothing.
use Rattle.laws.proofs.Agree.{agree, Agrees, AgreesPart}
use Rattle.octets.proofs.SliceLaws.{parts_agree}
use Rattle.roles.proofs.good.roles_ok as roles-ok
use Rattle.roles.proofs.record.role_of as role-of
use Rattle.roles.proofs.record.uid_at as uid-at

pub roles_ok_agrees : Agrees 1 roles-ok.Kinds.ps roles-ok.Kinds.r roles-ok.Reads.Post
roles_ok_agrees κs args a b x y p q = agree p q

pub role_of_agrees : Agrees 1 role-of.Kinds.ps role-of.Kinds.r role-of.Reads.Post
role_of_agrees κs args a b x y p q = agree p q

pub uid_at_agrees : AgreesPart 1 uid-at.Kinds.ps uid-at.Kinds.r uid-at.Reads.Post (λ κs a. a)
uid_at_agrees κs args a b x y p q = parts_agree p q
