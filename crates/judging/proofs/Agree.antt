-- Any two permitted answers agree, for each public function.
-- Assumes nothing.
use Rattle.laws.proofs.Agree.{agree, Agrees}
use Rattle.numbers.proofs.NumberLaws.{kind_once}
use Rattle.judging.proofs.kind.acceptable as acceptable
use Rattle.judging.proofs.kind.kind_of as kind-of
use Rattle.judging.proofs.kind.maximum_of as maximum-of

pub acceptable_agrees : Agrees 1 acceptable.Kinds.ps acceptable.Kinds.r acceptable.Reads.Post
acceptable_agrees κs args a b x y p q = agree p q

pub kind_of_agrees : Agrees 1 kind-of.Kinds.ps kind-of.Kinds.r kind-of.Reads.Post
kind_of_agrees κs args a b x y p q = kind_once a b (agree p q)

pub maximum_of_agrees : Agrees 1 maximum-of.Kinds.ps maximum-of.Kinds.r maximum-of.Reads.Post
maximum_of_agrees κs args a b x y p q = agree p q
