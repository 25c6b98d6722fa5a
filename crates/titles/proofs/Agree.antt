-- Any two permitted answers agree, for each public function.
-- Assumes nothing.
use Rattle.laws.proofs.Agree.{agree, Agrees}
use Rattle.titles.proofs.OwnLaws.{same_place}
use Rattle.titles.proofs.title.title_ok as title-ok
use Rattle.titles.proofs.equal.titles_equal as titles-equal
use Rattle.titles.proofs.own.title_place as title-place

pub title_ok_agrees : Agrees 1 title-ok.Kinds.ps title-ok.Kinds.r title-ok.Reads.Post
title_ok_agrees κs args a b x y p q = agree p q

pub titles_equal_agrees : Agrees 2 titles-equal.Kinds.ps titles-equal.Kinds.r titles-equal.Reads.Post
titles_equal_agrees κs args a b x y p q = agree p q

pub title_place_agrees : Agrees 2 title-place.Kinds.ps title-place.Kinds.r title-place.Reads.Post
title_place_agrees κs args a b x y p q = same_place a b (agree p.refused q.refused) (agree p.yes q.yes) (agree p.place q.place)
