-- Any two permitted answers agree, for each public function. Assumes nothing.
use Rattle.laws.proofs.Agree.{agree, Agrees, AgreesLent}
use Rattle.id_set.proofs.SetLaws.{same_set}
use Rattle.id_set.proofs.set.IdSet.words as words
use Rattle.id_set.proofs.set.IdSet.empty as empty
use Rattle.id_set.proofs.set.IdSet.contains as contains
use Rattle.id_set.proofs.set.IdSet.insert as insert

pub words_agrees : Agrees 1 words.Kinds.ps words.Kinds.r words.Reads.Post
words_agrees κs args a b x y p q = agree p q

pub empty_agrees : Agrees 0 empty.Kinds.ps empty.Kinds.r empty.Reads.Post
empty_agrees κs args a b x y p q = same_set a b p.words q.words (λ n. agree (p.none n) (q.none n))

pub contains_agrees : Agrees 1 contains.Kinds.ps contains.Kinds.r contains.Reads.Post
contains_agrees κs args a b x y p q = agree p q

pub insert_agrees : AgreesLent 1 insert.Kinds.ps insert.Kinds.r insert.Reads.Post (λ κs x. x.0.now)
insert_agrees κs args a b x y p q = (agree p.1 q.1, same_set _ _ p.0.words q.0.words (λ n. agree (p.0.ids n) (q.0.ids n)))
