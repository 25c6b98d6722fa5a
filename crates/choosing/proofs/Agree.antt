-- Any two permitted answers agree, and so do the contents of the lent sheet.
-- Assumes nothing.
use Rattle.laws.proofs.Agree.{agree, AgreesLent}
use Rattle.choosing.proofs.CallLaws.{chosen_once}
use Rattle.choosing.proofs.choose as choose

pub choose_agrees : AgreesLent 3 choose.Kinds.ps choose.Kinds.r choose.Reads.Post (λ κs x. x.1.1.0.now)
choose_agrees κs args a b x y p q = (chosen_once _ _ (agree p.answer q.answer), agree p.sheet q.sheet)
