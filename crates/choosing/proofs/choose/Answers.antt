use Rattle.choosing.proofs.CallLaws.{choose_laws}
use Rattle.choosing.proofs.choose.Goals as goal

pub returns-then-not-proposal_ok : goal.returns-then-not-proposal_ok
returns-then-not-proposal_ok c = search choose_laws

pub returns-then-not-site_ok : goal.returns-then-not-site_ok
returns-then-not-site_ok c = search choose_laws

pub returns-then-answer-n : goal.returns-then-answer-n
returns-then-answer-n c = search choose_laws

pub put_answers-requires : goal.put_answers-requires
put_answers-requires c = search choose_laws

pub returns : goal.returns
returns c = search choose_laws
