-- `put_answers`: one item more, or all.
use Rattle.writing_associate.proofs.ContextLaws.{put_answers_laws}
use Rattle.writing_associate.proofs.contexts.put_answers.Goals as goal

pub put_answer-n-requires : goal.put_answer-n-requires
put_answer-n-requires c = search put_answers_laws

pub loop-r-preserved : goal.loop-r-preserved
loop-r-preserved c = search put_answers_laws

pub returns : goal.returns
returns c = search put_answers_laws
