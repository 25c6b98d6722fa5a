-- `put_answer`: the head, and the 40H behind it.
use Rattle.writing_associate.proofs.ContextLaws.{put_answer_laws}
use Rattle.writing_associate.proofs.contexts.put_answer.Goals as goal

pub put_head-a-requires : goal.put_head-a-requires
put_head-a-requires c = search put_answer_laws

pub put_item-requires : goal.put_item-requires
put_item-requires c = search put_answer_laws

pub returns : goal.returns
returns c = search put_answer_laws
