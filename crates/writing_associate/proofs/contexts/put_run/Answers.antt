-- `put_run`: the head, the 30H, and the 40Hs.
use Rattle.writing_associate.proofs.ContextLaws.{put_run_laws}
use Rattle.writing_associate.proofs.contexts.put_run.Goals as goal

pub overflow_add-n-2 : goal.overflow_add-n-2
overflow_add-n-2 c = search put_run_laws

pub put_head-a-requires : goal.put_head-a-requires
put_head-a-requires c = search put_run_laws

pub put_item-b-requires : goal.put_item-b-requires
put_item-b-requires c = search put_run_laws

pub put_names-requires : goal.put_names-requires
put_names-requires c = search put_run_laws

pub returns : goal.returns
returns c = search put_run_laws
