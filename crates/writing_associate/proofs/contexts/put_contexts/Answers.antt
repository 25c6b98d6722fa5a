-- `put_contexts`: by the side's items.
use Rattle.writing_associate.specs.Private.ContextItems.{context_bytes}
use Rattle.writing_associate.proofs.contexts.put_contexts.Goals as goal

pub put_runs-requires : goal.put_runs-requires
unfolding context_bytes
put_runs-requires c = rw c.in-Request.is at c.requires

pub put_answers-requires : goal.put_answers-requires
unfolding context_bytes
put_answers-requires c = (rw c.in-Accept.is at c.requires).0

pub returns-in-Request : goal.returns-in-Request
unfolding context_bytes
returns-in-Request c = rw c.in-Request.is c.put_runs.ensures

pub returns-in-Accept : goal.returns-in-Accept
unfolding context_bytes
returns-in-Accept c = rw c.in-Accept.is c.put_answers.ensures
