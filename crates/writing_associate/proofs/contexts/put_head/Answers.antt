-- `put_head`: eight bytes.
use Rattle.writing_associate.proofs.ContextLaws.{head_laws}
use Rattle.writing_associate.proofs.contexts.put_head.Goals as goal

pub returns : goal.returns
returns c = search head_laws
