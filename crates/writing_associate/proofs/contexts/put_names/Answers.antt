-- `put_names`: one item more, or all.
use Rattle.writing_associate.proofs.ContextLaws.{put_names_laws}
use Rattle.writing_associate.proofs.contexts.put_names.Goals as goal

pub put_item-n-requires : goal.put_item-n-requires
put_item-n-requires c = search put_names_laws

pub loop-r-preserved : goal.loop-r-preserved
loop-r-preserved c = search put_names_laws

pub returns : goal.returns
returns c = search put_names_laws
