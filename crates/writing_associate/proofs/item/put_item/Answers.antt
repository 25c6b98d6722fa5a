-- `put_item`: the head, and the body behind it.
use Rattle.writing_associate.proofs.ItemLaws.{item_laws}
use Rattle.writing_associate.proofs.item.put_item.Goals as goal

pub returns : goal.returns
returns c = search item_laws
