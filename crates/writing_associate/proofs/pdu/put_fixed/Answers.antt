-- `put_fixed`: the head, and the 64 bytes behind it.
use Rattle.writing_associate.proofs.PduLaws.{fixed_laws}
use Rattle.writing_associate.proofs.pdu.put_fixed.Goals as goal

pub returns : goal.returns
returns c = search fixed_laws
