-- `put_pdu`: the items behind the fixed part.
use Rattle.writing_associate.proofs.PduLaws.{pdu_laws}
use Rattle.writing_associate.proofs.pdu.put_pdu.Goals as goal

pub put_fixed-a-requires : goal.put_fixed-a-requires
put_fixed-a-requires c = search pdu_laws

pub put_items-requires : goal.put_items-requires
put_items-requires c = search pdu_laws

pub returns : goal.returns
returns c = search pdu_laws
