-- `write_pdu`: refused for its length or for want of room, or written.
use Rattle.writing_associate.proofs.PduLaws.{write_pdu_laws}
use Rattle.writing_associate.proofs.pdu.write_pdu.Goals as goal

pub pdu_size-n-requires : goal.pdu_size-n-requires
pdu_size-n-requires c = search write_pdu_laws

pub returns-then-n-gt-LONGEST : goal.returns-then-n-gt-LONGEST
returns-then-n-gt-LONGEST c = search write_pdu_laws

pub returns-then-out-n : goal.returns-then-out-n
returns-then-out-n c = search write_pdu_laws

pub put_pdu-requires : goal.put_pdu-requires
put_pdu-requires c = search write_pdu_laws

pub returns : goal.returns
returns c = search write_pdu_laws
