-- `pdu_size`: above the limit already, or by the contexts.
use Rattle.writing_associate.proofs.PduLaws.{size_laws}
use Rattle.writing_associate.proofs.pdu.pdu_size.Goals as goal

pub returns-then-base-gt-LONGEST : goal.returns-then-base-gt-LONGEST
returns-then-base-gt-LONGEST c = search size_laws

pub returns : goal.returns
returns c = search size_laws
