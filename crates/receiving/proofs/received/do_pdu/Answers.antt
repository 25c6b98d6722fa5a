-- One law for each way out.
use Rattle.receiving.proofs.ReceivedLaws.{received_laws}
use Rattle.receiving.proofs.received.do_pdu.Goals as goal

pub returns : goal.returns
returns c = search received_laws
