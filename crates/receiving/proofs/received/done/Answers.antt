-- One law for each way out.
use Rattle.receiving.proofs.ReceivedLaws.{received_laws}
use Rattle.receiving.proofs.received.done.Goals.{then-shows, else-shows}
use Rattle.receiving.proofs.received.done.Goals as goal

pub returns : goal.returns
returns c = elim c.if-shows.branch [ then-shows w ↦ search (received_laws, w.if-shows, w.shown-is) | else-shows w ↦ search (received_laws, w.if-shows, w.shown-is) ]
