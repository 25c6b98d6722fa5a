-- The call by value, handed out.
use Rattle.assoc_bytes.proofs.HandedLaws.{handing}
use Rattle.feohanna.proofs.calls.feo_raw_accept.Goals as goal

pub returns : goal.returns
returns c = search handing
