-- The bytes in their places.
use Rattle.assoc_bytes.proofs.BytesLaws.{making}
use Rattle.assoc_bytes.proofs.assoc.assoc_of.Goals as goal

pub returns : goal.returns
returns c = search making
