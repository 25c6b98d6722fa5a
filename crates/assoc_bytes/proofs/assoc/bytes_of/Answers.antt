-- The bytes in their places.
use Rattle.assoc_bytes.specs.Bytes.{bytes_of}
use Rattle.assoc_bytes.proofs.BytesLaws.{making}
use Rattle.assoc_bytes.proofs.assoc.bytes_of.Goals as goal

pub returns : goal.returns
unfolding bytes_of
returns c = search making
