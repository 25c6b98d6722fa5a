-- One byte more.
use Rattle.std.proofs.Common.{arith, length-set, ◌∙◌}
use Rattle.octets.proofs.OctetLaws.{copied}
use Rattle.octets.proofs.copy.Goals as goal

pub loop-k-preserved : goal.loop-k-preserved
loop-k-preserved c = record {
  long = length-set c.loop-k.to c.loop-k.k _ ∙ c.loop-k.invariant.long;
  so_far = copied c.loop-k.to c.args.bytes.now c.loop-k.k (omega arith) c.loop-k.invariant.so_far;
}
