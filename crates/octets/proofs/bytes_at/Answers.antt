-- One byte more.
use Rattle.std.proofs.Common.{arith, length-set, ◌∙◌}
use Rattle.octets.proofs.OctetLaws.{filled}
use Rattle.octets.proofs.bytes_at.Goals as goal

pub loop-k-preserved : goal.loop-k-preserved
loop-k-preserved g c = record {
  long = length-set c.loop-k.byte-items c.loop-k.k _ ∙ c.loop-k.invariant.long;
  so_far = filled c.loop-k.byte-items c.args.s.now c.args.at c.loop-k.k _ c.saturating_add.result (omega arith) c.loop-k.invariant.so_far c.byte_at.ensures c.saturating_add.ensures (omega arith);
}
