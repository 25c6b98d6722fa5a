-- A valid RQ or AC has its fixed fields.
use Rattle.std.proofs.Common.{refl, arith}
use Rattle.laws.proofs.Places.{part_tail}
use Rattle.reading.proofs.ReadLaws.{long_rules}
use Rattle.reading.proofs.valid.Valid.items.Goals as goal

pub slice_bounds-result-count : goal.slice_bounds-result-count
slice_bounds-result-count c = search long_rules

pub slice_bounds-result-start : goal.slice_bounds-result-start
slice_bounds-result-start c = search long_rules

pub returns : goal.returns
returns c = record { block = refl; place = omega arith; bytes = part_tail 74 c.args.self.pdu.now }
