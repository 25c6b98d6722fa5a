-- The place is behind as many PDVs as were counted.
use Rattle.reading.proofs.DataLaws.{Reaching}
use Rattle.reading.proofs.data.pdv_place.Given as goal

abbrev pub invariant-loop : goal.invariant-loop
invariant-loop l = Reaching l.number l.s l.at l.counter
