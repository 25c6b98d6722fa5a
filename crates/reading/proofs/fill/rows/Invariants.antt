-- How many records so far; there are no more than bytes.
use Rattle.std.proofs.Common.{length}
use Rattle.items.specs.Items.{walk}
use Rattle.items.specs.Steps.{left, rest_of}
use Rattle.reading.proofs.FillLaws.{Rows}
use Rattle.reading.proofs.fill.rows.Given as goal

abbrev pub invariant-loop-item : goal.invariant-loop-item
invariant-loop-item l = Rows l.k (walk l.s) (left l.item-iterator) (length l.s) (length (rest_of l.item-iterator).now) l.n
