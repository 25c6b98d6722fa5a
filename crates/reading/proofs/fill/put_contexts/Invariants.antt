-- What is put so far, and that the rest has room.
use Rattle.items.specs.Items.{walk}
use Rattle.items.specs.Steps.{left}
use Rattle.reading.specs.Private.Records.{body_records}
use Rattle.reading.proofs.FillLaws.{Filling}
use Rattle.reading.proofs.fill.put_contexts.Given as goal

abbrev pub invariant-loop-item : goal.invariant-loop-item
invariant-loop-item l = Filling (body_records l.k) l.k (walk l.s) (left l.item-iterator) l.fn.sheet 0 l.sheet l.n
