-- What is put so far, and that the rest has room.
use Rattle.items.specs.Items.{walk}
use Rattle.items.specs.Steps.{left}
use Rattle.sheets.specs.Record.{record_of}
use Rattle.reading.proofs.FillLaws.{Filling}
use Rattle.reading.proofs.fill.put_transfers.Given as goal

abbrev pub invariant-loop-item : goal.invariant-loop-item
invariant-loop-item l = Filling (record_of l.id 0 l.a) 0x40 (walk l.s) (left l.item-iterator) l.fn.sheet l.from l.sheet l.n
