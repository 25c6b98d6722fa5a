-- What is put so far, and that the rest has room.
use Rattle.items.specs.Items.{walk}
use Rattle.items.specs.Steps.{left}
use Rattle.reading.specs.Private.Records.{role_record}
use Rattle.reading.proofs.FillLaws.{Filling}
use Rattle.reading.proofs.role_sheet.put_roles.Given as goal

abbrev pub invariant-loop-item : goal.invariant-loop-item
invariant-loop-item l = Filling role_record 0x54 (walk l.u) (left l.item-iterator) l.fn.sheet 0 l.sheet l.n
