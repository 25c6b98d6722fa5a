-- Step by step, a record for each transfer syntax.
use Rattle.reading.proofs.StepLaws.{found, found_broken, found_none}
use Rattle.reading.proofs.FillLaws.{fill_done, fill_broken, fill_skip, fill_next}
use Rattle.reading.proofs.FillLaws.{fill_132}
use Rattle.reading.proofs.fill.put_transfers.Goals as goal

pub returns-in_default : goal.returns-in_default
returns-in_default c = fill_broken _ _ _ _ _ _ _ _ c.loop-item.invariant (found_broken c.loop-item.item-iterator c.next.new.self c.next.result c.next.ensures.steps c.in-Some.item c.in-Some.is c.in_default.field-0 c.in_default.is)

pub put_record-n-requires : goal.put_record-n-requires
put_record-n-requires c = let d = found c.loop-item.item-iterator c.next.new.self c.next.result c.next.ensures.steps c.in-Some.item c.in-Some.is c.in-Ok.item c.in-Ok.is in fill_132 c.args.id c.args.a.now _ _ _ _ _ _ c.loop-item.invariant _ _ _ d.walk c.if-item-eq64.true

pub loop-item-preserved-then-item-eq64 : goal.loop-item-preserved-then-item-eq64
loop-item-preserved-then-item-eq64 c =
    let d = found c.loop-item.item-iterator c.next.new.self c.next.result c.next.ensures.steps c.in-Some.item c.in-Some.is c.in-Ok.item c.in-Ok.is in
    fill_next _ _ _ _ _ _ _ _ c.loop-item.invariant _ _ _ d.walk c.if-item-eq64.true _ _ c.put_record-n.ensures

pub loop-item-preserved : goal.loop-item-preserved
loop-item-preserved c = let d = found c.loop-item.item-iterator c.next.new.self c.next.result c.next.ensures.steps c.in-Some.item c.in-Some.is c.in-Ok.item c.in-Ok.is in fill_skip _ _ _ _ _ _ _ _ c.loop-item.invariant _ _ _ d.walk c.if-item-eq64.false

pub returns : goal.returns
returns c = fill_done _ _ _ _ _ _ _ _ c.loop-item.invariant (found_none c.loop-item.item-iterator c.next.new.self c.next.result c.next.ensures.steps c.in-None.is)
