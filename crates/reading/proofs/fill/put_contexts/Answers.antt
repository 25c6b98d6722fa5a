-- Step by step, the records of each context.
use Rattle.reading.proofs.StepLaws.{found, found_broken, found_none}
use Rattle.reading.proofs.FillLaws.{fill_done, fill_broken, fill_skip, fill_next}
use Rattle.reading.proofs.FillLaws.{fill_room}
use Rattle.reading.proofs.fill.put_contexts.Goals as goal

pub returns-in_default : goal.returns-in_default
returns-in_default c = fill_broken _ _ _ _ _ _ _ _ c.loop-item.invariant (found_broken c.loop-item.item-iterator c.next.new.self c.next.result c.next.ensures.steps c.in-Some.item c.in-Some.is c.in_default.field-0 c.in_default.is)

pub put_context-n-requires : goal.put_context-n-requires
put_context-n-requires c = let d = found c.loop-item.item-iterator c.next.new.self c.next.result c.next.ensures.steps c.in-Some.item c.in-Some.is c.in-Ok.item c.in-Ok.is in fill_room _ _ _ _ _ _ _ _ c.loop-item.invariant _ _ _ d.walk c.if-item-k.true

pub loop-item-preserved-then-item-k : goal.loop-item-preserved-then-item-k
loop-item-preserved-then-item-k c =
    let d = found c.loop-item.item-iterator c.next.new.self c.next.result c.next.ensures.steps c.in-Some.item c.in-Some.is c.in-Ok.item c.in-Ok.is in
    fill_next _ _ _ _ _ _ _ _ c.loop-item.invariant _ _ _ d.walk c.if-item-k.true _ _ c.put_context-n.ensures

pub loop-item-preserved : goal.loop-item-preserved
loop-item-preserved c = let d = found c.loop-item.item-iterator c.next.new.self c.next.result c.next.ensures.steps c.in-Some.item c.in-Some.is c.in-Ok.item c.in-Ok.is in fill_skip _ _ _ _ _ _ _ _ c.loop-item.invariant _ _ _ d.walk c.if-item-k.false

pub returns : goal.returns
returns c = fill_done _ _ _ _ _ _ _ _ c.loop-item.invariant (found_none c.loop-item.item-iterator c.next.new.self c.next.result c.next.ensures.steps c.in-None.is)
