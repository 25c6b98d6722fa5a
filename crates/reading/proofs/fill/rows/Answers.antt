-- Step by step, as many records as each context gives.
use Rattle.std.proofs.Common.{arith}
use Rattle.reading.proofs.StepLaws.{found, found_broken, found_none}
use Rattle.reading.proofs.FillLaws.{rows_done, rows_broken, rows_skip, rows_upto, rows_more}
use Rattle.reading.proofs.fill.rows.Goals as goal

pub returns-in_default : goal.returns-in_default
returns-in_default c = rows_broken _ _ _ _ _ _ c.loop-item.invariant (found_broken c.loop-item.item-iterator c.next.new.self c.next.result c.next.ensures.steps c.in-Some.item c.in-Some.is c.in_default.field-0 c.in_default.is)

pub overflow_add-n : goal.overflow_add-n
overflow_add-n c =
    let d = found c.loop-item.item-iterator c.next.new.self c.next.result c.next.ensures.steps c.in-Some.item c.in-Some.is c.in-Ok.item c.in-Ok.is in
    let u = rows_upto _ _ _ _ _ _ c.loop-item.invariant _ _ _ d.walk _ d.whole c.if-item-k.true _ c.rows_in-n.ensures in
    omega arith

pub loop-item-preserved-then-item-k : goal.loop-item-preserved-then-item-k
loop-item-preserved-then-item-k c =
    let d = found c.loop-item.item-iterator c.next.new.self c.next.result c.next.ensures.steps c.in-Some.item c.in-Some.is c.in-Ok.item c.in-Ok.is in
    rows_more _ _ _ _ _ _ c.loop-item.invariant _ _ _ d.walk _ d.whole c.if-item-k.true _ c.rows_in-n.ensures

pub loop-item-preserved : goal.loop-item-preserved
loop-item-preserved c =
    let d = found c.loop-item.item-iterator c.next.new.self c.next.result c.next.ensures.steps c.in-Some.item c.in-Some.is c.in-Ok.item c.in-Ok.is in
    rows_skip _ _ _ _ _ _ c.loop-item.invariant _ _ _ d.walk _ d.whole c.if-item-k.false

pub returns : goal.returns
returns c = rows_done _ _ _ _ _ _ c.loop-item.invariant (found_none c.loop-item.item-iterator c.next.new.self c.next.result c.next.ensures.steps c.in-None.is)
