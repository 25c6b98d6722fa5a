-- Step by step, a record for each 54H.
use Rattle.reading.proofs.StepLaws.{found, found_broken, found_none}
use Rattle.reading.proofs.FillLaws.{fill_done, fill_broken, fill_skip, fill_next}
use Rattle.reading.proofs.RoleLaws.{fill_68}
use Rattle.reading.proofs.role_sheet.put_roles.Goals as goal

pub returns-in_default : goal.returns-in_default
returns-in_default c = fill_broken _ _ _ _ _ _ _ _ c.loop-item.invariant (found_broken c.loop-item.item-iterator c.next.new.self c.next.result c.next.ensures.steps c.in-Some.item c.in-Some.is c.in_default.field-0 c.in_default.is)

pub put_role-n-requires : goal.put_role-n-requires
put_role-n-requires c = let d = found c.loop-item.item-iterator c.next.new.self c.next.result c.next.ensures.steps c.in-Some.item c.in-Some.is c.in-Ok.item c.in-Ok.is in fill_68 _ _ _ _ _ _ c.loop-item.invariant _ _ _ d.walk c.if-item-eq84.true

pub loop-item-preserved-then-item-eq84 : goal.loop-item-preserved-then-item-eq84
loop-item-preserved-then-item-eq84 c =
    let d = found c.loop-item.item-iterator c.next.new.self c.next.result c.next.ensures.steps c.in-Some.item c.in-Some.is c.in-Ok.item c.in-Ok.is in
    fill_next _ _ _ _ _ _ _ _ c.loop-item.invariant _ _ _ d.walk c.if-item-eq84.true _ _ c.put_role-n.ensures

pub loop-item-preserved : goal.loop-item-preserved
loop-item-preserved c = let d = found c.loop-item.item-iterator c.next.new.self c.next.result c.next.ensures.steps c.in-Some.item c.in-Some.is c.in-Ok.item c.in-Ok.is in fill_skip _ _ _ _ _ _ _ _ c.loop-item.invariant _ _ _ d.walk c.if-item-eq84.false

pub returns : goal.returns
returns c = fill_done _ _ _ _ _ _ _ _ c.loop-item.invariant (found_none c.loop-item.item-iterator c.next.new.self c.next.result c.next.ensures.steps c.in-None.is)
