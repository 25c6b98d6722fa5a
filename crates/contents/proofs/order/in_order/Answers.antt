-- A turn of the loop, and its ends.
use Rattle.std.proofs.Common.{rules}
use Rattle.items.specs.Items.{walk}
use Rattle.items.specs.Steps.{left}
use Rattle.items.specs.Private.Rules.{keeps}
use Rattle.contents.specs.Private.Stages.{stage_number, rule_of}
use Rattle.contents.proofs.StageLaws.{on, stage_rules}
use Rattle.contents.proofs.order.in_order.Goals as goal

pub returns-in_default : goal.returns-in_default
returns-in_default g c = search stage_rules

pub returns-then-not-good : goal.returns-then-not-good
returns-then-not-good g c = search stage_rules

pub returns-in_default-next : goal.returns-in_default-next
returns-in_default-next g c = search stage_rules

pub loop-item-preserved : goal.loop-item-preserved
loop-item-preserved g c =
    let o = g.H.Holder.known c.args.holder.now in
    let e = c.order-order.ensures in
    record {
      all = on o (g.H.Holder.test c.args.holder.now) (keeps (rule_of o (g.H.Holder.test c.args.holder.now)) 0 (walk c.args.s.now)) (stage_number c.loop-item.stage) (left c.loop-item.item-iterator) c.loop-item.invariant.all
          c.in-Ok.item.kind c.in-Ok.item.body.now (left c.next.new.self) (search rules) c.good.result (search rules) (search stage_rules)
          (stage_number c.in-Some-next.next) (rw (← e) (search rules));
      order = e;
    }

pub returns : goal.returns
returns g c = search stage_rules
