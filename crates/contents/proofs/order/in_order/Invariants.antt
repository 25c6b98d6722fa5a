-- Those that are left keep the rule from the stage on exactly where all do.
use Rattle.std.proofs.Common.{◌≡◌}
use Rattle.items.specs.Items.{walk}
use Rattle.items.specs.Steps.{left}
use Rattle.items.specs.Private.Rules.{keeps}
use Rattle.contents.specs.Private.Stages.{stage_number, rule_of}
use Rattle.contents.proofs.order.in_order.Given as goal

abbrev pub invariant-loop-item : goal.invariant-loop-item
invariant-loop-item g l =
    let R = rule_of (g.H.Holder.known l.holder) (g.H.Holder.test l.holder) in
    record {
      all : keeps R 0 (walk l.s) ≡ keeps R (stage_number l.stage) (left l.item-iterator);
      order : l.order ≡ g.H.Holder.known l.holder;
    }
