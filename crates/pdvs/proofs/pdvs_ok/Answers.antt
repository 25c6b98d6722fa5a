-- The loop judges the PDVs one by one.
use Rattle.std.proofs.Common.{rules}
use Rattle.pdvs.specs.Data.{pdvs}
use Rattle.pdvs.specs.Private.Read.{pdv_read}
use Rattle.pdvs.proofs.DataLaws.{judge_start, judge_even, judge_control, judge_more}
use Rattle.pdvs.proofs.pdvs_ok.Goals as goal
use Rattle.pdvs.proofs.pdvs_ok.Goals.{then-pdv-ne1-via-then-pdv-ne1, then-pdv-ne1-via-else-pdv-ne1+then-most-pdv}

pub loop-pdv-init : goal.loop-pdv-init
loop-pdv-init c = record { can = tt; ends = tt; judging = rw (c.into_iter-pdv-iterator.ensures.into_iter_gives) (judge_start c.args.most c.args.s.now) }

pub returns-then-pdv-ne1 : goal.returns-then-pdv-ne1
returns-then-pdv-ne1 c =
    elim c.then-pdv-ne1.branch [
      | then-pdv-ne1-via-then-pdv-ne1 w ↦ judge_even c.args.most c.args.s.now c.loop-pdv.taken (pdv_read c.in-Some.pdv) (pdvs c.next.new.self.0.now) (pdvs c.loop-pdv.pdv-iterator.0.now) c.loop-pdv.invariant.judging c.in-Some.ensures.steps (search rules)
      | then-pdv-ne1-via-else-pdv-ne1+then-most-pdv w ↦ judge_control c.args.most c.args.s.now c.loop-pdv.taken (pdv_read c.in-Some.pdv) (pdvs c.next.new.self.0.now) (pdvs c.loop-pdv.pdv-iterator.0.now) c.loop-pdv.invariant.judging c.in-Some.ensures.steps (search rules)
    ]

pub loop-pdv-preserved : goal.loop-pdv-preserved
loop-pdv-preserved c = record {
  can = tt;
  ends = tt;
  judging = judge_more c.args.most c.args.s.now c.loop-pdv.taken (pdv_read c.in-Some.pdv) (pdvs c.next.new.self.0.now) (pdvs c.loop-pdv.pdv-iterator.0.now) c.loop-pdv.invariant.judging c.in-Some.ensures.steps (search rules) (search rules);
}
