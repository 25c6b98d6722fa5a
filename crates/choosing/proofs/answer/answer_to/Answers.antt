use Rattle.std.proofs.Common.{rules}
use Rattle.choosing.proofs.AnswerLaws.{look_start, next_other, next_close, found, none_found}
use Rattle.choosing.proofs.answer.answer_to.Goals as goal
use Rattle.choosing.proofs.answer.answer_to.Goals.{then-same_bytes+else-was_proposed, else-same_bytes}

pub loop-liked-init : goal.loop-liked-init
loop-liked-init c = look_start _ _

pub returns-then-was_proposed : goal.returns-then-was_proposed
returns-then-was_proposed c =
    found c.args.run.now c.told-run c.requires c.args.site.now c.told-site c.loop-liked.result c.loop-liked.liked-index c.loop-liked.invariant
    c.loop-liked-test.true _ _ c.same_bytes.result c.abstract_at.ensures.bytes c.abstract_at-in-loop-liked.ensures.bytes c.same_bytes.ensures
    c.if-same_bytes.true _ c.was_proposed.result c.transfer_at.ensures.bytes c.was_proposed.ensures _ _ c.if-was_proposed.true c.transfer_at-then-was_proposed.ensures.bytes c.record_of.ensures

pub loop-liked-preserved : goal.loop-liked-preserved
loop-liked-preserved c =
    elim c.if-same_bytes.branch [
      | then-same_bytes+else-was_proposed w ↦ rw w.result-is
          (next_close c.args.run.now c.told-run c.requires c.args.site.now c.told-site c.loop-liked.result c.loop-liked.liked-index c.loop-liked.invariant
          c.loop-liked-test.true _ _ c.same_bytes.result c.abstract_at.ensures.bytes c.abstract_at-in-loop-liked.ensures.bytes c.same_bytes.ensures
          (search rules) _ w.was_proposed.result w.transfer_at.ensures.bytes w.was_proposed.ensures (search rules))
      | else-same_bytes w ↦ rw w.result-is
          (next_other c.args.run.now c.told-run c.requires c.args.site.now c.told-site c.loop-liked.result c.loop-liked.liked-index c.loop-liked.invariant
          c.loop-liked-test.true _ _ c.same_bytes.result c.abstract_at.ensures.bytes c.abstract_at-in-loop-liked.ensures.bytes c.same_bytes.ensures
          (search rules))
    ]

pub returns : goal.returns
returns c = none_found c.args.run.now c.told-run c.requires c.args.site.now c.told-site c.loop-liked.result c.loop-liked.liked-index c.loop-liked.invariant _ c.loop-liked-test.false c.record_of-2.ensures
