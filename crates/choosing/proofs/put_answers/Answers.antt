use Rattle.std.proofs.Common.{rules}
use Rattle.std.proofs.lemmas.List.Sorted.{answers_always}
use Rattle.sheets.specs.Record.{same_run}
use Rattle.choosing.proofs.RunLaws.{first_run}
use Rattle.choosing.proofs.CallLaws.{put_start, put_next, put_done}
use Rattle.choosing.proofs.put_answers.Goals as goal

pub loop-run-init : goal.loop-run-init
loop-run-init c = put_start _ _ _ _ (search rules) c.requires

pub loop-run-preserved : goal.loop-run-preserved
loop-run-preserved c =
    let st = c.in-Some.ensures.steps in
    put_next _ _ _ _ _ _ c.loop-run.invariant c.in-Some.run'.now c.next.new.self.rest.now _ _ _
    (first_run _ _ _ st.0 st.1 (st.2 same_run (answers_always _ _ _ (λ f a r g h. search rules))).1) c.answer_to.ensures c.put-n.ensures

pub returns : goal.returns
returns c = put_done _ _ _ _ _ _ c.loop-run.invariant c.in-None.ensures.steps.0
