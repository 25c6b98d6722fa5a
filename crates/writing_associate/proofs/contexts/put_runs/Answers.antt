-- `put_runs`: one run more, or all.
use Rattle.std.proofs.Common.{rules}
use Rattle.std.proofs.lemmas.List.Sorted.{answers_always}
use Rattle.sheets.specs.Record.{same_run}
use Rattle.writing_associate.proofs.ItemLaws.{writing_start}
use Rattle.writing_associate.proofs.ContextLaws.{each_room, each_small, each_more, runs_end}
use Rattle.writing_associate.proofs.contexts.put_runs.Goals as goal

pub loop-run-init : goal.loop-run-init
loop-run-init c = search (rules, writing_start)

pub put_run-n-requires : goal.put_run-n-requires
put_run-n-requires c =
    let st = c.in-Some.ensures.steps in
    let p = (st.2 same_run (answers_always _ _ _ (λ f a r g h. search rules))).1 in
    (st.1, each_room _ _ _ _ _ _ _ _ c.loop-run.invariant.1 st.0 st.1 p, (each_small _ _ _ _ _ _ _ _ c.loop-run.invariant.1 st.0 st.1 p c.loop-run.invariant.0).0)

pub loop-run-preserved : goal.loop-run-preserved
loop-run-preserved c =
    let st = c.in-Some.ensures.steps in
    let p = (st.2 same_run (answers_always _ _ _ (λ f a r g h. search rules))).1 in
    ((each_small _ _ _ _ _ _ _ _ c.loop-run.invariant.1 st.0 st.1 p c.loop-run.invariant.0).1, each_more _ _ _ _ _ _ _ _ c.loop-run.invariant.1 st.0 st.1 p _ _ c.put_run-n.ensures)

pub returns : goal.returns
returns c = search (rules, runs_end)
