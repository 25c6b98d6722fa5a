use Rattle.sheets.proofs.RunLaws.{runs_laws, runs_seen, runs_new}
use Rattle.std.proofs.lemmas.List.Sorted.{answers_always}
use Rattle.std.proofs.Common.{rules}
use Rattle.sheets.specs.Record.{same_run}
use Rattle.sheets.proofs.ids.runs_differ.Goals as goal

pub loop-run-init : goal.loop-run-init
loop-run-init c = search runs_laws

pub returns-then-not-insert : goal.returns-then-not-insert
returns-then-not-insert c =
    let st = c.in-Some.ensures.steps in
    runs_seen _ _ _ c.loop-run.invariant _ _ st.0 st.1 (st.2 same_run (answers_always _ _ _ (λ f a r g h. search rules))).1 _ c.insert.ensures.added (search rules)

pub loop-run-preserved : goal.loop-run-preserved
loop-run-preserved c =
    let st = c.in-Some.ensures.steps in
    runs_new _ _ _ c.loop-run.invariant _ _ st.0 st.1 (st.2 same_run (answers_always _ _ _ (λ f a r g h. search rules))).1 _ c.insert.ensures.added _ (search rules) c.insert.ensures.set

pub returns : goal.returns
returns c = search runs_laws
