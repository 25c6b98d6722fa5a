-- `runs_size`: one run more, above the limit, or all.
use Rattle.std.proofs.Common.{rules}
use Rattle.std.proofs.lemmas.List.Sorted.{answers_always}
use Rattle.sheets.specs.Record.{same_run}
use Rattle.writing_associate.proofs.ContextLaws.{capped_16385, runs_next, runs_over, runs_done}
use Rattle.writing_associate.proofs.contexts.runs_size.Goals as goal

pub overflow_add-n : goal.overflow_add-n
overflow_add-n c = search (rules, capped_16385)

pub overflow_add-n-in-loop-run : goal.overflow_add-n-in-loop-run
overflow_add-n-in-loop-run c = search (rules, capped_16385)

pub returns-then-n-gt-LONGEST : goal.returns-then-n-gt-LONGEST
returns-then-n-gt-LONGEST c =
    let st = c.in-Some.ensures.steps in
    runs_over _ _ _ st.0 st.1 (st.2 same_run (answers_always _ _ _ (λ f a r g h. search rules))).1 _ _ _ _ _ c.loop-run.invariant.1 c.names_size.ensures c.abstract_of.ensures.0 (search rules)

pub loop-run-preserved : goal.loop-run-preserved
loop-run-preserved c =
    let st = c.in-Some.ensures.steps in
    (search rules, runs_next _ _ _ st.0 st.1 (st.2 same_run (answers_always _ _ _ (λ f a r g h. search rules))).1 _ _ _ _ _ c.loop-run.invariant.1 c.names_size.ensures c.abstract_of.ensures.0 (search rules))

pub returns : goal.returns
returns c = runs_done _ c.args.base _ _ c.loop-run.invariant.1 (search rules) c.loop-run.invariant.0
