use Rattle.std.proofs.Common.{rules, ap, ◌∙◌, List, ℕ, length}
use Rattle.std.proofs.lemmas.List.Sorted.{answers_always}
use Rattle.sheets.specs.Sheet.{sheet_runs}
use Rattle.choosing.proofs.RunLaws.{runs_count}
use Rattle.choosing.proofs.count.Goals as goal

pub returns : goal.returns
returns c =
    let r = c.count.ensures.ran in
    r.2 ∙ (runs_count _ _ r.0 r.1 (answers_always _ _ _ (λ f a r g h. search rules)) ∙ ap (λ (rs : List (List ℕ)). length (sheet_runs rs)) c.chunk_by.ensures.rest)
