use Rattle.std.proofs.Common.{rules, ◌∙◌}
use Rattle.std.proofs.lemmas.Iterator.{YieldsList-from_slice}
use Rattle.std.proofs.lemmas.Iterator.Search.{any_from_yields_List}
use Rattle.laws.specs.Lists.{same_bytes}
use Rattle.sheets.specs.Record.{transfer_at}
use Rattle.choosing.proofs.AnswerLaws.{any_transfer}
use Rattle.choosing.proofs.answer.was_proposed.Goals as goal

pub returns : goal.returns
returns c =
    any_from_yields_List (λ r. same_bytes c.args.x.now (transfer_at r 0)) _ _ _ c.any.ensures.ran (YieldsList-from_slice c.args.run.now cc) (λ x b q k. search rules)
    ∙ any_transfer c.args.x.now c.args.run.now
