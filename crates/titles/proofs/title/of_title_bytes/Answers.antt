-- The bytes by the chain over them.
use Rattle.std.proofs.Common.{rules, ◌∙◌}
use Rattle.std.proofs.lemmas.Iterator.{YieldsList-from_slice}
use Rattle.std.proofs.lemmas.Iterator.Search.{all_from_yields_List}
use Rattle.laws.proofs.Library.{all_list}
use Rattle.titles.specs.Title.{title_byte}
use Rattle.titles.proofs.title.of_title_bytes.Goals as goal

pub returns : goal.returns
returns c =
    all_from_yields_List title_byte _ _ _ c.all.ensures.ran (YieldsList-from_slice c.args.t.now cc) (λ x b q k. search rules)
    ∙ all_list title_byte c.args.t.now
