-- The bytes by the chain over them.
use Rattle.std.proofs.Common.{rules}
use Rattle.std.proofs.lemmas.Iterator.{YieldsList-from_slice}
use Rattle.std.proofs.lemmas.Iterator.Search.{all_from_yields_List}
use Rattle.titles.specs.Title.{title_byte}
use Rattle.user_items.proofs.BodyLaws.{version_by}
use Rattle.user_items.proofs.body.version_ok.Goals as goal

pub returns-then-matches : goal.returns-then-matches
returns-then-matches c =
    version_by c.args.b.now c.all.result (search rules) (search rules)
    (all_from_yields_List title_byte _ _ _ c.all.ensures.ran (YieldsList-from_slice c.args.b.now cc) (λ x b q k. search rules))
