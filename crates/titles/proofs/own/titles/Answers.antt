-- The titles by the chain over them.
use Rattle.std.proofs.Common.{rules, ◌∙◌, ◌≡◌, length, ◌/◌}
use Rattle.std.proofs.lemmas.Iterator.{YieldsList-from_slice}
use Rattle.std.proofs.lemmas.Iterator.Search.{all_from_yields_List}
use Rattle.laws.proofs.Library.{chunk_records}
use Rattle.titles.specs.Title.{title_ok}
use Rattle.titles.specs.Own.{titles}
use Rattle.titles.proofs.OwnLaws.{list_taken}
use Rattle.titles.proofs.own.titles.Goals as goal

pub returns : goal.returns
returns c =
    let t : c.as_chunks.result.0.now ≡ titles c.args.own.now = c.as_chunks.ensures.front ∙ chunk_records 16 (length c.args.own.now / 16) c.args.own.now in (
      t,
      list_taken c.args.own.now _ c.all.result (search rules) t (search rules)
          (all_from_yields_List title_ok _ _ _ c.all.ensures.ran (YieldsList-from_slice _ c.iter.ensures.rest) (λ x b q k. search rules)) (search rules),
    )
