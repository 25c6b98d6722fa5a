-- The place by the chain over the titles.
use Rattle.std.proofs.Common.{rules, sym, ◌∙◌}
use Rattle.std.proofs.lemmas.Iterator.{YieldsList-from_slice}
use Rattle.std.proofs.lemmas.Iterator.Search.{position_from_yields_List}
use Rattle.titles.specs.Title.{titles_equal}
use Rattle.titles.proofs.OwnLaws.{place_other, place_refused, place_told}
use Rattle.titles.proofs.own.title_place.Goals as goal

pub returns-then-sought-ne-TITLE : goal.returns-then-sought-ne-TITLE
returns-then-sought-ne-TITLE c = place_other c.args.own.now c.args.sought.now c.if-sought-ne-TITLE.true

pub returns-in_err-titles : goal.returns-in_err-titles
returns-in_err-titles c =
    place_refused c.args.own.now c.args.sought.now c.titles.result _ _ (rw (c.ok_or.ensures.ok_part, c.in_err-titles.was) at c.titles.ensures) (sym c.in_err-titles.was ∙ c.ok_or.ensures.value) c.from_residual.ensures.1

pub returns : goal.returns
returns c =
    let k = rw (c.ok_or.ensures.ok_part, c.in_ok-titles.was) at c.titles.ensures in
    place_told c.args.own.now c.args.sought.now _ c.position.result k.0 (search rules) k.1
    (position_from_yields_List (titles_equal c.args.sought.now) _ _ _ c.position.ensures.ran (YieldsList-from_slice _ c.iter.ensures.rest) (λ x b q k. search rules))
