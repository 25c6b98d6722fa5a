use Rattle.std.proofs.Common.{rules}
use Rattle.std.proofs.lemmas.Iterator.{YieldsList-from_slice}
use Rattle.std.proofs.lemmas.Iterator.Search.{all_from_yields_List}
use Rattle.sheets.specs.Sheet.{site_record}
use Rattle.sheets.proofs.GoodLaws.{site_none, site_by}
use Rattle.sheets.proofs.good.site_ok.Goals as goal

pub returns-in_default : goal.returns-in_default
returns-in_default c = site_none c.args.s.now c.in_default.ensures

pub returns : goal.returns
returns c =
    let k = c.in-Some.ensures in
    site_by c.args.s.now c.in-Some.rs.now k.0 k.1 k.2 c.all.result (all_from_yields_List site_record _ _ _ c.all.ensures.ran (YieldsList-from_slice c.in-Some.rs.now cc) (λ x b q k. search rules))
