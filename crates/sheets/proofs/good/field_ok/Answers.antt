use Rattle.std.proofs.Common.{rules}
use Rattle.std.proofs.lemmas.Iterator.{YieldsList-from_slice}
use Rattle.std.proofs.lemmas.Iterator.Search.{all_from_yields_List}
use Rattle.std.proofs.lemmas.Iterator.Adapters.{YieldsList-from_skip}
use Rattle.sheets.specs.Sheet.{zero?}
use Rattle.sheets.proofs.GoodLaws.{field_is}
use Rattle.sheets.proofs.good.field_ok.Goals as goal

pub returns-then-n-le64 : goal.returns-then-n-le64
returns-then-n-le64 c =
    field_is c.args.n c.args.f.now c.all.result c.if-n-le64.true
    (all_from_yields_List zero? _ _ _ c.all.ensures.ran (YieldsList-from_skip c.args.n (YieldsList-from_slice c.args.f.now cc) cc) (λ x b q k. search rules))
