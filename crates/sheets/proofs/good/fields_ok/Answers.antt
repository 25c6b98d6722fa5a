use Rattle.sheets.proofs.GoodLaws.{fields_rest}
use Rattle.sheets.proofs.good.fields_ok.Goals as goal

pub returns-then-field_ok : goal.returns-then-field_ok
returns-then-field_ok c = fields_rest c.args.r.now _ _ c.told-r c.field_ok.ensures c.if-field_ok.true c.field_ok-then-field_ok.ensures
