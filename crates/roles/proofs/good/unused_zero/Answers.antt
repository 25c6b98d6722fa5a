use Rattle.roles.proofs.GoodLaws.{unused_rest}
use Rattle.roles.proofs.good.unused_zero.Goals as goal

pub returns-then-r-eq0 : goal.returns-then-r-eq0
returns-then-r-eq0 c = unused_rest c.args.r.now _ c.told-r c.if-r-eq0.true c.field_ok.ensures
