-- Where the ID is odd, the sub-items decide.
use Rattle.std.proofs.Common.{rules}
use Rattle.contents.proofs.GoodLaws.{good_20_by}
use Rattle.contents.proofs.context.proposed_ok.Goals as goal

pub returns-then-id-eq1 : goal.returns-then-id-eq1
returns-then-id-eq1 c = good_20_by c.args.b.now c.in_order.result (search rules) (search rules) c.in_order.ensures
