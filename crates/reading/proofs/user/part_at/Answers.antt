-- The place lies within the PDU.
use Rattle.reading.proofs.UserLaws.{at_fits}
use Rattle.reading.proofs.user.part_at.Goals as goal

pub overflow_add-result : goal.overflow_add-result
overflow_add-result c = at_fits c.args.t c.args.u.now c.args.from c.place_of.result c.requires c.place_of.ensures
