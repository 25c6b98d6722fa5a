-- A set keeps its words whatever is put into one, and has the ID that is put in.
use Rattle.id_set.proofs.SetLaws.{inserted, kept_laws}
use Rattle.id_set.proofs.set.IdSet.insert.Goals as goal

pub invariant_of-self : goal.invariant_of-self
invariant_of-self c = search kept_laws

pub returns-clause-set : goal.returns-clause-set
returns-clause-set c = inserted c.args.id c.self.view_is c.ranges.id.fits c.self.invariant
