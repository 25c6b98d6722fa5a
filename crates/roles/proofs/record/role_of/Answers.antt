use Rattle.roles.proofs.RecordLaws.{role_laws}
use Rattle.roles.proofs.record.role_of.Goals as goal

pub overflow_cast-s : goal.overflow_cast-s
overflow_cast-s c = search role_laws

pub returns : goal.returns
returns c = search role_laws
