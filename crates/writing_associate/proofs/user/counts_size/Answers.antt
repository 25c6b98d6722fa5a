-- `counts_size`: none for 1 and 1.
use Rattle.writing_associate.proofs.UserLaws.{counts_size_laws}
use Rattle.writing_associate.proofs.user.counts_size.Goals as goal

pub returns-then-one_and_one : goal.returns-then-one_and_one
returns-then-one_and_one c = search counts_size_laws

pub returns-else-one_and_one : goal.returns-else-one_and_one
returns-else-one_and_one c = search counts_size_laws
