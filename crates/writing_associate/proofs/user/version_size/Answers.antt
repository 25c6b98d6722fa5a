-- `version_size`: none where it is empty.
use Rattle.writing_associate.proofs.UserLaws.{version_size_laws}
use Rattle.writing_associate.proofs.user.version_size.Goals as goal

pub returns-in-0 : goal.returns-in-0
returns-in-0 c = search version_size_laws

pub returns-in_default : goal.returns-in_default
returns-in_default c = search version_size_laws
