-- `user_size`: all sub-items but the roles are short.
use Rattle.writing_associate.proofs.UserLaws.{user_size_laws}
use Rattle.writing_associate.proofs.user.user_size.Goals as goal

pub returns : goal.returns
returns c = search user_size_laws
