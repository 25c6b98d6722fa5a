-- `put_version`: none where it is empty.
use Rattle.writing_associate.proofs.UserLaws.{put_version_laws}
use Rattle.writing_associate.proofs.user.put_version.Goals as goal

pub put_item-requires : goal.put_item-requires
put_item-requires c = search put_version_laws

pub returns-in-0 : goal.returns-in-0
returns-in-0 c = search put_version_laws

pub returns-in_default : goal.returns-in_default
returns-in_default c = search put_version_laws
