-- `put_user`: the 51H, and what stands behind it.
use Rattle.writing_associate.proofs.UserLaws.{put_user_laws}
use Rattle.writing_associate.proofs.user.put_user.Goals as goal

pub put_behind_51-requires : goal.put_behind_51-requires
put_behind_51-requires c = search put_user_laws

pub returns : goal.returns
returns c = search put_user_laws
