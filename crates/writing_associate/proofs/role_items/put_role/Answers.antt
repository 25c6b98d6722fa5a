-- `put_role`: the head, the UID, the roles.
use Rattle.writing_associate.proofs.RoleLaws.{put_role_laws}
use Rattle.writing_associate.proofs.role_items.put_role.Goals as goal

pub returns : goal.returns
returns c = search put_role_laws
