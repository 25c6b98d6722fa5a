-- `put_roles`: one item more, or all.
use Rattle.writing_associate.proofs.RoleLaws.{put_roles_laws}
use Rattle.writing_associate.proofs.role_items.put_roles.Goals as goal

pub put_role-n-requires : goal.put_role-n-requires
put_role-n-requires c = search put_roles_laws

pub loop-r-preserved : goal.loop-r-preserved
loop-r-preserved c = search put_roles_laws

pub returns : goal.returns
returns c = search put_roles_laws
