-- `put_behind_51`: each sub-item has room behind the one before it.
use Rattle.user_items.specs.Sent.{user_said}
use Rattle.writing_associate.proofs.UserLaws.{version_fit, behind_laws}
use Rattle.writing_associate.proofs.user.put_behind_51.Goals as goal

pub put_item-a-requires : goal.put_item-a-requires
put_item-a-requires c = search behind_laws

pub put_roles-c-requires : goal.put_roles-c-requires
put_roles-c-requires c = search behind_laws

pub put_version-requires : goal.put_version-requires
put_version-requires c =
    let fit = version_fit c.args.out.now c.args.at (user_said c.args.user) c.requires.1 _ _ c.put_item-a.ensures _ _ c.put_counts-b.ensures _ c.as_chunks.ensures.front _ _ c.put_roles-c.ensures in
    (fit, c.requires.0.version_short)

pub returns : goal.returns
returns c = search behind_laws
