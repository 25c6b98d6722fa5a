-- The record is put whole.
use Rattle.reading.proofs.RoleLaws.{role_written}
use Rattle.reading.proofs.role_sheet.put_role.Goals as goal

pub returns : goal.returns
returns c =
    role_written c.args.b.now _ _ _ _ c.be16_at-l.ensures c.uid_in.ensures.bytes c.byte_at-scu.ensures c.byte_at-scp.ensures _ _ _ _ _ c.requires c.role_of-r.ensures c.put.ensures
