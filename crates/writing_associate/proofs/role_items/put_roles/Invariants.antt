-- The 54Hs of the records gone over are there, and the rest has room.
use Rattle.std.proofs.Common.{drop}
use Rattle.writing_associate.specs.Private.RoleItems.{role_items}
use Rattle.writing_associate.proofs.ItemLaws.{Writing}
use Rattle.writing_associate.proofs.role_items.put_roles.Given as goal

abbrev pub invariant-loop-r : goal.invariant-loop-r
invariant-loop-r l = Writing l.fn.out l.from (role_items l.rs) l.out l.n (role_items (drop l.r-index l.rs))
