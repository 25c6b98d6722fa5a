-- n counts the base and the 54Hs of the records gone over.
use Rattle.std.proofs.Common.{◌≡◌, ◌+◌, ◌≤◌, length, drop}
use Rattle.numbers.specs.Lengths.{LONGEST}
use Rattle.writing_associate.specs.Private.RoleItems.{role_items}
use Rattle.writing_associate.proofs.role_items.roles_size.Given as goal

abbrev pub invariant-loop-r : goal.invariant-loop-r
invariant-loop-r l = (l.n ≤ LONGEST) × (l.base + length (role_items l.rs) ≡ l.n + length (role_items (drop l.r-index l.rs)))
