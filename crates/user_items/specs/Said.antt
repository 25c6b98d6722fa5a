-- What the sub-items of a 50H say, from the walk over them.
use Rattle.std.specs.Prelude.{ℕ, cond, List, map}
use Rattle.laws.specs.Lists.{empty}
use Rattle.octets.specs.Octets.{be16}
use Rattle.items.specs.Items.{Walk, bodies, first}
use Rattle.roles.specs.Role.{Role}
use Rattle.user_items.specs.Kinds.{role_of}

-- the implementation class UID and the version name: nothing where there is none
abbrev pub class_said : Walk → List ℕ
class_said w = first (bodies 0x52 w)

abbrev pub version_said : Walk → List ℕ
version_said w = first (bodies 0x55 w)

-- "two operation counts, absent means 1 and 1": the one that stands behind so many bytes of the 53H
unfoldable pub count_said : ℕ → Walk → ℕ
count_said at w = cond (empty (bodies 0x53 w)) 1 (be16 (first (bodies 0x53 w)) at)

abbrev pub invoked_said : Walk → ℕ
invoked_said w = count_said 0 w

abbrev pub performed_said : Walk → ℕ
performed_said w = count_said 2 w

-- one role for each 54H, in their order
unfoldable pub roles_said : Walk → List Role
roles_said w = map role_of (bodies 0x54 w)
