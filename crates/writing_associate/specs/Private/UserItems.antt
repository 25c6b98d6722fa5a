-- For the private functions: the user information as it is measured and written.
use Rattle.std.specs.Prelude.{ℕ, ◌≤◌, ◌&&◌, cond, List, [], ◌++◌, length, eqb}
use Rattle.laws.specs.Lists.{empty}
use Rattle.octets.specs.Octets.{two}
use Rattle.items.specs.Wire.{item_bytes}
use Rattle.user_items.specs.Sent.{User}
use Rattle.roles.specs.Sheet.{role_records}
use Rattle.writing_associate.specs.Private.RoleItems.{role_items}

-- the 53H and the 55H, each where it is sent
unfoldable pub count_bytes : ℕ → ℕ → List ℕ
count_bytes invoked performed = cond (eqb invoked 1 && eqb performed 1) [] (item_bytes 0x53 (two invoked ++ two performed))

unfoldable pub version_bytes : List ℕ → List ℕ
version_bytes version = cond (empty version) [] (item_bytes 0x55 version)

-- all that stands behind the 51H
abbrev pub behind_51h : User → List ℕ
behind_51h u = item_bytes 0x52 u.class ++ (count_bytes u.invoked u.performed ++ (role_items (role_records u.roles) ++ version_bytes u.version))

-- what is known of it when it is measured
pub record UserFit (u : User) : Type 0 where
  pub class_short : length u.class ≤ 64
  pub version_short : length u.version ≤ 16
