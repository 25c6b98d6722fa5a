-- The user information that is sent: "We always send 52H, and all sub-items in rising type order". 53H "exactly if the counts are not 1 and 1"; "an empty version
-- name in contents means that none is sent".
use Rattle.std.specs.Prelude.{ℕ, Bool, ◌&&◌, ◌||◌, cond, List, [], ◌∷◌, ◌++◌, map, length, ltb, eqb}
use Rattle.laws.specs.Lists.{empty}
use Rattle.numbers.specs.Lengths.{LONGEST}
use Rattle.octets.specs.Octets.{two, four}
use Rattle.names.specs.Name.{name_ok}
use Rattle.items.specs.Wire.{sequence}
use Rattle.roles.specs.Role.{Role}
use Rattle.roles.specs.Sheet.{roles_in, role_sheet_ok}
use Rattle.user_items.specs.Kinds.{version_ok}
use Rattle.user_items.specs.declared.sent.User as given

-- as the host gives it: the implementation class UID, the version name, the operations invoked and performed, the role sheet
pub record User : Type 0 where
  pub class : List ℕ
  pub version : List ℕ
  pub invoked : ℕ
  pub performed : ℕ
  pub roles : List ℕ

-- from the arguments of a call
abbrev pub user_of : List ℕ → List ℕ → ℕ → ℕ → List ℕ → User
user_of class version invoked performed roles = record { class = class; version = version; invoked = invoked; performed = performed; roles = roles }

-- as the code has it
abbrev pub user_said : given.User → User
user_said u = user_of u.class_uid.now u.version_name.now u.invoked u.performed u.roles.now

-- a count has two bytes: every number that a call takes
unfoldable pub count_ok : ℕ → Bool
count_ok n = ltb n 65536

-- "contents without a valid class UID get 4"
unfoldable pub user_good : User → Bool
user_good u = name_ok u.class && ((empty u.version || version_ok u.version) && (role_sheet_ok u.roles && (count_ok u.invoked && count_ok u.performed)))

-- ---- the sub-items, each a type and a body
-- a 54H: two-byte UID length, the name, the two roles
unfoldable pub role_body : Role → List ℕ
role_body r = two (length r.uid) ++ (r.uid ++ (r.scu ∷ r.scp ∷ []))

abbrev pub role_item : Role → ℕ × List ℕ
role_item r = (0x54, role_body r)

unfoldable pub count_items : User → List (ℕ × List ℕ)
count_items u = cond (eqb u.invoked 1 && eqb u.performed 1) [] ((0x53, two u.invoked ++ two u.performed) ∷ [])

unfoldable pub role_items : User → List (ℕ × List ℕ)
role_items u = map role_item (roles_in u.roles)

unfoldable pub version_items : User → List (ℕ × List ℕ)
version_items u = cond (empty u.version) [] ((0x55, u.version) ∷ [])

-- our maximum length, the class UID, and what else is to be sent
unfoldable pub sub_items : User → List (ℕ × List ℕ)
sub_items u = (0x51, four LONGEST) ∷ (0x52, u.class) ∷ (count_items u ++ (role_items u ++ version_items u))

-- the body of the 50H
unfoldable pub user_bytes : User → List ℕ
user_bytes u = sequence (sub_items u)
