-- The role sheet: "records of 68 bytes: UID length; SCU role; SCP role; zero; 64 bytes of the name, unused ones zero. No part record; it may be empty."
use Rattle.std.specs.Prelude.{ℕ, ◌/◌, ◌%◌, Bool, ◌&&◌, List, ◌∷◌, map, length, drop, get_or, eqb}
use Rattle.laws.specs.Lists.{all, joined, records}
use Rattle.numbers.specs.Lengths.{ROLE}
use Rattle.sheets.specs.Sheet.{field, name_in, field_ok}
use Rattle.roles.specs.Role.{Role, roles_ok}

-- ---- from roles to bytes
unfoldable pub role_bytes : Role → List ℕ
role_bytes r = length r.uid ∷ r.scu ∷ r.scp ∷ 0 ∷ field r.uid

unfoldable pub role_sheet : List Role → List ℕ
role_sheet rs = joined (map role_bytes rs)

-- ---- from bytes to roles
unfoldable pub role_records : List ℕ → List (List ℕ)
role_records s = records ROLE (length s / ROLE) s

unfoldable pub role_in : List ℕ → Role
role_in r = record { uid = name_in 0 4 r; scu = get_or r 1 0; scp = get_or r 2 0 }

unfoldable pub roles_in : List ℕ → List Role
roles_in s = map role_in (role_records s)

-- ---- good sheets: "4 for a part record, a bad name, a role above 1, a fourth or an unused byte that is not zero, a UID twice"
-- the fourth byte, and the unused bytes behind the name
unfoldable pub unused_zero : List ℕ → Bool
unused_zero r = eqb (get_or r 3 0) 0 && field_ok (get_or r 0 0) (drop 4 r)

unfoldable pub role_sheet_ok : List ℕ → Bool
role_sheet_ok s = eqb (length s % ROLE) 0 && (all unused_zero (role_records s) && roles_ok (roles_in s))
