-- A role: what a 54H says of one UID, "a name, two role bytes of 0 or 1".
use Rattle.std.specs.Prelude.{ℕ, Bool, ◌&&◌, List, map, leb}
use Rattle.laws.specs.Lists.{all, differ}
use Rattle.names.specs.Name.{name_ok}

-- the UID, and whether its sender offers to be SCU and SCP of it
pub record Role : Type 0 where
  pub uid : List ℕ
  pub scu : ℕ
  pub scp : ℕ

abbrev pub role_uid : Role → List ℕ
role_uid r = r.uid

unfoldable pub role_ok : Role → Bool
role_ok r = name_ok r.uid && (leb r.scu 1 && leb r.scp 1)

-- "54H at most once per UID"
unfoldable pub roles_ok : List Role → Bool
roles_ok rs = all role_ok rs && differ (map role_uid rs)
