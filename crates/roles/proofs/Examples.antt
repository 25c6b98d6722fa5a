-- Worked examples of the role sheet: antt computes both sides.
-- Assumes nothing.
use Prim.Native.Nat.{ℕ, ◌+◌}
use mathlib.Core.Bool.{true, false}
use mathlib.Core.List.{List, [], ◌∷◌, ◌++◌}
use mathlib.Core.Path.{◌≡◌, refl}
use lib.ListN.{length, take, set, replicate}
use Rattle.laws.specs.Lists.{differ}
use Rattle.laws.specs.Text.{bytes}
use Rattle.names.specs.Name.{name_ok}
use Rattle.sheets.specs.Sheet.{cap, field_ok}
use Rattle.roles.specs.Role.{role_ok, roles_ok}
use Rattle.roles.specs.Sheet.{role_bytes, role_sheet, role_records, role_in, roles_in, unused_zero, role_sheet_ok}
use Rattle.roles.specs.Record.{record_of, uid_at, uid_start}

-- what the definitions of role sheets compute with, by one name for an `unfolding` line
unfoldable pub roles_open : Unit {0}
unfolding differ name_ok cap field_ok role_ok roles_ok role_bytes role_sheet role_records role_in roles_in unused_zero role_sheet_ok record_of uid_at uid_start
roles_open = tt

abbrev storage : List ℕ
storage = bytes "1.2.840.10008.5.1.4.1.1.2"

abbrev verification : List ℕ
verification = bytes "1.2.840.10008.1.1"

-- a name of n bytes
abbrev long_name : ℕ → List ℕ
long_name n = replicate n 49

-- one record
abbrev one : List ℕ → ℕ → ℕ → List ℕ
one uid scu scp = role_bytes (record { uid = uid; scu = scu; scp = scp })

-- ---- good sheets
pub empty_good : role_sheet_ok [] ≡ true
unfolding roles_open
empty_good = refl

pub one_good : role_sheet_ok (one storage 1 0) ≡ true
unfolding roles_open
one_good = refl

-- no role, and both
pub two_good : role_sheet_ok (one storage 0 0 ++ one verification 1 1) ≡ true
unfolding roles_open
two_good = refl

pub two_roles : roles_in (one storage 0 0 ++ one verification 1 1) ≡ record { uid = storage; scu = 0; scp = 0 } ∷ record { uid = verification; scu = 1; scp = 1 } ∷ []
unfolding roles_open
two_roles = refl

-- a UID that goes on where another ends is another
pub longer_good : role_sheet_ok (one (bytes "1.2") 1 0 ++ one (bytes "1.2.3") 1 0) ≡ true
unfolding roles_open
longer_good = refl

-- ---- part records: one byte, 67, one behind a whole record
pub one_byte : role_sheet_ok (3 ∷ []) ≡ false
unfolding roles_open
one_byte = refl

pub one_short : role_sheet_ok (take 67 (one storage 1 0)) ≡ false
unfolding roles_open
one_short = refl

pub one_over : role_sheet_ok (one storage 1 0 ++ (0 ∷ [])) ≡ false
unfolding roles_open
one_over = refl

-- ---- the UID's length: 0, 64, 65
pub no_uid : role_sheet_ok (one [] 1 0) ≡ false
unfolding roles_open
no_uid = refl

pub longest : role_sheet_ok (one (long_name 64) 1 0) ≡ true
unfolding roles_open
longest = refl

pub longer : role_sheet_ok (65 ∷ 1 ∷ 0 ∷ 0 ∷ long_name 64) ≡ false
unfolding roles_open
longer = refl

-- not a name
pub bad_name : role_sheet_ok (one (bytes "1..2") 1 0) ≡ false
unfolding roles_open
bad_name = refl

-- ---- a role above 1, in either place
pub scu_two : role_sheet_ok (one storage 2 0) ≡ false
unfolding roles_open
scu_two = refl

pub scp_two : role_sheet_ok (one storage 0 2) ≡ false
unfolding roles_open
scp_two = refl

-- ---- the fourth byte; the unused byte right behind the name, and the last one
pub fourth_byte : role_sheet_ok (set (one storage 1 0) 3 1) ≡ false
unfolding roles_open
fourth_byte = refl

pub byte_behind : role_sheet_ok (set (one storage 1 0) (4 + length storage) 1) ≡ false
unfolding roles_open
byte_behind = refl

pub last_byte : role_sheet_ok (set (one storage 1 0) 67 1) ≡ false
unfolding roles_open
last_byte = refl

-- ---- a UID twice: adjacent, apart, with other roles
pub twice : role_sheet_ok (one storage 1 0 ++ one storage 1 0) ≡ false
unfolding roles_open
twice = refl

pub twice_apart : role_sheet_ok (one storage 1 0 ++ (one verification 1 0 ++ one storage 1 0)) ≡ false
unfolding roles_open
twice_apart = refl

pub twice_otherwise : role_sheet_ok (one storage 1 0 ++ one storage 0 1) ≡ false
unfolding roles_open
twice_otherwise = refl

-- ---- one record: of a UID of 65 bytes the first 64; the UID of the second; none where no whole record stands
pub cut_off : record_of (long_name 65) 0 1 ≡ one (long_name 64) 0 1
unfolding roles_open
cut_off = refl

pub second_uid : uid_at (one storage 1 0 ++ one verification 0 1) 68 ≡ verification
unfolding roles_open
second_uid = refl

pub second_start : uid_start (one storage 1 0 ++ one verification 0 1) 68 ≡ 72
unfolding roles_open
second_start = refl

pub no_record : uid_at (one storage 1 0 ++ one verification 0 1) 69 ≡ []
unfolding roles_open
no_record = refl
