-- One record of a role sheet: what the calls that make one, or look at one, answer. Outside the sheet they answer nothing.
use Rattle.std.specs.Prelude.{ℕ, ◌+◌, cond, List, [], length, take, drop, leb}
use Rattle.numbers.specs.Lengths.{ROLE}
use Rattle.roles.specs.Sheet.{role_bytes, role_in}

-- a record of this role; of a UID longer than its field the first 64 bytes
unfoldable pub record_of : List ℕ → ℕ → ℕ → List ℕ
record_of uid scu scp = role_bytes (record { uid = take 64 uid; scu = scu; scp = scp })

-- the UID of the record at a place
unfoldable pub uid_at : List ℕ → ℕ → List ℕ
uid_at s at = cond (leb (at + ROLE) (length s)) (role_in (take ROLE (drop at s))).uid []

-- where it starts in the sheet, 0 where no whole record stands there
unfoldable pub uid_start : List ℕ → ℕ → ℕ
uid_start s at = cond (leb (at + ROLE) (length s)) (at + 4) 0
