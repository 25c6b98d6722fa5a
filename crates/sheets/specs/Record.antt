-- One record of a sheet: what the calls that make one, or look at one, answer. Outside the sheet they answer nothing.
use Rattle.std.specs.Prelude.{ℕ, ◌+◌, Bool, false, ◌&&◌, cond, List, [], length, take, drop, get_or, leb, eqb}
use Rattle.laws.specs.Lists.{same_bytes}
use Rattle.numbers.specs.Lengths.{RECORD}
use Rattle.sheets.specs.Sheet.{record_bytes, name_in, record_id, abstract_of}

-- a record with these names; of a name longer than its field the first 64 bytes
unfoldable pub record_of : ℕ → ℕ → List ℕ → List ℕ → List ℕ
record_of id result a x = record_bytes id result (take 64 a) (take 64 x)

abbrev pub record_at : List ℕ → ℕ → List ℕ
record_at s at = take RECORD (drop at s)

-- a name of the record at a place: its length is byte l of the record, and its field starts behind b bytes
unfoldable pub name_at : ℕ → ℕ → List ℕ → ℕ → List ℕ
name_at l b s at = cond (leb (at + RECORD) (length s)) (name_in l b (record_at s at)) []

unfoldable pub abstract_at : List ℕ → ℕ → List ℕ
abstract_at s at = name_at 2 4 s at

unfoldable pub transfer_at : List ℕ → ℕ → List ℕ
transfer_at s at = name_at 3 68 s at

-- where the name that stands k bytes into that record starts in the sheet, 0 where no whole record stands there
unfoldable pub name_start : List ℕ → ℕ → ℕ → ℕ
name_start s at k = cond (leb (at + RECORD) (length s)) (at + k) 0

-- two records behind one another are of one run: "equal ID and abstract name"
unfoldable pub same_run : List ℕ → List ℕ → Bool
same_run r next = eqb (record_id r) (record_id next) && same_bytes (abstract_of r) (abstract_of next)

-- the record behind the one at a place goes on its run: "equal ID and abstract name"
unfoldable pub goes_on_at : List ℕ → ℕ → Bool
goes_on_at s at = cond (leb (at + RECORD + RECORD) (length s)) (eqb (get_or s at 0) (get_or s (at + RECORD) 0) && same_bytes (abstract_at s at) (abstract_at s (at + RECORD))) false
