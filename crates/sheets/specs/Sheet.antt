-- The context sheet: "Records of 132 bytes, no header: ID; result (0 in a proposal); abstract length; transfer length; 64 bytes each for the two names. The
-- unused bytes of each name field are zero. A proposal's context is a run of records with equal ID and abstract name, one per transfer syntax; an ID may not
-- start a second run. In an answer the abstract length is 0, and IDs differ. At least one record, no part record."
use Rattle.std.specs.Prelude.{ℕ, ◌-◌, ◌/◌, ◌%◌, Bool, false, ◌&&◌, cond, List, [], ◌∷◌, ◌++◌, map, length, take, drop, get_or, replicate, leb, eqb}
use Rattle.laws.specs.Lists.{all, records, same_bytes}
use Rattle.numbers.specs.Lengths.{RECORD}
use Rattle.octets.specs.Octets.{odd}
use Rattle.names.specs.Name.{name_ok}
use Rattle.sheets.specs.Contexts.{Context, Answered, contexts_ok, all_answered_ok}

-- ---- from contexts to bytes

-- a name and the unused bytes of its field
abbrev pub field : List ℕ → List ℕ
field n = n ++ replicate (64 - length n) 0

unfoldable pub record_bytes : ℕ → ℕ → List ℕ → List ℕ → List ℕ
record_bytes id result a x = id ∷ result ∷ length a ∷ length x ∷ (field a ++ field x)

-- the records of one context, one for each transfer name
unfoldable pub context_records : ℕ → List ℕ → List (List ℕ) → List ℕ
context_records id a [] = []
context_records id a (x ∷ xs) = record_bytes id 0 a x ++ context_records id a xs

unfoldable pub sheet_of : List Context → List ℕ
sheet_of [] = []
sheet_of (c ∷ cs) = context_records c.id c.abstr c.transfers ++ sheet_of cs

unfoldable pub answer_sheet_of : List Answered → List ℕ
answer_sheet_of [] = []
answer_sheet_of (c ∷ cs) = record_bytes c.id c.result [] c.transfer ++ answer_sheet_of cs

-- ---- from bytes to contexts

unfoldable pub records_of : List ℕ → List (List ℕ)
records_of s = records RECORD (length s / RECORD) s

abbrev pub record_id : List ℕ → ℕ
record_id r = get_or r 0 0

-- a name's length in its field: none is longer than 64
unfoldable pub cap : ℕ → ℕ
cap n = cond (leb n 64) n 64

-- the name of a record whose length is byte l of it, and whose field starts behind b bytes
abbrev pub name_in : ℕ → ℕ → List ℕ → List ℕ
name_in l b r = take (cap (get_or r l 0)) (drop b r)

unfoldable pub abstract_of : List ℕ → List ℕ
abstract_of r = name_in 2 4 r

unfoldable pub transfer_of : List ℕ → List ℕ
transfer_of r = name_in 3 68 r

-- the first of the contexts goes on a run that the record r begins
unfoldable pub goes_on : List ℕ → List Context → Bool
goes_on r [] = false
goes_on r (c ∷ cs) = eqb (record_id r) c.id && same_bytes (abstract_of r) c.abstr

abbrev pub first_transfers : List Context → List (List ℕ)
first_transfers [] = []
first_transfers (c ∷ cs) = c.transfers

abbrev pub others : List Context → List Context
others [] = []
others (c ∷ cs) = cs

-- a record in front of the contexts of the records behind it: it goes into the first of them, or begins one of its own
unfoldable pub start : List ℕ → List Context → List Context
start r cs =
    record { id = record_id r; abstr = abstract_of r; transfers = transfer_of r ∷ cond (goes_on r cs) (first_transfers cs) [] }
    ∷ cond (goes_on r cs) (others cs) cs

-- "a run of records with equal ID and abstract name, one per transfer syntax"
unfoldable pub sheet_runs : List (List ℕ) → List Context
sheet_runs [] = []
sheet_runs (r ∷ rs) = start r (sheet_runs rs)

unfoldable pub contexts_in : List ℕ → List Context
contexts_in s = sheet_runs (records_of s)

unfoldable pub answered_of : List ℕ → Answered
answered_of r = record { id = record_id r; result = get_or r 1 0; transfer = transfer_of r }

unfoldable pub answers_in : List ℕ → List Answered
answers_in s = map answered_of (records_of s)

-- ---- good sheets

abbrev pub zero? : ℕ → Bool
zero? b = eqb b 0

-- "The unused bytes of each name field are zero": of the field f the name takes n
unfoldable pub field_ok : ℕ → List ℕ → Bool
field_ok n f = leb n 64 && all zero? (drop n f)

unfoldable pub fields_ok : List ℕ → Bool
fields_ok r = field_ok (get_or r 2 0) (take 64 (drop 4 r)) && field_ok (get_or r 3 0) (drop 68 r)

-- "result (0 in a proposal)", and on a site's sheet
unfoldable pub proposes : List ℕ → Bool
proposes r = eqb (get_or r 1 0) 0 && fields_ok r

-- "names as in a proposal"
abbrev pub named : List ℕ → Bool
named r = name_ok (abstract_of r) && name_ok (transfer_of r)

-- a record that may stand in a proposal
unfoldable pub proposal_record : List ℕ → Bool
proposal_record r = proposes r && (odd (record_id r) && named r)

-- "In an answer the abstract length is 0"
unfoldable pub answers : List ℕ → Bool
answers r = eqb (get_or r 2 0) 0 && fields_ok r

-- a proposal to be sent: no part record, and its contexts are good; that no ID comes twice among these says that none starts a second run
unfoldable pub proposal_ok : List ℕ → Bool
proposal_ok s = eqb (length s % RECORD) 0 && (all proposes (records_of s) && contexts_ok (contexts_in s))

unfoldable pub answers_ok : List ℕ → Bool
answers_ok s = eqb (length s % RECORD) 0 && (all answers (records_of s) && all_answered_ok (answers_in s))

-- a record that may stand on a site's sheet: "ID and result 0, names as in a proposal"
unfoldable pub site_record : List ℕ → Bool
site_record r = proposes r && (eqb (record_id r) 0 && named r)

-- "Each site keeps a sheet of one or more 132-byte records"
unfoldable pub site_ok : List ℕ → Bool
site_ok s = eqb (length s % RECORD) 0 && (leb 1 (length (records_of s)) && all site_record (records_of s))
