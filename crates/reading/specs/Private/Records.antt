-- For the private functions: the records of the contexts and of the roles in an RQ or AC, and its other fields. Names longer than a field are cut, which no valid PDU has.
use Rattle.std.specs.Prelude.{ℕ, ◌+◌, ◌*◌, ◌≡◌, cond, List, [], ◌∷◌, ◌++◌, length, eqb, Option, None, Some}
use Rattle.laws.specs.Lists.{empty}
use Rattle.numbers.specs.Kinds.{ASSOCIATE-RQ, ASSOCIATE-AC}
use Rattle.numbers.specs.Lengths.{RECORD, ROLE}
use Rattle.octets.specs.Put.{front}
use Rattle.items.specs.Items.{Walk, walk, bodies, first, place}
use Rattle.contents.specs.Contents.{maximum_in}
use Rattle.judging.specs.Pdu.{version_of, top_items}
use Rattle.sheets.specs.Record.{record_of}
use Rattle.roles.specs.Record.{record_of as role_record_of}
use Rattle.user_items.specs.Kinds.{role_of}
use Rattle.user_items.specs.Said.{invoked_said, performed_said}
use Rattle.reading.specs.Associate.{context_of, answer_of, application_of, application_at, sub_items_of, sub_items_at, sheet_in, roles_sheet_in}
use Rattle.reading.specs.declared.associate.Associate.{Associate}
use Rattle.reading.specs.declared.user.Part.{Part}
use Rattle.reading.specs.declared.valid.Counts.{Counts}
use Rattle.reading.specs.declared.valid.Side.{Side}
use Rattle.reading.specs.declared.valid.Side.TheVariants.{Request, Accept}

-- f of each, one behind the other
unfoldable pub each : (List ℕ → List ℕ) → List (List ℕ) → List ℕ
each f [] = []
each f (x ∷ xs) = f x ++ each f xs

-- the records of the context in the body of a 20H, or of the answer in that of a 21H
unfoldable pub body_records : ℕ → List ℕ → List ℕ
body_records k b =
    cond (eqb k 0x20) (each (record_of (context_of b).id 0 (context_of b).abstr) (context_of b).transfers)
    (record_of (answer_of b).id (answer_of b).result [] (answer_of b).transfer)

-- those of all contexts
abbrev pub all_records : ℕ → List ℕ → List ℕ
all_records k s = each (body_records k) (bodies k (walk s))

-- the kind of either
abbrev pub number_of : Side → ℕ
number_of Request = ASSOCIATE-RQ
number_of Accept = ASSOCIATE-AC

-- the type of a context in a PDU of this kind
unfoldable pub context_type : ℕ → ℕ
context_type kind = cond (eqb kind ASSOCIATE-RQ) 0x20 0x21

-- the record of the role in the body of a 54H
unfoldable pub role_record : List ℕ → List ℕ
role_record b = role_record_of (role_of b).uid (role_of b).scu (role_of b).scp

-- those of all roles in the body of a 50H
abbrev pub all_roles : List ℕ → List ℕ
all_roles u = each role_record (bodies 0x54 (walk u))

-- how many records the sheet and the role sheet get
pub record Counted (kind : ℕ) (pdu : List ℕ) (n : Counts) : Type 0 where
  pub records : RECORD * n.records ≡ length (sheet_in kind pdu)
  pub roles : ROLE * n.roles ≡ length (roles_sheet_in pdu)

-- they were put into the sheet s and the role sheet t, which are now s' and t'
pub record Filled (kind : ℕ) (pdu s t s' t' : List ℕ) : Type 0 where
  pub sheet : s' ≡ front s (sheet_in kind pdu)
  pub roles : t' ≡ front t (roles_sheet_in pdu)

-- where the body of the first item of a type stands, and its length, for items that stand from a place on
unfoldable pub part_at : ℕ → ℕ → Walk → Option Part
part_at t from w = cond (empty (bodies t w)) None (Some (record { at = from + place t w; len = length (first (bodies t w)) }))

abbrev pub sub_part : ℕ → List ℕ → Option Part
sub_part t pdu = part_at t (sub_items_at pdu) (sub_items_of pdu)

-- the fields of an RQ or AC that gives so many records and roles
unfoldable pub fields_with : List ℕ → ℕ → ℕ → Associate
fields_with pdu n m =
    record {
      version = version_of pdu;
      application = record { at = application_at pdu; len = length (application_of pdu) };
      maximum = maximum_in (top_items pdu);
      records = n;
      class = sub_part 0x52 pdu;
      version_name = sub_part 0x55 pdu;
      invoked = invoked_said (sub_items_of pdu);
      performed = performed_said (sub_items_of pdu);
      roles = m;
    }
