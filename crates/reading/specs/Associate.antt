-- Reading an RQ and an AC. "Reading an RQ or AC fills the sheet in PDU order; room is 132 times the records." Of the role sheet: "Reading fills it in PDU order; room is
-- 68 times the 54Hs; 2 where either lent sheet is too short, and then nothing is written to either."
use Rattle.std.specs.Prelude.{ℕ, ◌+◌, ◌/◌, ◌≡◌, ◌<◌, Bool, not, cond, List, [], ◌∷◌, map, length, drop, get_or, ltb, eqb, Option, None, Some, IfSome, Result, Ok, Err}
use Rattle.laws.specs.Lists.{empty}
use Rattle.laws.specs.Refusals.{first_due}
use Rattle.numbers.specs.Refusals.{NOT-REFUSED, SHORT-OUTPUT, NO-SUCH-PDU, refusal_number}
use Rattle.numbers.specs.declared.refusals.Refusal.{Refusal}
use Rattle.numbers.specs.Kinds.{ASSOCIATE-RQ}
use Rattle.numbers.specs.Lengths.{RECORD, ROLE}
use Rattle.numbers.specs.Results.{ACCEPTED}
use Rattle.octets.specs.Put.{front}
use Rattle.items.specs.Items.{Walk, walk, bodies, first, place}
use Rattle.judging.specs.Pdu.{version_of, top_items, kind_of, maximum_of}
use Rattle.sheets.specs.Contexts.{Context, Answered}
use Rattle.sheets.specs.Sheet.{sheet_of, answer_sheet_of}
use Rattle.roles.specs.Sheet.{role_sheet}
use Rattle.user_items.specs.Said.{invoked_said, performed_said, roles_said}
use Rattle.reading.specs.declared.user.Part.{Part}
use Rattle.reading.specs.declared.associate.Associate.{Associate as Told}

-- ---- the fields
-- the context in the body of a 20H
unfoldable pub context_of : List ℕ → Context
context_of b = record { id = get_or b 0 0; abstr = first (bodies 0x30 (walk (drop 4 b))); transfers = bodies 0x40 (walk (drop 4 b)) }

-- the transfer name in the body of a 21H: a refused context "reads into the sheet with transfer length 0", whatever follows its four bytes
unfoldable pub transfer_in : List ℕ → List ℕ
transfer_in b = cond (eqb (get_or b 2 0) ACCEPTED) (first (bodies 0x40 (walk (drop 4 b)))) []

-- the answer in the body of a 21H
unfoldable pub answer_of : List ℕ → Answered
answer_of b = record { id = get_or b 0 0; result = get_or b 2 0; transfer = transfer_in b }

-- the contexts that an RQ proposes, and the answers of an AC, in PDU order
unfoldable pub proposed : List ℕ → List Context
proposed pdu = map context_of (bodies 0x20 (walk (top_items pdu)))

unfoldable pub answered : List ℕ → List Answered
answered pdu = map answer_of (bodies 0x21 (walk (top_items pdu)))

-- the application name, and where in the PDU it stands
unfoldable pub application_of : List ℕ → List ℕ
application_of pdu = first (bodies 0x10 (walk (top_items pdu)))

unfoldable pub application_at : List ℕ → ℕ
application_at pdu = 74 + place 0x10 (walk (top_items pdu))

-- the walk over the sub-items of the 50H, and where in the PDU they stand
unfoldable pub sub_items_of : List ℕ → Walk
sub_items_of pdu = walk (first (bodies 0x50 (walk (top_items pdu))))

unfoldable pub sub_items_at : List ℕ → ℕ
sub_items_at pdu = 74 + place 0x50 (walk (top_items pdu))

-- where in the PDU the body of the first sub-item of a type stands, and how long it is: "0 and 0 where absent"
unfoldable pub sub_item_at : ℕ → List ℕ → ℕ
sub_item_at t pdu = cond (empty (bodies t (sub_items_of pdu))) 0 (sub_items_at pdu + place t (sub_items_of pdu))

unfoldable pub sub_item_len : ℕ → List ℕ → ℕ
sub_item_len t pdu = length (first (bodies t (sub_items_of pdu)))

-- ---- the answer, for kind 1, an RQ, or 2, an AC
-- the records: one per transfer syntax in an RQ, per context in an AC
unfoldable pub sheet_in : ℕ → List ℕ → List ℕ
sheet_in kind pdu = cond (eqb kind ASSOCIATE-RQ) (sheet_of (proposed pdu)) (answer_sheet_of (answered pdu))

-- the roles: one record per 54H
unfoldable pub roles_sheet_in : List ℕ → List ℕ
roles_sheet_in pdu = role_sheet (roles_said (sub_items_of pdu))

-- refusal: 0, or 7 or 2 with all else 0. The application name, the implementation class UID and the version name stand where these numbers say, 0 and 0 for one of the
-- last two that is absent; records and roles: how many the sheet and the role sheet start with
pub record Associate : Type 0 where
  pub refusal : ℕ
  pub version : ℕ
  pub application_at : ℕ
  pub application_len : ℕ
  pub maximum : ℕ
  pub records : ℕ
  pub class_at : ℕ
  pub class_len : ℕ
  pub version_name_at : ℕ
  pub version_name_len : ℕ
  pub invoked : ℕ
  pub performed : ℕ
  pub roles : ℕ

abbrev pub refused : ℕ → Associate
refused n =
    record {
      refusal = n;
      version = 0;
      application_at = 0;
      application_len = 0;
      maximum = 0;
      records = 0;
      class_at = 0;
      class_len = 0;
      version_name_at = 0;
      version_name_len = 0;
      invoked = 0;
      performed = 0;
      roles = 0;
    }

abbrev pub fields_of : ℕ → List ℕ → Associate
fields_of kind pdu =
    record {
      refusal = NOT-REFUSED;
      version = version_of pdu;
      application_at = application_at pdu;
      application_len = length (application_of pdu);
      maximum = maximum_of pdu;
      records = length (sheet_in kind pdu) / RECORD;
      class_at = sub_item_at 0x52 pdu;
      class_len = sub_item_len 0x52 pdu;
      version_name_at = sub_item_at 0x55 pdu;
      version_name_len = sub_item_len 0x55 pdu;
      invoked = invoked_said (sub_items_of pdu);
      performed = performed_said (sub_items_of pdu);
      roles = length (roles_sheet_in pdu) / ROLE;
    }

-- no whole valid PDU of the kind; then too little room in the sheet or in the role sheet
abbrev pub associate_tests : ℕ → List ℕ → ℕ → ℕ → List (Bool × ℕ)
associate_tests kind pdu room rolesRoom =
    (not (eqb (kind_of pdu) kind), NO-SUCH-PDU)
    ∷ (ltb room (length (sheet_in kind pdu)), SHORT-OUTPUT)
    ∷ (ltb rolesRoom (length (roles_sheet_in pdu)), SHORT-OUTPUT)
    ∷ []

abbrev pub associate_refusal : ℕ → List ℕ → ℕ → ℕ → ℕ
associate_refusal kind pdu room rolesRoom = first_due (associate_tests kind pdu room rolesRoom)

unfoldable pub associate_of : ℕ → List ℕ → ℕ → ℕ → Associate
associate_of kind pdu room rolesRoom =
    cond (eqb (associate_refusal kind pdu room rolesRoom) NOT-REFUSED) (fields_of kind pdu) (refused (associate_refusal kind pdu room rolesRoom))

-- what the sheet and the role sheet then start with
unfoldable pub filling : ℕ → List ℕ → ℕ → ℕ → List ℕ
filling kind pdu room rolesRoom = cond (eqb (associate_refusal kind pdu room rolesRoom) NOT-REFUSED) (sheet_in kind pdu) []

unfoldable pub roles_filling : ℕ → List ℕ → ℕ → ℕ → List ℕ
roles_filling kind pdu room rolesRoom = cond (eqb (associate_refusal kind pdu room rolesRoom) NOT-REFUSED) (roles_sheet_in pdu) []

-- a PDU of a kind was read into the sheet s and the role sheet t, which are now s' and t', and r is the answer
pub record Read (kind : ℕ) (pdu s t : List ℕ) (r : Associate) (s' t' : List ℕ) : Type 0 where
  pub answer : r ≡ associate_of kind pdu (length s) (length t)
  pub sheet : s' ≡ front s (filling kind pdu (length s) (length t))
  pub roles : t' ≡ front t (roles_filling kind pdu (length s) (length t))

-- ---- the code's answer as that record
abbrev pub part_place : Option Part → ℕ
part_place None = 0
part_place (Some p) = p.at

abbrev pub part_length : Option Part → ℕ
part_length None = 0
part_length (Some p) = p.len

abbrev pub told : Told → Associate
told a =
    record {
      refusal = NOT-REFUSED;
      version = a.version;
      application_at = a.application.at;
      application_len = a.application.len;
      maximum = a.maximum;
      records = a.records;
      class_at = part_place a.class;
      class_len = part_length a.class;
      version_name_at = part_place a.version_name;
      version_name_len = part_length a.version_name;
      invoked = a.invoked;
      performed = a.performed;
      roles = a.roles;
    }

abbrev pub associate_as : Result Told Refusal → Associate
associate_as (Ok a) = told a
associate_as (Err e) = refused (refusal_number e)

-- a part that is told stands behind place 0, so that none is 0 and 0
pub record Placed (a : Told) : Type 0 where
  pub class : IfSome a.class (λ p. 0 < p.at)
  pub version_name : IfSome a.version_name (λ p. 0 < p.at)
