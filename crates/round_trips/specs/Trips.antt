-- The round trip of each PDU: what is written is a whole valid PDU of its kind, and reading it gives the same fields, a sheet byte for byte. And what may be read may be written again.
use Rattle.std.specs.Prelude.{ℕ, ◌+◌, ◌-◌, ◌/◌, ◌≤◌, ◌<◌, ◌≡◌, true, cond, List, [], ◌∷◌, length, take, drop, ltb, eqb}
use Rattle.laws.specs.Lists.{empty}
use Rattle.numbers.specs.Refusals.{NOT-REFUSED, BAD-CONTENTS, LONG-PDU}
use Rattle.numbers.specs.Kinds.{ASSOCIATE-RQ, ASSOCIATE-AC, ASSOCIATE-RJ, DATA-TF, ABORT}
use Rattle.numbers.specs.Lengths.{HEADER, LONGEST, RECORD, ROLE}
use Rattle.numbers.specs.Results.{ACCEPTED}
use Rattle.items.specs.Items.{bodies}
use Rattle.user_items.specs.Said.{class_said, version_said, invoked_said, performed_said}
use Rattle.user_items.specs.Sent.{User, user_bytes}
use Rattle.pdvs.specs.Data.{Pdv, pdvs}
use Rattle.judging.specs.Pdu.{called_of, calling_of, kind_of, acceptable as acceptable_of}
use Rattle.sheets.specs.Contexts.{Answered}
use Rattle.sheets.specs.Sheet.{contexts_in, answers_in}
use Rattle.reading.specs.Associate.{proposed, answered, application_of, sub_items_of, sheet_in, roles_sheet_in, associate_of, filling, roles_filling}
use Rattle.reading.specs.Values as values
use Rattle.reading.specs.Data.{pdv, start_of, no_data, data_of, fragment_of}
use Rattle.reading.specs.Associate.{Associate}
use Rattle.reading.specs.Data.{DataRead}
use Rattle.writing.specs.Fields.{RqFields, AcFields, Reject, Items, Abort}
use Rattle.writing.specs.Form.{Form, form_refusal}

-- where the class UID and the version name stand in an RQ or AC of ours, so many bytes long: the user information comes last, in it the class UID behind the 51H and the 52H's head,
-- and the version name at the end
unfoldable pub class_at : User → ℕ → ℕ
class_at u end = end - length (user_bytes u) + 12

unfoldable pub version_at : User → ℕ → ℕ
version_at u end = cond (empty u.version) 0 (end - length u.version)

-- what reading it answers: the application name stands behind the first item's head, each sheet has as many records as the one that was given
abbrev pub read_of : List ℕ → User → List ℕ → ℕ → Associate
read_of application u sheet end =
    record {
      refusal = NOT-REFUSED;
      version = 1;
      application_at = 78;
      application_len = length application;
      maximum = LONGEST;
      records = length sheet / RECORD;
      class_at = class_at u end;
      class_len = length u.class;
      version_name_at = version_at u end;
      version_name_len = length u.version;
      invoked = u.invoked;
      performed = u.performed;
      roles = length u.roles / ROLE;
    }

-- what an RQ and an AC of ours have in common: the names and where they stand, and what reading answers and fills where both sheets have room
pub record AssociateTrip (kind : ℕ) (application : List ℕ) (u : User) (sheet pdu : List ℕ) : Type 0 where
  pub name : application_of pdu ≡ application
  pub stands : take (length application) (drop 78 pdu) ≡ application
  pub class_stands : take (length u.class) (drop (class_at u (length pdu)) pdu) ≡ u.class
  pub version_stands : take (length u.version) (drop (version_at u (length pdu)) pdu) ≡ u.version
  pub read : (room rolesRoom : ℕ) → length sheet ≤ room → length u.roles ≤ rolesRoom → associate_of kind pdu room rolesRoom ≡ read_of application u sheet (length pdu)
  pub filled : (room rolesRoom : ℕ) → length sheet ≤ room → length u.roles ≤ rolesRoom → filling kind pdu room rolesRoom ≡ sheet
  pub roles : (room rolesRoom : ℕ) → length sheet ≤ room → length u.roles ≤ rolesRoom → roles_filling kind pdu room rolesRoom ≡ u.roles

-- an RQ with the fields f
pub record RqTrip (f : RqFields) (pdu : List ℕ) : Type 0 where
  pub kind : kind_of pdu ≡ ASSOCIATE-RQ
  pub acceptable : acceptable_of pdu ≡ true
  pub called : called_of pdu ≡ f.called
  pub calling : calling_of pdu ≡ f.calling
  pub contexts : proposed pdu ≡ contexts_in f.sheet
  pub fields : AssociateTrip ASSOCIATE-RQ f.application f.user f.sheet pdu

-- an AC with the fields f
pub record AcTrip (f : AcFields) (pdu : List ℕ) : Type 0 where
  pub kind : kind_of pdu ≡ ASSOCIATE-AC
  pub echoed : take 64 (drop 10 pdu) ≡ f.echoed
  pub answers : answered pdu ≡ answers_in f.sheet
  pub fields : AssociateTrip ASSOCIATE-AC f.application f.user f.sheet pdu

-- an RJ and an ABORT with the values f
pub record RejectTrip (f : Reject) (pdu : List ℕ) : Type 0 where
  pub kind : kind_of pdu ≡ ASSOCIATE-RJ
  pub read : values.reject_in pdu ≡ record { refusal = NOT-REFUSED; result = f.result; source = f.source; reason = f.reason }

pub record AbortTrip (f : Abort) (pdu : List ℕ) : Type 0 where
  pub kind : kind_of pdu ≡ ABORT
  pub read : values.abort_in pdu ≡ record { refusal = NOT-REFUSED; source = f.source; reason = f.reason }

-- "A number past the last is refused with 4."
abbrev pub past_last : DataRead
past_last = no_data BAD-CONTENTS

-- what reading PDV n of these answers
unfoldable pub pdv_read : List Pdv → ℕ → DataRead
pdv_read ps n =
    cond (ltb n (length ps)) (record { refusal = NOT-REFUSED; id = (pdv ps n).id; control = (pdv ps n).control; start = start_of ps n; len = length (pdv ps n).fragment })
    past_last

-- a P-DATA-TF of the items f: by its number each of their PDVs is read, and its fragment handed back; past the last the empty one is
pub record DataTrip (f : Items) (pdu : List ℕ) : Type 0 where
  pub kind : kind_of pdu ≡ DATA-TF
  pub body : drop HEADER pdu ≡ f.items
  pub read : (n : ℕ) → data_of pdu n ≡ pdv_read (pdvs f.items) n
  pub fragment : (n : ℕ) → fragment_of pdu n ≡ (pdv (pdvs f.items) n).fragment

-- ---- and back: the fields that are read from a PDU
-- its user information, with the given class UID where it has none
unfoldable pub class_or : List ℕ → List ℕ → List ℕ
class_or given pdu = cond (empty (bodies 0x52 (sub_items_of pdu))) given (class_said (sub_items_of pdu))

abbrev pub user_read : List ℕ → List ℕ → User
user_read given pdu =
    record {
      class = class_or given pdu;
      version = version_said (sub_items_of pdu);
      invoked = invoked_said (sub_items_of pdu);
      performed = performed_said (sub_items_of pdu);
      roles = roles_sheet_in pdu;
    }

-- by how many bytes a class UID that was not there makes it longer
unfoldable pub class_grown : List ℕ → List ℕ → ℕ
class_grown given pdu = cond (empty (bodies 0x52 (sub_items_of pdu))) (4 + length given) 0

abbrev pub rq_read : List ℕ → List ℕ → RqFields
rq_read given pdu = record { called = called_of pdu; calling = calling_of pdu; application = application_of pdu; user = user_read given pdu; sheet = sheet_in ASSOCIATE-RQ pdu }

-- of an AC the echoed bytes stay in the PDU
abbrev pub ac_read : List ℕ → List ℕ → AcFields
ac_read given pdu = record { echoed = take 64 (drop 10 pdu); application = application_of pdu; user = user_read given pdu; sheet = sheet_in ASSOCIATE-AC pdu }

-- how many of the answers refuse their context
unfoldable pub refusals : List Answered → ℕ
refusals [] = 0
refusals (c ∷ cs) = cond (eqb c.result ACCEPTED) 0 1 + refusals cs

-- contents that may be written: never 4; 5 exactly if the PDU-length passes 16,384, whatever the room; else nothing is refused where the PDU has room
pub record Writable (f : Form) : Type 0 where
  pub never_bad : (room : ℕ) → form_refusal f room ≡ BAD-CONTENTS → ⊥
  pub long : (room : ℕ) → LONGEST < length f.pdu - HEADER → form_refusal f room ≡ LONG-PDU
  pub only_long : (room : ℕ) → form_refusal f room ≡ LONG-PDU → LONGEST < length f.pdu - HEADER
  pub sent : (room : ℕ) → length f.pdu - HEADER ≤ LONGEST → length f.pdu ≤ room → form_refusal f room ≡ NOT-REFUSED
