-- Worked examples of reading: antt computes both sides.
-- Assumes nothing.
use Prim.Native.Nat.{ℕ}
use mathlib.Core.List.{List, [], ◌∷◌, ◌++◌}
use mathlib.Core.Path.{◌≡◌, refl}
use lib.ListN.{length, replicate}
use Rattle.laws.specs.Text.{bytes}
use Rattle.numbers.specs.Kinds.{ASSOCIATE-RQ, ASSOCIATE-AC, DATA-TF}
use Rattle.octets.specs.Octets.{two, four, be16, be32}
use Rattle.items.specs.Items.{place}
use Rattle.items.specs.Wire.{item_bytes}
use Rattle.judging.specs.Pdu.{kind_of}
use Rattle.judging.proofs.Examples.{judging_open}
use Rattle.sheets.specs.Sheet.{record_bytes, context_records, sheet_of, answer_sheet_of}
use Rattle.roles.specs.Role.{Role}
use Rattle.roles.specs.Sheet.{role_bytes, role_sheet}
use Rattle.user_items.specs.Said.{count_said, roles_said}
use Rattle.user_items.specs.Sent.{role_body}
use Rattle.reading.specs.Associate.{context_of, transfer_in, answer_of, proposed, answered, application_of, application_at, sub_items_of, sub_items_at, sub_item_at, sub_item_len, sheet_in, roles_sheet_in, refused, associate_of, filling, roles_filling}
use Rattle.reading.specs.Data.{pdvs_of, pdv, start_of, no_data, data_of, fragment_of, pdv_stands, data_at, place_after}
use Rattle.reading.specs.Values.{reject_in, abort_in}

-- ---- a P-DATA-TF with a fragment of three bytes and an empty one
abbrev two_pdvs : List ℕ
two_pdvs = 4 ∷ 0 ∷ (four 15 ++ (0 ∷ 0 ∷ 0 ∷ 5 ∷ 1 ∷ 0xFC ∷ 7 ∷ 8 ∷ 9 ∷ 0 ∷ 0 ∷ 0 ∷ 2 ∷ 3 ∷ 2 ∷ []))

-- what the examples unfold to compute with it
data_kind : kind_of two_pdvs ≡ DATA-TF
unfolding judging_open
data_kind = refl

-- the first fragment starts at 12; the control byte is as received
pub first_pdv : data_of two_pdvs 0 ≡ record { refusal = 0; id = 1; control = 0xFC; start = 12; len = 3 }
unfolding data_kind data_of pdvs_of pdv start_of
first_pdv = refl

-- an empty fragment at the end starts where the PDU ends
pub second_pdv : data_of two_pdvs 1 ≡ record { refusal = 0; id = 3; control = 2; start = 21; len = 0 }
unfolding data_kind data_of pdvs_of pdv start_of
second_pdv = refl

pub no_third : data_of two_pdvs 2 ≡ no_data 4
unfolding data_kind data_of pdvs_of pdv start_of
no_third = refl

pub own_part : fragment_of two_pdvs 0 ≡ 7 ∷ 8 ∷ 9 ∷ []
unfolding data_kind fragment_of data_of pdvs_of pdv start_of
own_part = refl

-- ---- by their places: from 6 on, each behind the one before
pub places : (place_after two_pdvs 1 ≡ 15) × (place_after two_pdvs 2 ≡ 21)
unfolding place_after data_at pdv_stands be16 be32
places = (refl, refl)

pub by_place : (data_at two_pdvs 6 ≡ data_of two_pdvs 0) × (data_at two_pdvs 15 ≡ data_of two_pdvs 1) × (data_at two_pdvs 21 ≡ no_data 4)
unfolding data_kind data_of pdvs_of pdv start_of data_at pdv_stands
by_place = (refl, refl, refl)

-- in the header there is no place, even where the bytes from there would be an item; nor past the end
pub no_place : (data_at (4 ∷ 0 ∷ 0 ∷ 0 ∷ 0 ∷ 2 ∷ 1 ∷ 3 ∷ []) 2 ≡ no_data 4) × (data_at two_pdvs 0xFFFFFFFFFFFFFFFF ≡ no_data 4)
unfolding data_at pdv_stands be16 be32
no_place = (refl, refl)

-- an even ID; a length of 1; a length of 3 with two bytes behind it
pub no_item : (data_at (4 ∷ 0 ∷ (four 6 ++ (0 ∷ 0 ∷ 0 ∷ 2 ∷ 2 ∷ 3 ∷ []))) 6 ≡ no_data 4)
    × (data_at (4 ∷ 0 ∷ (four 6 ++ (0 ∷ 0 ∷ 0 ∷ 1 ∷ 1 ∷ 3 ∷ []))) 6 ≡ no_data 4)
    × (data_at (4 ∷ 0 ∷ (four 6 ++ (0 ∷ 0 ∷ 0 ∷ 3 ∷ 1 ∷ 3 ∷ []))) 6 ≡ no_data 4)
unfolding data_at pdv_stands be16 be32
no_item = (refl, refl, refl)

-- with three, in an ABORT of PDU-length 0: the header is not looked at
pub any_type : data_at (7 ∷ 0 ∷ (four 0 ++ (0 ∷ 0 ∷ 0 ∷ 3 ∷ 1 ∷ 3 ∷ 9 ∷ []))) 6 ≡ record { refusal = 0; id = 1; control = 3; start = 12; len = 1 }
unfolding data_at pdv_stands be16 be32
any_type = refl

-- ---- an ABORT of source 0 with reason 9 is read; one of source 1 is refused, and so is an RJ
pub abort_nine : abort_in (7 ∷ 0 ∷ 0 ∷ 0 ∷ 0 ∷ 4 ∷ 0 ∷ 0 ∷ 0 ∷ 9 ∷ []) ≡ record { refusal = 0; source = 0; reason = 9 }
unfolding judging_open abort_in
abort_nine = refl

pub abort_one : abort_in (7 ∷ 0 ∷ 0 ∷ 0 ∷ 0 ∷ 4 ∷ 0 ∷ 0 ∷ 1 ∷ 0 ∷ []) ≡ record { refusal = 7; source = 0; reason = 0 }
unfolding judging_open abort_in
abort_one = refl

pub reject_version : reject_in (3 ∷ 0 ∷ 0 ∷ 0 ∷ 0 ∷ 4 ∷ 0xFF ∷ 1 ∷ 2 ∷ 2 ∷ []) ≡ record { refusal = 0; result = 1; source = 2; reason = 2 }
unfolding judging_open reject_in
reject_version = refl

-- ---- an RQ with a skipped item in front, one context with two transfer syntaxes, and these sub-items in its 50H
abbrev implicit : List ℕ
implicit = bytes "1.2.840.10008.1.2"

abbrev explicit : List ℕ
explicit = bytes "1.2.840.10008.1.2.1"

abbrev verification : List ℕ
verification = bytes "1.2.840.10008.1.1"

abbrev items : List ℕ → List ℕ
items subs =
    item_bytes 0xF0 (1 ∷ 2 ∷ [])
    ++ (item_bytes 0x10 (bytes "1.2.840.10008.3.1.1.1")
    ++ (item_bytes 0x20 (5 ∷ 0 ∷ 0 ∷ 0 ∷ (item_bytes 0x30 verification ++ (item_bytes 0x40 implicit ++ item_bytes 0x40 explicit)))
    ++ item_bytes 0x50 subs))

abbrev body : List ℕ → List ℕ
body subs = 0 ∷ 3 ∷ 0 ∷ 0 ∷ (bytes "STORE-EXOTIC    " ++ (bytes "STORE-EQUINE    " ++ (replicate 32 0 ++ items subs)))

abbrev request_with : List ℕ → List ℕ
request_with subs = 1 ∷ 0 ∷ (four (length (body subs)) ++ body subs)

abbrev maximum : List ℕ
maximum = item_bytes 0x51 (0 ∷ 0 ∷ 0x80 ∷ 0 ∷ [])

-- with a 51H alone
abbrev request : List ℕ
request = request_with maximum

request_kind : kind_of request ≡ ASSOCIATE-RQ
unfolding judging_open
request_kind = refl

-- its contexts as records
request_sheet : sheet_in ASSOCIATE-RQ request ≡ record_bytes 5 0 verification implicit ++ record_bytes 5 0 verification explicit
unfolding judging_open sheet_in proposed context_of context_records sheet_of record_bytes
request_sheet = refl

-- no class UID, no version name, 1 and 1 operations, no role: a role sheet of no byte is enough
pub request_read : associate_of 1 request 300 0
    ≡ record {
      refusal = 0;
      version = 3;
      application_at = 84;
      application_len = 21;
      maximum = 32768;
      records = 2;
      class_at = 0;
      class_len = 0;
      version_name_at = 0;
      version_name_len = 0;
      invoked = 1;
      performed = 1;
      roles = 0;
    }
unfolding request_sheet associate_of application_of application_at place roles_sheet_in roles_said sub_items_of sub_item_at sub_item_len count_said role_sheet
request_read = refl

pub request_filled : filling 1 request 300 0 ≡ record_bytes 5 0 verification implicit ++ record_bytes 5 0 verification explicit
unfolding request_sheet filling roles_sheet_in roles_said sub_items_of role_sheet
request_filled = refl

-- ---- with all sub-items, the 55H first and the 52H last
abbrev exotic : Role
exotic = record { uid = bytes "1.3"; scu = 0; scp = 1 }

abbrev equine : Role
equine = record { uid = bytes "1.2"; scu = 1; scp = 0 }

abbrev role_one : Role → List ℕ
role_one r = item_bytes 0x54 (role_body r)

abbrev told : List ℕ
told =
    request_with
    (item_bytes 0x55 (bytes "FEO 1")
    ++ (role_one exotic
    ++ (maximum
    ++ (role_one equine
    ++ (item_bytes 0x53 (two 2 ++ two 65535)
    ++ item_bytes 0x52 (bytes "1.2.3"))))))

told_sheets : (length (sheet_in ASSOCIATE-RQ told) ≡ 264) × (roles_sheet_in told ≡ role_bytes exotic ++ role_bytes equine)
unfolding request_sheet roles_sheet_in roles_said sub_items_of role_body role_sheet role_bytes
told_sheets = (refl, refl)

-- the room is just enough
pub told_read : associate_of 1 told 264 136
    ≡ record {
      refusal = 0;
      version = 3;
      application_at = 84;
      application_len = 21;
      maximum = 32768;
      records = 2;
      class_at = 233;
      class_len = 5;
      version_name_at = 186;
      version_name_len = 5;
      invoked = 2;
      performed = 65535;
      roles = 2;
    }
unfolding told_sheets associate_of application_of application_at place sub_items_at sub_item_at sub_item_len count_said
told_read = refl

-- the roles in the order of the PDU
pub told_filled : (filling 1 told 264 136 ≡ record_bytes 5 0 verification implicit ++ record_bytes 5 0 verification explicit) × (roles_filling 1 told 264 136 ≡ role_bytes exotic ++ role_bytes equine)
unfolding told_sheets filling roles_filling
told_filled = (refl, refl)

-- one byte too little room in either: 2, not the number needed, and nothing in the other
pub told_narrow : (associate_of 1 told 263 136 ≡ refused 2) × (roles_filling 1 told 263 136 ≡ [])
unfolding told_sheets associate_of roles_filling
told_narrow = (refl, refl)

pub told_few : (associate_of 1 told 264 135 ≡ refused 2) × (filling 1 told 264 135 ≡ [])
unfolding told_sheets associate_of filling
told_few = (refl, refl)

-- a second 52H: no valid RQ, whatever the room
pub class_twice : associate_of 1 (request_with (maximum ++ (item_bytes 0x52 (bytes "1.2") ++ item_bytes 0x52 (bytes "1.2")))) 0 0 ≡ refused 7
unfolding judging_open associate_of
class_twice = refl

-- ---- an AC with an accepted context, one that is refused with a name, one with no byte behind its four, one with a sub-item that passes the end; and a role
abbrev answer_items : List ℕ
answer_items =
    item_bytes 0x10 (bytes "1.2.840.10008.3.1.1.1")
    ++ (item_bytes 0x21 (1 ∷ 0xFF ∷ 0 ∷ 0xFF ∷ item_bytes 0x40 implicit)
    ++ (item_bytes 0x21 (3 ∷ 0xFF ∷ 3 ∷ 0xFF ∷ item_bytes 0x40 implicit)
    ++ (item_bytes 0x21 (5 ∷ 0xFF ∷ 1 ∷ 0xFF ∷ [])
    ++ (item_bytes 0x21 (7 ∷ 0xFF ∷ 4 ∷ 0xFF ∷ 0x40 ∷ 0 ∷ 0xFF ∷ 0xFF ∷ [])
    ++ item_bytes 0x50 (maximum ++ role_one equine)))))

abbrev accept_body : List ℕ
accept_body = 0 ∷ 1 ∷ 0 ∷ 0 ∷ (replicate 64 0 ++ answer_items)

abbrev accept : List ℕ
accept = 2 ∷ 0 ∷ (four (length accept_body) ++ accept_body)

accept_kind : kind_of accept ≡ ASSOCIATE-AC
unfolding judging_open role_body
accept_kind = refl

-- each refused one with no name
pub accept_filled : (filling 2 accept 528 68 ≡ record_bytes 1 0 [] implicit ++ (record_bytes 3 3 [] [] ++ (record_bytes 5 1 [] [] ++ record_bytes 7 4 [] []))) × (roles_filling 2 accept 528 68 ≡ role_bytes equine)
unfolding accept_kind filling roles_filling sheet_in answered answer_of transfer_in answer_sheet_of record_bytes roles_sheet_in roles_said sub_items_of role_sheet role_bytes
accept_filled = (refl, refl)
