-- Examples of what is sent: antt computes both sides. (Case 3 is in Case3.)
-- Assumes nothing.
use Prim.Native.Nat.{ℕ}
use mathlib.Core.Bool.{true, false}
use mathlib.Core.List.{List, [], ◌∷◌}
use mathlib.Core.Path.{◌≡◌, refl}
use native.Mathlib.Omega.{arith}
use Rattle.laws.specs.Lists.{differ}
use Rattle.laws.specs.Text.{bytes}
use Rattle.numbers.specs.Refusals.{SHORT-OUTPUT, BAD-CONTENTS, LONG-PDU}
use Rattle.octets.specs.Octets.{be16, be32}
use Rattle.names.specs.Name.{name_ok}
use Rattle.items.specs.Wire.{item_bytes}
use Rattle.pdvs.specs.Data.{pdv_step, pdvs_in, pdvs, pdv_ok, pdvs_ok}
use Rattle.reasons.specs.Values.{abort_ok}
use Rattle.sheets.specs.Sheet.{cap, field_ok}
use Rattle.roles.specs.Role.{Role, role_ok, roles_ok}
use Rattle.roles.specs.Sheet.{role_bytes, role_sheet, role_records, role_in, roles_in, unused_zero, role_sheet_ok}
use Rattle.user_items.specs.Kinds.{version_ok}
use Rattle.user_items.specs.Sent.{User, user_of, user_good, count_ok, role_body, count_items, role_items, version_items, sub_items, user_bytes}
use Rattle.writing.specs.Fields.{reject_of, items_of, abort_of, items_good, abort_good}
use Rattle.writing.specs.Ten.{REJECT-VERSION, tens, ten_of, reject_bytes}
use Rattle.writing.specs.Wire.{pdu_bytes, answer_body}
use Rattle.writing.specs.Form.{form_refusal, sent_bytes, reject_form, most_of, data_form, abort_form}
use Rattle.writing.specs.Cases.{roles_size, added, Case3}
use Rattle.writing.proofs.Case3.{case_3}

-- ---- the user information with all sub-items
abbrev two_roles : List Role
two_roles = record { uid = bytes "1.2"; scu = 1; scp = 0 } ∷ record { uid = bytes "1.2.3"; scu = 0; scp = 1 } ∷ []

abbrev pub full : User
full = user_of (bytes "1.2.3") (bytes "FEO 1") 0 1 (role_sheet two_roles)

full_roles : roles_in full.roles ≡ two_roles
unfolding roles_in role_records role_in role_sheet role_bytes cap
full_roles = refl

full_sheet : role_sheet_ok full.roles ≡ true
unfolding role_sheet_ok roles_ok role_ok name_ok differ
full_sheet = rw full_roles (unfold role_sheet role_bytes role_records unused_zero field_ok in refl)

full_good : user_good full ≡ true
unfolding user_good name_ok version_ok count_ok
full_good = rw full_sheet

-- the 50H: 62 bytes, in rising type order
pub full-bytes
    : item_bytes 0x50 (user_bytes full)
    ≡ 0x50 ∷ 0 ∷ 0 ∷ 0x3A
    ∷ 0x51 ∷ 0 ∷ 0 ∷ 4 ∷ 0 ∷ 0 ∷ 0x40 ∷ 0
    ∷ 0x52 ∷ 0 ∷ 0 ∷ 5 ∷ 0x31 ∷ 0x2E ∷ 0x32 ∷ 0x2E ∷ 0x33
    ∷ 0x53 ∷ 0 ∷ 0 ∷ 4 ∷ 0 ∷ 0 ∷ 0 ∷ 1
    ∷ 0x54 ∷ 0 ∷ 0 ∷ 7 ∷ 0 ∷ 3 ∷ 0x31 ∷ 0x2E ∷ 0x32 ∷ 1 ∷ 0
    ∷ 0x54 ∷ 0 ∷ 0 ∷ 9 ∷ 0 ∷ 5 ∷ 0x31 ∷ 0x2E ∷ 0x32 ∷ 0x2E ∷ 0x33 ∷ 0 ∷ 1
    ∷ 0x55 ∷ 0 ∷ 0 ∷ 5 ∷ 0x46 ∷ 0x45 ∷ 0x4F ∷ 0x20 ∷ 0x31 ∷ []
unfolding user_bytes sub_items count_items role_items version_items role_body item_bytes
full-bytes = rw full_roles

-- in case 3 it adds 9 + 8 + 11 + 13 + 9
pub full_added : added full ≡ 50
unfolding added roles_size
full_added = rw full_roles

pub full_case : Case3 full
full_case = let e = full_added in case_3 full full_good (omega arith)

-- ---- the refusals come in the order 4, 5, 2

-- an even ID, and an odd one
abbrev even : List ℕ
even = 0 ∷ 0 ∷ 0 ∷ 2 ∷ 2 ∷ 3 ∷ []

abbrev odd : List ℕ
odd = 0 ∷ 0 ∷ 0 ∷ 2 ∷ 1 ∷ 3 ∷ []

even_bad : pdvs_ok 3 even ≡ false
unfolding pdvs_ok pdvs pdvs_in pdv_step pdv_ok be32 be16
even_bad = refl

odd_good : pdvs_ok 3 odd ≡ true
unfolding pdvs_ok pdvs pdvs_in pdv_step pdv_ok be32 be16
odd_good = refl

-- above a peer maximum of 5, with no room
pub four_first : form_refusal (data_form 5 (items_of even)) 0 ≡ BAD-CONTENTS
unfolding form_refusal data_form items_good
four_first = rw even_bad

pub five_next : form_refusal (data_form 5 (items_of odd)) 0 ≡ LONG-PDU
unfolding form_refusal data_form items_good most_of pdu_bytes
five_next = rw odd_good

pub two_last : form_refusal (data_form 6 (items_of odd)) 11 ≡ SHORT-OUTPUT
unfolding form_refusal data_form items_good most_of pdu_bytes
two_last = rw odd_good

pub one_pdv : sent_bytes (data_form 6 (items_of odd)) 12 ≡ 4 ∷ 0 ∷ 0 ∷ 0 ∷ 0 ∷ 6 ∷ 0 ∷ 0 ∷ 0 ∷ 2 ∷ 1 ∷ 3 ∷ []
unfolding sent_bytes form_refusal data_form items_good most_of pdu_bytes
one_pdv = rw odd_good

-- a reject of ours is the fixed one; an abort of source 0 carries reason 0
pub version_reject : (reject_form (reject_of 1 2 2)).pdu ≡ ten_of REJECT-VERSION
unfolding reject_form reject_bytes ten_of tens
version_reject = refl

pub abort_zero_nine : (abort_form (abort_of 0 9)).good ≡ false
unfolding abort_form abort_good
abort_zero_nine = refl

pub abort_one : (abort_form (abort_of 1 0)).good ≡ false
unfolding abort_form abort_good abort_ok
abort_one = refl

-- a refused context, as the AC has it: with an empty sub-item
pub refused_body : item_bytes 0x21 (answer_body (record { id = 3; result = 4; transfer = [] })) ≡ 0x21 ∷ 0 ∷ 0 ∷ 8 ∷ 3 ∷ 0 ∷ 4 ∷ 0 ∷ 0x40 ∷ 0 ∷ 0 ∷ 0 ∷ []
unfolding answer_body item_bytes
refused_body = refl
