-- Case 3 for any user information that may be sent and has room: the lengths grow by what is added.
-- Assumes nothing.
use Prim.Native.Nat.{ℕ, ◌+◌, ◌≤◌, ◌<◌}
use native.Mathlib.Omega.{arith}
use mathlib.Core.Bool.{Bool, true, false, ◌&&◌, cond}
use mathlib.Core.List.{List, [], ◌∷◌, ◌++◌, map}
use mathlib.Core.Path.{◌≡◌, refl, ap, ◌∙◌}
use lib.ListN.{length, length-append}
use lib.Dec.{eqb}
use Rattle.laws.specs.Lists.{among, distinct, differ, empty}
use Rattle.laws.specs.Text.{bytes}
use Rattle.numbers.specs.Lengths.{LONGEST}
use Rattle.octets.specs.Octets.{be16, be32, two, four}
use Rattle.names.specs.Name.{name_ok}
use Rattle.names.proofs.NameLaws.{name_short}
use Rattle.titles.specs.Title.{title_ok}
use Rattle.items.specs.Wire.{item_bytes, items_bytes, sequence}
use Rattle.items.proofs.WireLaws.{item_length, sequence_cons, sequence_length}
use Rattle.sheets.specs.Contexts.{context_ok, transfer_name_ok, answered_ok, contexts_ok, all_answered_ok}
use Rattle.sheets.specs.Sheet.{record_bytes, records_of, cap, abstract_of, transfer_of, goes_on, start, sheet_runs, contexts_in, answered_of, answers_in, field_ok, fields_ok, proposes, answers, proposal_ok, answers_ok}
use Rattle.roles.specs.Role.{Role, roles_ok}
use Rattle.roles.specs.Sheet.{role_records, roles_in, role_sheet_ok}
use Rattle.user_items.specs.Sent.{User, user_good, count_ok, role_body, role_item, count_items, role_items, version_items, sub_items, user_bytes}
use Rattle.writing.specs.Fields.{rq_good, ac_good}
use Rattle.writing.specs.Wire.{AssociatePdu, pdu_bytes, associate_items, associate_bytes, context_body, answer_body, rq_pdu, ac_pdu}
use Rattle.writing.specs.Form.{rq_form, ac_form}
use Rattle.writing.specs.Cases.{asking, accepting, roles_size, added, only_class, Case3}
use Rattle.writing.proofs.FormLaws.{refusal_0, refusal_2}

-- ---- the user information: our maximum length, and what is added
roles_long : (rs : List Role) → length (sequence (map role_item rs)) ≡ roles_size rs
unfolding roles_size role_body
roles_long [] = refl
roles_long (r ∷ rs) =
    let a = sequence_cons (role_item r) (map role_item rs) in
    let b = length-append r.uid (r.scu ∷ r.scp ∷ []) in
    let l = roles_long rs in
    omega arith

counts_long : (u : User) → length (sequence (count_items u)) ≡ cond (eqb u.invoked 1 && eqb u.performed 1) 0 8
unfolding count_items item_bytes
counts_long u = go (eqb u.invoked 1 && eqb u.performed 1)
  where
    go : (b : Bool) → length (sequence (cond b [] ((0x53, two u.invoked ++ two u.performed) ∷ []))) ≡ cond b 0 8
    go true = refl
    go false = refl

version_long : (u : User) → length (sequence (version_items u)) ≡ cond (empty u.version) 0 (4 + length u.version)
unfolding version_items item_bytes
version_long u = go u.version
  where
    go : (v : List ℕ) → length (sequence (cond (empty v) [] ((0x55, v) ∷ []))) ≡ cond (empty v) 0 (4 + length v)
    go [] = refl
    go (x ∷ v) = omega (arith, length-append (item_bytes 0x55 (x ∷ v)) [])

pub user_long : (u : User) → length (user_bytes u) ≡ 8 + added u
unfolding user_bytes sub_items role_items added
user_long u =
    let a = sequence_cons (0x51, four LONGEST) ((0x52, u.class) ∷ (count_items u ++ (role_items u ++ version_items u))) in
    let b = sequence_cons (0x52, u.class) (count_items u ++ (role_items u ++ version_items u)) in
    let e = sequence_length (count_items u) (role_items u ++ version_items u) in
    let f = sequence_length (role_items u) (version_items u) in
    let g = counts_long u in
    let h = roles_long (roles_in u.roles) in
    let i = version_long u in
    omega arith

-- ---- any RQ or AC: its length, and the same in its own bytes
module _ (f : AssociatePdu) where
  pub associate_long : length (associate_bytes f) ≡ 18 + (length f.middle + (length f.application + (length (items_bytes f.context f.bodies) + length f.user)))
  unfolding associate_bytes pdu_bytes associate_items
  associate_long =
      let a = length-append f.middle (associate_items f) in
      let b = length-append (item_bytes 0x10 f.application) (items_bytes f.context f.bodies ++ item_bytes 0x50 f.user) in
      let c = length-append (items_bytes f.context f.bodies) (item_bytes 0x50 f.user) in
      let d = item_length 0x10 f.application in
      let e = item_length 0x50 f.user in
      omega arith

  pub associate_number : (n : ℕ) → length (associate_bytes f) ≡ n + 6 → n < 4294967296 → be32 (associate_bytes f) 2 ≡ n
  unfolding associate_bytes pdu_bytes be32 be16
  associate_number n e h = omega arith

-- ---- the contexts that case 3's sheets have
asked : contexts_in (record_bytes 1 0 (bytes "1.2.840.10008.1.1") (bytes "1.2.840.10008.1.2")) ≡ record { id = 1; abstr = bytes "1.2.840.10008.1.1"; transfers = bytes "1.2.840.10008.1.2" ∷ [] } ∷ []
unfolding record_bytes contexts_in records_of sheet_runs start goes_on abstract_of transfer_of cap
asked = refl

answered : answers_in (record_bytes 1 0 [] (bytes "1.2.840.10008.1.2")) ≡ record { id = 1; result = 0; transfer = bytes "1.2.840.10008.1.2" } ∷ []
unfolding record_bytes answers_in records_of answered_of transfer_of cap
answered = refl

asking_sheet : proposal_ok (record_bytes 1 0 (bytes "1.2.840.10008.1.1") (bytes "1.2.840.10008.1.2")) ≡ true
unfolding proposal_ok proposes fields_ok field_ok contexts_ok context_ok name_ok distinct among
asking_sheet = rw asked (unfold record_bytes records_of in refl)

accepting_sheet : answers_ok (record_bytes 1 0 [] (bytes "1.2.840.10008.1.2")) ≡ true
unfolding answers_ok answers fields_ok field_ok all_answered_ok answered_ok transfer_name_ok name_ok distinct among
accepting_sheet = rw answered (unfold record_bytes records_of in refl)

-- ---- case 3
module _ (u : User) (g : user_good u ≡ true) (h : 155 + added u ≤ LONGEST) where
  asking_good : (rq_form (asking u)).good ≡ true
  unfolding rq_form rq_good title_ok name_ok asking
  asking_good = rw (asking_sheet, g)

  accepting_good : (ac_form (accepting u)).good ≡ true
  unfolding ac_form ac_good name_ok accepting
  accepting_good = rw (accepting_sheet, g)

  asking_bytes : length (rq_form (asking u)).pdu ≡ 161 + added u
  unfolding rq_form rq_pdu asking context_body item_bytes
  asking_bytes =
      let n : length (items_bytes 0x20 (map context_body (contexts_in (asking u).sheet))) ≡ 50 = rw asked in
      let l = associate_long (rq_pdu (asking u)) in
      let v = user_long u in
      omega arith

  accepting_bytes : length (ac_form (accepting u)).pdu ≡ 140 + added u
  unfolding ac_form ac_pdu accepting answer_body item_bytes
  accepting_bytes =
      let n : length (items_bytes 0x21 (map answer_body (answers_in (accepting u).sheet))) ≡ 29 = rw answered in
      let l = associate_long (ac_pdu (accepting u)) in
      let v = user_long u in
      omega arith

  pub case_3 : Case3 u
  unfolding rq_form ac_form
  case_3 =
      let n = asking_bytes in
      let m = accepting_bytes in
      record {
        rq_length = associate_number (rq_pdu (asking u)) (155 + added u) (omega arith) (omega arith);
        rq_bytes = n;
        rq_sent = refusal_0 (rq_form (asking u)) (161 + added u) asking_good (omega arith) (omega arith);
        rq_short = refusal_2 (rq_form (asking u)) (160 + added u) asking_good (omega arith) (omega arith);
        ac_length = associate_number (ac_pdu (accepting u)) (134 + added u) (omega arith) (omega arith);
        ac_bytes = m;
        ac_sent = refusal_0 (ac_form (accepting u)) (140 + added u) accepting_good (omega arith) (omega arith);
        ac_short = refusal_2 (ac_form (accepting u)) (139 + added u) accepting_good (omega arith) (omega arith);
      }

-- ---- a class UID that is a name, and nothing else: plus 4 + n
pub class_added : (class : List ℕ) → added (only_class class) ≡ 4 + length class
unfolding added only_class roles_in role_records roles_size
class_added class = omega arith

module _ (class : List ℕ) (k : name_ok class ≡ true) where
  class_good : user_good (only_class class) ≡ true
  unfolding user_good only_class role_sheet_ok role_records roles_in roles_ok differ count_ok
  class_good = rw k

  pub only_class_so : Case3 (only_class class)
  only_class_so = case_3 (only_class class) class_good (let l = name_short class k in let e = class_added class in omega arith)

  pub class_rq : be32 (rq_form (asking (only_class class))).pdu 2 ≡ 155 + (4 + length class)
  class_rq = only_class_so.rq_length ∙ ap (λ (n : ℕ). 155 + n) (class_added class)

  pub class_ac : be32 (ac_form (accepting (only_class class))).pdu 2 ≡ 134 + (4 + length class)
  class_ac = only_class_so.ac_length ∙ ap (λ (n : ℕ). 134 + n) (class_added class)
