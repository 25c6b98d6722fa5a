-- An A-ASSOCIATE-RQ or -AC of good contents whose PDU-length is at most 16,384 is a whole valid one, and reads back as those contents.
-- Assumes nothing.
use Prim.Native.Nat.{ℕ, ◌+◌, ◌-◌, ◌≤◌, ◌<◌}
use native.Mathlib.Omega.{arith}
use mathlib.Core.Bool.{Bool, true, false, ◌&&◌, ◌||◌, cond}
use mathlib.Core.List.{List, [], ◌∷◌, ◌++◌, map, append_assoc}
use mathlib.Core.Path.{◌≡◌, refl, ap, ◌∙◌}
use lib.ListN.{length, take, drop, replicate, length-append, length-map}
use lib.Seq.{take_at, drop_at}
use lib.Dec.{leb, eqb}
use borrow.Author.Tests.{eq-eqb, eqb-true, le-ltb}
use Rattle.laws.specs.Lists.{all, distinct, empty}
use Rattle.laws.proofs.Booleans.{left_of, right_of, both_of}
use Rattle.numbers.specs.Kinds.{ASSOCIATE-RQ, ASSOCIATE-AC}
use Rattle.octets.specs.Octets.{be16, be32, odd}
use Rattle.names.specs.Name.{name_ok}
use Rattle.titles.specs.Title.{title_ok}
use Rattle.titles.proofs.TitleLaws.{title_sixteen}
use Rattle.items.specs.Items.{Walk, walk, bodies, first, place}
use Rattle.items.proofs.PlaceLaws.{stands}
use Rattle.roles.specs.Sheet.{role_sheet}
use Rattle.roles.proofs.Inverse.{role_sheet_back}
use Rattle.user_items.specs.Kinds.{good_50h}
use Rattle.user_items.specs.Said.{version_said, invoked_said, performed_said, roles_said}
use Rattle.user_items.specs.Sent.{User, user_good, user_bytes}
use Rattle.user_items.proofs.SentLaws.{given_sheet, sent_51, sent_52, sent_good, sent_version, sent_no_version, sent_invoked, sent_performed, sent_roles, sent_class_place, sent_version_place}
use Rattle.contents.specs.Contents.{items_ok, maximum_in}
use Rattle.judging.specs.Pdu.{called_of, calling_of, top_items, request_ok, accept_ok, valid_as, kind_of, acceptable, maximum_of}
use Rattle.judging.proofs.KindLaws.{kind_of_valid}
use Rattle.sheets.specs.Contexts.{contexts_ok, all_answered_ok}
use Rattle.sheets.specs.Sheet.{contexts_in, sheet_of, proposal_ok, answers_in, answer_sheet_of, answers_ok}
use Rattle.sheets.proofs.Inverse.{proposal_contexts, proposal_back, answers_answered, answer_sheet_back}
use Rattle.reading.specs.Associate.{proposed, answered, application_of, application_at, sub_items_of, sub_items_at, sub_item_at, sub_item_len, sheet_in, roles_sheet_in, fields_of, associate_refusal, associate_of, filling, roles_filling}
use Rattle.reading.proofs.Meaning.{application_stands, class_stands, version_stands}
use Rattle.writing.specs.Fields.{RqFields, AcFields, rq_good, ac_good}
use Rattle.writing.specs.Wire.{AssociatePdu, associate_items, associate_bytes, pdu_bytes, rq_pdu, ac_pdu}
use Rattle.writing.specs.Form.{rq_form, ac_form}
use Rattle.writing.proofs.Case3.{associate_long}
use Rattle.round_trips.specs.Trips.{AssociateTrip, RqTrip, AcTrip, read_of, class_at, version_at}
use Rattle.round_trips.proofs.ContextTrip.{ContextKind, proposing, answering, Bodies, bodies_back}
use Rattle.round_trips.proofs.PduTrip.{Apart, Fits, items_small, last_small, associate_kind, frame_version, associate_whole, associate_68, at_middle, at_application, at_place, at_bodies, at_user, user_last, associate_items_ok}

-- ---- of either: the contexts cs, good and of no ID twice, in the bodies of a PDU that fits
module _ {C : Type 0} (k : ContextKind C) (f : AssociatePdu) (w : Fits f) (cs : List C) (t : f.context ≡ k.type) (e : f.bodies ≡ map k.body cs)
    (g : (leb 1 (length cs) && (all k.ok cs && distinct (map k.id cs))) ≡ true) where
  some_good : (all k.ok cs && distinct (map k.id cs)) ≡ true
  some_good = right_of (leb 1 (length cs)) _ g

  listed : Bodies k cs
  listed = bodies_back k cs (left_of _ _ some_good) (rw (t, e) at (items_small f w))

  items_ok_so : name_ok f.application ≡ true → items_ok f.context (top_items (associate_bytes f)) ≡ true
  items_ok_so n =
      let b = listed in
      associate_items_ok f w n (rw (e, length-map cs k.body) (left_of _ _ g)) (rw (t, e) b.good) (rw e (ap distinct b.ids ∙ right_of (all k.ok cs) _ some_good))

  contexts_at : map k.read (bodies f.context (walk (top_items (associate_bytes f)))) ≡ cs
  contexts_at = ap (map k.read) (at_bodies f w ∙ e) ∙ listed.back

-- ---- of either: with user information that may be sent it fits
fits_with : (f : AssociatePdu) (u : User) → f.user ≡ user_bytes u → user_good u ≡ true → length f.middle ≡ 64 → length (associate_bytes f) ≤ 16390 → Apart f.context → Fits f
fits_with f u e g m l a =
    let n = associate_long f in
    let k = ap length e in
    record { middle = m; limit = l; user = ap good_50h e ∙ sent_good u g (omega arith); apart = a }

-- ---- of either: what is read, of a kind that has these fields
module _ (f : AssociatePdu) (w : Fits f) (u : User) (g : user_good u ≡ true) (x : f.user ≡ user_bytes u) (kind : ℕ) (v : kind_of (associate_bytes f) ≡ kind)
    (a : (eqb kind ASSOCIATE-RQ || eqb kind ASSOCIATE-AC) ≡ true) (sheet : List ℕ) (s : sheet_in kind (associate_bytes f) ≡ sheet) where
  abbrev pdu : List ℕ
  pdu = associate_bytes f

  application_at_so : application_of pdu ≡ f.application
  unfolding application_of
  application_at_so = at_application f w

  place_at : application_at pdu ≡ 78
  unfolding application_at
  place_at = ap (λ (n : ℕ). 74 + n) (at_place f w)

  -- the user information
  user_small : length (user_bytes u) < 65536
  user_small = let l = ap length x in let h = last_small f w in omega arith

  user_at : sub_items_of pdu ≡ walk (user_bytes u)
  unfolding sub_items_of
  user_at = ap walk (at_user f w ∙ x)

  user_from : sub_items_at pdu + length (user_bytes u) ≡ length pdu
  unfolding sub_items_at
  user_from = let l = ap length x in let e = user_last f w in omega arith

  maximum_at : maximum_of pdu ≡ 16384
  unfolding maximum_of maximum_in be32 be16
  maximum_at = rw (v, a) (ap (λ (b : List ℕ). be32 (first (bodies 0x51 (walk b))) 0) (at_user f w ∙ x) ∙ ap (λ (bs : List (List ℕ)). be32 (first bs) 0) (sent_51 u user_small))

  class_is : bodies 0x52 (sub_items_of pdu) ≡ u.class ∷ []
  class_is = ap (bodies 0x52) user_at ∙ sent_52 u user_small

  class_at_so : sub_item_at 0x52 pdu ≡ class_at u (length pdu)
  unfolding sub_item_at class_at
  class_at_so =
      let p = ap (place 0x52) user_at ∙ sent_class_place u user_small in
      let e = user_from in
      rw class_is (omega arith)

  class_long : sub_item_len 0x52 pdu ≡ length u.class
  unfolding sub_item_len
  class_long = ap (λ (bs : List (List ℕ)). length (first bs)) class_is

  version_long : sub_item_len 0x55 pdu ≡ length u.version
  unfolding sub_item_len
  version_long = ap length (ap version_said user_at ∙ sent_version u g user_small)

  version_none : empty (bodies 0x55 (sub_items_of pdu)) ≡ empty u.version
  version_none = ap (λ (v : Walk). empty (bodies 0x55 v)) user_at ∙ sent_no_version u g user_small

  version_at_so : sub_item_at 0x55 pdu ≡ version_at u (length pdu)
  unfolding sub_item_at version_at
  version_at_so = rw version_none (go (empty u.version) refl)
    where
      go : (b : Bool) → empty u.version ≡ b → cond b 0 (sub_items_at pdu + place 0x55 (sub_items_of pdu)) ≡ cond b 0 (length pdu - length u.version)
      go true e = refl
      go false e =
          let p = ap (place 0x55) user_at in
          let q = sent_version_place u user_small e in
          let w = (stands 0x55 (user_bytes u)).within in
          let n = ap length (sent_version u g user_small) in
          let l = user_from in
          omega arith

  invoked_at : invoked_said (sub_items_of pdu) ≡ u.invoked
  invoked_at = ap invoked_said user_at ∙ sent_invoked u g user_small

  performed_at : performed_said (sub_items_of pdu) ≡ u.performed
  performed_at = ap performed_said user_at ∙ sent_performed u g user_small

  roles_at : roles_sheet_in pdu ≡ u.roles
  unfolding roles_sheet_in
  roles_at = ap (λ (v : Walk). role_sheet (roles_said v)) user_at ∙ (ap role_sheet (sent_roles u g user_small) ∙ role_sheet_back u.roles (given_sheet u g))

  fields_at : fields_of kind pdu ≡ read_of f.application u sheet (length pdu)
  fields_at = rw (frame_version f w, place_at, application_at_so, maximum_at, s, class_at_so, class_long, version_at_so, version_long, invoked_at, performed_at, roles_at)

  module _ (room rolesRoom : ℕ) (h : length sheet ≤ room) (l : length u.roles ≤ rolesRoom) where
    none_due : associate_refusal kind pdu room rolesRoom ≡ 0
    none_due = rw (eq-eqb _ _ v, s, roles_at, le-ltb room (length sheet) h, le-ltb rolesRoom (length u.roles) l)

    read_is : associate_of kind pdu room rolesRoom ≡ fields_of kind pdu
    unfolding associate_of
    read_is = simp none_due

    filled_is : filling kind pdu room rolesRoom ≡ sheet_in kind pdu
    unfolding filling
    filled_is = simp none_due

    roles_is : roles_filling kind pdu room rolesRoom ≡ roles_sheet_in pdu
    unfolding roles_filling
    roles_is = simp none_due

  back : AssociateTrip kind f.application u sheet pdu
  back =
      record {
        name = application_at_so;
        stands = rw (application_at_so, place_at) at (application_stands pdu);
        class_stands = rw (class_long, class_at_so) at (class_stands pdu) ∙ ap first class_is;
        version_stands = rw (version_long, version_at_so) at (version_stands pdu) ∙ (ap version_said user_at ∙ sent_version u g user_small);
        read = λ room rolesRoom h l. read_is room rolesRoom h l ∙ fields_at;
        filled = λ room rolesRoom h l. filled_is room rolesRoom h l ∙ s;
        roles = λ room rolesRoom h l. roles_is room rolesRoom h l ∙ roles_at;
      }

-- ---- an RQ: the titles, in front of the rest of a PDU
module _ (c d z v : List ℕ) (h : length c ≡ 16) (l : length d ≡ 16) where
  regroup : (c ++ (d ++ z)) ++ v ≡ c ++ (d ++ (z ++ v))
  regroup = simp append_assoc

  first_title : take 16 ((c ++ (d ++ z)) ++ v) ≡ c
  first_title = ap (take 16) regroup ∙ take_at c (d ++ (z ++ v)) 16 h

  second_title : take 16 (drop 16 ((c ++ (d ++ z)) ++ v)) ≡ d
  second_title = ap (λ (x : List ℕ). take 16 (drop 16 x)) regroup ∙ (ap (take 16) (drop_at c (d ++ (z ++ v)) 16 h) ∙ take_at d (z ++ v) 16 l)

module _ (f : RqFields) (g : rq_good f ≡ true) (limit : length (rq_form f).pdu - 6 ≤ 16384) where
  rq_parts : (title_ok f.called && (title_ok f.calling && (name_ok f.application && (user_good f.user && proposal_ok f.sheet)))) ≡ true
  unfolding rq_good
  rq_parts = g

  rq_parts₂ : (title_ok f.calling && (name_ok f.application && (user_good f.user && proposal_ok f.sheet))) ≡ true
  rq_parts₂ = right_of (title_ok f.called) _ rq_parts

  rq_parts₃ : (name_ok f.application && (user_good f.user && proposal_ok f.sheet)) ≡ true
  rq_parts₃ = right_of (title_ok f.calling) _ rq_parts₂

  rq_parts₄ : (user_good f.user && proposal_ok f.sheet) ≡ true
  rq_parts₄ = right_of (name_ok f.application) _ rq_parts₃

  rq_sheet : proposal_ok f.sheet ≡ true
  rq_sheet = right_of (user_good f.user) _ rq_parts₄

  called_16 : length f.called ≡ 16
  called_16 = title_sixteen f.called (left_of _ _ rq_parts)

  calling_16 : length f.calling ≡ 16
  calling_16 = title_sixteen f.calling (left_of _ _ rq_parts₂)

  rq_fits : Fits (rq_pdu f)
  unfolding rq_form rq_pdu
  rq_fits =
      let a = called_16 in
      let b = calling_16 in
      let c = length-append f.called (f.calling ++ replicate 32 0) in
      let d = length-append f.calling (replicate 32 0) in
      let m = limit in
      fits_with (rq_pdu f) f.user refl (left_of _ _ rq_parts₄) (omega arith) (omega arith) proposing.apart

  called_at : called_of (associate_bytes (rq_pdu f)) ≡ f.called
  unfolding associate_bytes pdu_bytes rq_pdu
  called_at = first_title f.called f.calling (replicate 32 0) (associate_items (rq_pdu f)) called_16 calling_16

  calling_at : calling_of (associate_bytes (rq_pdu f)) ≡ f.calling
  unfolding associate_bytes pdu_bytes rq_pdu
  calling_at = second_title f.called f.calling (replicate 32 0) (associate_items (rq_pdu f)) called_16 calling_16

  rq_kind : kind_of (associate_bytes (rq_pdu f)) ≡ ASSOCIATE-RQ
  unfolding valid_as request_ok rq_pdu contexts_ok
  rq_kind =
      kind_of_valid (associate_bytes (rq_pdu f)) ASSOCIATE-RQ (associate_whole (rq_pdu f) rq_fits) (associate_kind (rq_pdu f) rq_fits)
      (both_of _ _ (associate_68 (rq_pdu f) rq_fits)
      (both_of _ _ (ap title_ok called_at ∙ left_of _ _ rq_parts)
      (both_of _ _ (ap title_ok calling_at ∙ left_of _ _ rq_parts₂) (items_ok_so proposing (rq_pdu f) rq_fits (contexts_in f.sheet) refl refl (proposal_contexts f.sheet rq_sheet) (left_of _ _ rq_parts₃)))))

  proposed_at : proposed (associate_bytes (rq_pdu f)) ≡ contexts_in f.sheet
  unfolding proposed rq_pdu contexts_ok
  proposed_at = contexts_at proposing (rq_pdu f) rq_fits (contexts_in f.sheet) refl refl (proposal_contexts f.sheet rq_sheet)

  rq_sheet_at : sheet_in ASSOCIATE-RQ (associate_bytes (rq_pdu f)) ≡ f.sheet
  unfolding sheet_in
  rq_sheet_at = ap sheet_of proposed_at ∙ proposal_back f.sheet rq_sheet

  rq_back : AssociateTrip ASSOCIATE-RQ f.application f.user f.sheet (associate_bytes (rq_pdu f))
  unfolding rq_pdu
  rq_back = back (rq_pdu f) rq_fits f.user (left_of _ _ rq_parts₄) refl ASSOCIATE-RQ rq_kind refl f.sheet rq_sheet_at

  pub rq_trip : RqTrip f (rq_form f).pdu
  unfolding rq_form acceptable
  rq_trip =
      record {
        kind = rq_kind;
        acceptable = both_of _ _ (eq-eqb _ _ rq_kind) (ap odd (frame_version (rq_pdu f) rq_fits));
        called = called_at;
        calling = calling_at;
        contexts = proposed_at;
        fields = rq_back;
      }

-- ---- an AC
module _ (f : AcFields) (g : ac_good f ≡ true) (limit : length (ac_form f).pdu - 6 ≤ 16384) where
  ac_parts : (eqb (length f.echoed) 64 && (name_ok f.application && (user_good f.user && answers_ok f.sheet))) ≡ true
  unfolding ac_good
  ac_parts = g

  ac_parts₂ : (name_ok f.application && (user_good f.user && answers_ok f.sheet)) ≡ true
  ac_parts₂ = right_of (eqb (length f.echoed) 64) _ ac_parts

  ac_parts₃ : (user_good f.user && answers_ok f.sheet) ≡ true
  ac_parts₃ = right_of (name_ok f.application) _ ac_parts₂

  ac_sheet : answers_ok f.sheet ≡ true
  ac_sheet = right_of (user_good f.user) _ ac_parts₃

  ac_fits : Fits (ac_pdu f)
  unfolding ac_form ac_pdu
  ac_fits = let m = limit in fits_with (ac_pdu f) f.user refl (left_of _ _ ac_parts₃) (eqb-true _ _ (left_of _ _ ac_parts)) (omega arith) answering.apart

  ac_kind : kind_of (associate_bytes (ac_pdu f)) ≡ ASSOCIATE-AC
  unfolding valid_as accept_ok ac_pdu all_answered_ok
  ac_kind =
      kind_of_valid (associate_bytes (ac_pdu f)) ASSOCIATE-AC (associate_whole (ac_pdu f) ac_fits) (associate_kind (ac_pdu f) ac_fits)
      (both_of _ _ (associate_68 (ac_pdu f) ac_fits)
      (both_of _ _ (ap odd (frame_version (ac_pdu f) ac_fits)) (items_ok_so answering (ac_pdu f) ac_fits (answers_in f.sheet) refl refl (answers_answered f.sheet ac_sheet) (left_of _ _ ac_parts₂))))

  answered_at : answered (associate_bytes (ac_pdu f)) ≡ answers_in f.sheet
  unfolding answered ac_pdu all_answered_ok
  answered_at = contexts_at answering (ac_pdu f) ac_fits (answers_in f.sheet) refl refl (answers_answered f.sheet ac_sheet)

  ac_sheet_at : sheet_in ASSOCIATE-AC (associate_bytes (ac_pdu f)) ≡ f.sheet
  unfolding sheet_in
  ac_sheet_at = ap answer_sheet_of answered_at ∙ answer_sheet_back f.sheet ac_sheet

  ac_back : AssociateTrip ASSOCIATE-AC f.application f.user f.sheet (associate_bytes (ac_pdu f))
  unfolding ac_pdu
  ac_back = back (ac_pdu f) ac_fits f.user (left_of _ _ ac_parts₃) refl ASSOCIATE-AC ac_kind refl f.sheet ac_sheet_at

  echoed_at : take 64 (drop 10 (associate_bytes (ac_pdu f))) ≡ f.echoed
  unfolding ac_pdu
  echoed_at = at_middle (ac_pdu f) ac_fits

  pub ac_trip : AcTrip f (ac_form f).pdu
  unfolding ac_form
  ac_trip = record { kind = ac_kind; echoed = echoed_at; answers = answered_at; fields = ac_back }
