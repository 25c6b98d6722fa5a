-- What is read from any valid RQ or AC may be written again, with a class UID where it had none: its fields are good contents, and the PDU of them is no longer than the one that was
-- read, since only what is skipped goes, but for a class UID that was not there and for 4 bytes at most for each refused context of an AC, whose empty sub-item may not have been there.
-- Assumes nothing.
use Prim.Native.Nat.{ℕ, ◌+◌, ◌-◌, ◌*◌, ◌≤◌, ◌<◌}
use native.Mathlib.Omega.{arith}
use native.Mathlib.Decide.{dec_lt}
use mathlib.Core.Bool.{true, false, ◌&&◌}
use mathlib.Core.List.{List, [], ◌∷◌, ◌++◌, map}
use mathlib.Core.Path.{◌≡◌, refl, sym, ap, ◌∙◌}
use lib.ListN.{length, take, drop, get_or, replicate, length-append, length-drop}
use lib.Seq.{length-take-le}
use lib.Dec.{leb, eqb}
use borrow.Author.Tests.{eq-eqb, eqb-true}
use Rattle.laws.specs.Lists.{all, among, distinct, empty}
use Rattle.laws.proofs.Booleans.{left_of, right_of, both_of}
use Rattle.names.specs.Name.{name_ok}
use Rattle.names.proofs.NameLaws.{name_short}
use Rattle.titles.specs.Title.{title_ok}
use Rattle.items.specs.Items.{walk, bodies, first}
use Rattle.items.specs.Wire.{items_bytes}
use Rattle.items.proofs.HoldLaws.{first_good}
use Rattle.items.proofs.WireLaws.{item_length}
use Rattle.roles.proofs.Inverse.{sheet_length}
use Rattle.user_items.specs.Kinds.{good_50h}
use Rattle.user_items.specs.Sent.{user_good, user_bytes}
use Rattle.user_items.proofs.GoodLaws.{user_size}
use Rattle.user_items.proofs.SentLaws.{given_sheet}
use Rattle.contents.specs.Contents.{top_good, items_ok}
use Rattle.contents.proofs.GoodLaws.{items_filled, items_good, items_counts, items_50}
use Rattle.numbers.specs.Lengths.{HEADER, LONGEST, BUFFER, ROLE}
use Rattle.numbers.specs.Refusals.{NOT-REFUSED, SHORT-OUTPUT, BAD-CONTENTS, LONG-PDU}
use Rattle.numbers.specs.Kinds.{ASSOCIATE-RQ, ASSOCIATE-AC}
use Rattle.judging.specs.Pdu.{whole, pdu_length, called_of, calling_of, top_items, request_ok, kind_of}
use Rattle.judging.proofs.KindLaws.{kind_whole, kind_request, request_long, accept_long, request_items, accept_items, whole_length, whole_limit}
use Rattle.sheets.specs.Contexts.{Answered, answered_id, answered_ok, all_answered_ok}
use Rattle.sheets.specs.Sheet.{answers_in, answers_ok}
use Rattle.sheets.proofs.Inverse.{answered_fits, answers_answered, answers_length}
use Rattle.sheet_room.proofs.Room.{answer_most, answers_most}
use Rattle.sheet_room.proofs.Sizes.{sizes_of}
use Rattle.reading.proofs.Meaning.{request_sheet_good, request_sheet_back, accept_sheet_good, accept_sheet_back}
use Rattle.reading.specs.Associate.{proposed, answered, application_of, sub_items_of, sheet_in}
use Rattle.writing.specs.Fields.{AcFields, rq_good, ac_good}
use Rattle.writing.specs.Cases.{added}
use Rattle.writing.specs.Wire.{AssociatePdu, associate_bytes, context_body, answer_body, rq_pdu, ac_pdu}
use Rattle.writing.specs.Form.{Form, form_refusal, sent_bytes, rq_form, ac_form}
use Rattle.writing.proofs.FormLaws.{refusal_5, refusal_2, refusal_0}
use Rattle.writing.proofs.Case3.{user_long, associate_long}
use Rattle.round_trips.specs.Trips.{RqTrip, AcTrip, user_read, class_grown, rq_read, ac_read, refusals, Writable}
use Rattle.round_trips.proofs.PduTrip.{Apart, top_good_so, among_top}
use Rattle.round_trips.proofs.ContextTrip.{ContextKind, proposing, answering, grown, bodies_short, none_grown, refused_grown}
use Rattle.round_trips.proofs.Share.{shares, items_size, first_size}
use Rattle.round_trips.proofs.UserAgain.{user_again, user_shorter, added_most}
use Rattle.round_trips.proofs.SentTrip.{sent_rq, sent_ac}

-- ---- the top: the application name, and the room that a 10H, the contexts and the 50H take
module _ (k : ℕ) (w : Apart k) (s : List ℕ) (g : items_ok k s ≡ true) where
  top_name : name_ok (first (bodies 0x10 (walk s))) ≡ true
  unfolding top_good among
  top_name = let n = (items_counts k s g w.name w.user).applications in first_good name_ok (bodies 0x10 (walk s)) (omega arith) (items_good k s g 0x10 refl)

  top_short : 4 + length (first (bodies 0x10 (walk s))) + (length (items_bytes k (bodies k (walk s))) + (4 + length (first (bodies 0x50 (walk s))))) ≤ length s
  unfolding sizes_of distinct among
  top_short =
      let m = items_counts k s g w.name w.user in
      let n = m.applications in
      let o = m.users in
      let f = first_size (bodies 0x10 (walk s)) (omega arith) in
      let l = first_size (bodies 0x50 (walk s)) (omega arith) in
      let i = items_size k (bodies k (walk s)) in
      let t = shares (0x10 ∷ k ∷ 0x50 ∷ []) (rw (w.name', w.user)) s (items_filled k s g) in
      omega arith

-- ---- of either: how many bytes what is read from a PDU takes, written again
module _ {C : Type 0} (k : ContextKind C) (pdu : List ℕ) (n : 74 ≤ length pdu) (g : items_ok k.type (top_items pdu) ≡ true) where
  abbrev bs : List (List ℕ)
  bs = bodies k.type (walk (top_items pdu))

  abbrev body : List ℕ
  body = first (bodies 0x50 (walk (top_items pdu)))

  user_good_so : good_50h body ≡ true
  user_good_so = items_50 k.type (top_items pdu) g k.apart.name k.apart.user k.apart.user'

  taken : 82 + (length (application_of pdu) + (length (items_bytes k.type (map k.body (map k.read bs))) + length body)) ≤ length pdu + grown k (map k.read bs)
  unfolding application_of
  taken =
      let q = sym (top_good_so k.type k.apart bs) ∙ items_good k.type (top_items pdu) g k.type (among_top k.type k.apart) in
      let s = bodies_short k bs q in
      let r = top_short k.type k.apart (top_items pdu) g in
      let z = length-drop 74 pdu in
      omega arith

  shorter : (given : List ℕ) (f : AssociatePdu) → length f.middle ≡ 64 → f.user ≡ user_bytes (user_read given pdu) → f.application ≡ application_of pdu → f.context ≡ k.type
      → f.bodies ≡ map k.body (map k.read bs) → length (associate_bytes f) ≤ length pdu + grown k (map k.read bs) + class_grown given pdu
  shorter given f m u a t b =
      let l = associate_long f in
      let i = ap length a in
      let v = ap length u ∙ user_long (user_read given pdu) in
      let y = user_shorter given pdu user_good_so in
      let x : length (items_bytes f.context f.bodies) ≡ length (items_bytes k.type (map k.body (map k.read bs))) = rw (t, b) in
      let r = taken in
      omega arith

-- ---- good contents are refused with 5 alone, or for want of room
module _ (f : Form) (g : f.good ≡ true) (m : f.most ≡ LONGEST) where
  passes : (room : ℕ) → LONGEST < length f.pdu - HEADER → form_refusal f room ≡ LONG-PDU
  passes room h = refusal_5 f room g (omega arith)

  -- a number that is neither 2 nor 0 is 5, and comes only where the PDU-length passes
  other : (room n : ℕ) → (n ≡ SHORT-OUTPUT → ⊥) → (n ≡ NOT-REFUSED → ⊥) → form_refusal f room ≡ n → LONGEST < length f.pdu - HEADER
  other room n two none e = go (dec_lt LONGEST (length f.pdu - HEADER)) (dec_lt room (length f.pdu))
    where
      go : Dec (LONGEST < length f.pdu - HEADER) → Dec (room < length f.pdu) → LONGEST < length f.pdu - HEADER
      go (yes h) d = h
      go (no h) (yes l) = absurd (two (sym e ∙ refusal_2 f room g (omega arith) l))
      go (no h) (no l) = absurd (none (sym e ∙ refusal_0 f room g (omega arith) (omega arith)))

  writable : Writable f
  writable =
      record {
        never_bad = λ room e. let p = passes room (other room BAD-CONTENTS (λ z. omega arith) (λ z. omega arith) e) in omega arith;
        long = passes;
        only_long = λ room e. other room LONG-PDU (λ z. omega arith) (λ z. omega arith) e;
        sent = λ room h l. refusal_0 f room g (omega arith) l;
      }

  -- in a room for so many bytes, no more than any PDU may have
  allowed : (n : ℕ) → length f.pdu ≤ n → (room : ℕ) → n ≤ BUFFER → n ≤ room → form_refusal f room ≡ NOT-REFUSED
  allowed n s room l h = refusal_0 f room g (omega arith) (omega arith)

-- a valid PDU has no more than any may have
whole_buffer : (pdu : List ℕ) → whole pdu ≡ true → length pdu ≤ BUFFER
whole_buffer pdu w = let a = whole_length pdu w in let b = whole_limit pdu w in omega arith

-- no class UID is added where there was one
none_added : (given pdu : List ℕ) → empty (bodies 0x52 (sub_items_of pdu)) ≡ false → class_grown given pdu ≡ 0
unfolding class_grown
none_added given pdu e = rw e

-- ---- an RQ
module _ (pdu : List ℕ) (e : kind_of pdu ≡ ASSOCIATE-RQ) where
  rq_user : good_50h (first (bodies 0x50 (walk (top_items pdu)))) ≡ true
  rq_user = user_good_so proposing pdu (request_long pdu e) (request_items pdu e)

  pub rq_name : name_ok (application_of pdu) ≡ true
  unfolding application_of
  rq_name = top_name 0x20 proposing.apart (top_items pdu) (request_items pdu e)

  -- its application name, its contexts and a maximum length have room in it
  pub rq_room : 90 + (length (application_of pdu) + length (items_bytes 0x20 (map context_body (proposed pdu)))) ≤ length pdu
  unfolding proposed
  rq_room =
      let t = taken proposing pdu (request_long pdu e) (request_items pdu e) in
      let z = none_grown (proposed pdu) in
      let u = user_size (first (bodies 0x50 (walk (top_items pdu)))) rq_user in
      omega arith

  title_16 : (at : ℕ) → at + 16 ≤ length pdu → length (take 16 (drop at pdu)) ≡ 16
  title_16 at h = length-take-le 16 (drop at pdu) (omega (arith, length-drop at pdu))

  titles_ok : (title_ok (called_of pdu) && (title_ok (calling_of pdu) && items_ok 0x20 (top_items pdu))) ≡ true
  unfolding request_ok
  titles_ok = right_of (leb 68 (pdu_length pdu)) _ (kind_request pdu e)

-- with a class UID that is given; the PDU is a list of bytes, that is, of numbers below 256
module _ (given pdu : List ℕ) (n : name_ok given ≡ true) (b : (i : ℕ) → get_or pdu i 0 < 256) (e : kind_of pdu ≡ ASSOCIATE-RQ) where
  -- the fields are good contents
  pub rq_again_good : rq_good (rq_read given pdu) ≡ true
  unfolding rq_good
  rq_again_good =
      let o = titles_ok pdu e in
      both_of (title_ok (called_of pdu)) _ (left_of _ (title_ok (calling_of pdu) && items_ok 0x20 (top_items pdu)) o)
      (both_of (title_ok (calling_of pdu)) _ (left_of _ (items_ok 0x20 (top_items pdu)) (right_of (title_ok (called_of pdu)) _ o))
      (both_of _ _ (rq_name pdu e) (both_of _ _ (user_again given pdu (rq_user pdu e) n b) (request_sheet_good pdu e))))

  -- in no more bytes, but for the class UID
  pub rq_again_short : length (rq_form (rq_read given pdu)).pdu ≤ length pdu + class_grown given pdu
  unfolding rq_form rq_pdu proposed
  rq_again_short =
      let n = request_long pdu e in
      let a = title_16 pdu e 10 (omega arith) in
      let b = title_16 pdu e 26 (omega arith) in
      let c = length-append (called_of pdu) (calling_of pdu ++ replicate 32 0) in
      let d = length-append (calling_of pdu) (replicate 32 0) in
      let z = none_grown (proposed pdu) in
      let s = shorter proposing pdu n (request_items pdu e) given (rq_pdu (rq_read given pdu)) (omega arith) refl refl refl (ap (map context_body) (request_sheet_back pdu e)) in
      omega arith

  pub rq_writable : Writable (rq_form (rq_read given pdu))
  unfolding rq_form
  rq_writable = writable (rq_form (rq_read given pdu)) rq_again_good refl

  -- so with room for as many bytes no call refuses them
  pub rq_again : (room : ℕ) → length pdu + class_grown given pdu ≤ BUFFER → length pdu + class_grown given pdu ≤ room → form_refusal (rq_form (rq_read given pdu)) room ≡ NOT-REFUSED
  unfolding rq_form
  rq_again = allowed (rq_form (rq_read given pdu)) rq_again_good refl (length pdu + class_grown given pdu) rq_again_short

  -- and what is sent reads as the same fields once more
  pub rq_again_trip : (room : ℕ) → form_refusal (rq_form (rq_read given pdu)) room ≡ NOT-REFUSED → RqTrip (rq_read given pdu) (sent_bytes (rq_form (rq_read given pdu)) room)
  rq_again_trip room h = sent_rq room (rq_read given pdu) h

  -- where it had a class UID, as many bytes as it has itself are enough
  pub rq_again_had : empty (bodies 0x52 (sub_items_of pdu)) ≡ false → (room : ℕ) → length pdu ≤ room → form_refusal (rq_form (rq_read given pdu)) room ≡ NOT-REFUSED
  rq_again_had x room h =
      let z = none_added given pdu x in
      let l = whole_buffer pdu (kind_whole pdu ASSOCIATE-RQ e (λ z. omega arith)) in
      rq_again room (omega arith) (omega arith)

-- ---- an AC
-- how long one of good contents can be
answers_size : (cs : List Answered) → all answered_ok cs ≡ true → length (items_bytes 0x21 (map answer_body cs)) ≤ 76 * length cs
unfolding answer_body
answers_size [] g = omega arith
answers_size (c ∷ cs) g =
    let t = answered_fits c (left_of _ _ g) in
    let r = answers_size cs (right_of (answered_ok c) _ g) in
    simp (length-append, item_length) (omega arith)

-- 68 fixed bytes, at most 68 of a 10H, 76 of each of 128 21H, 12 of the 50H with the maximum length, and what is added to it
ac_limit : (f : AcFields) → ac_good f ≡ true → length (answers_in f.sheet) ≤ 128 → length (ac_form f).pdu - HEADER ≤ 9876 + added f.user
unfolding ac_form ac_pdu ac_good all_answered_ok
ac_limit f g n =
    let g₂ : (name_ok f.application && (user_good f.user && answers_ok f.sheet)) ≡ true = right_of (eqb (length f.echoed) 64) _ g in
    let g₃ : (user_good f.user && answers_ok f.sheet) ≡ true = right_of (name_ok f.application) _ g₂ in
    let a = name_short f.application (left_of _ _ g₂) in
    let k = answers_answered f.sheet (right_of (user_good f.user) _ g₃) in
    let s = answers_size (answers_in f.sheet) (left_of _ (distinct (map answered_id (answers_in f.sheet))) (right_of (leb 1 (length (answers_in f.sheet))) _ k)) in
    let l = associate_long (ac_pdu f) in
    let u = user_long f.user in
    let m = eqb-true (length f.echoed) 64 (left_of _ _ g) in
    omega arith

-- so with at most 6,508 added it is refused neither with 5 nor, in a buffer with room for any PDU, with 2, where the sheet is a list of bytes
pub ac_allowed : (f : AcFields) → ac_good f ≡ true → length (answers_in f.sheet) ≤ 128 → added f.user ≤ 6508 → (room : ℕ) → BUFFER ≤ room → form_refusal (ac_form f) room ≡ NOT-REFUSED
unfolding ac_form
ac_allowed f g n a room h = let l = ac_limit f g n in refusal_0 (ac_form f) room g (omega arith) (omega arith)

pub accept_never_long : (f : AcFields) → ((i : ℕ) → get_or f.sheet i 0 < 256) → ac_good f ≡ true → added f.user ≤ 6508 → (room : ℕ) → BUFFER ≤ room → form_refusal (ac_form f) room ≡ NOT-REFUSED
unfolding ac_good
accept_never_long f b g = ac_allowed f g (answers_most f.sheet b (right_of (user_good f.user) _ (right_of (name_ok f.application) _ (right_of (eqb (length f.echoed) 64) _ g))))

-- and so with 89 roles at most, whatever the rest
pub accept_few_roles : (f : AcFields) → ((i : ℕ) → get_or f.sheet i 0 < 256) → ac_good f ≡ true → length f.user.roles ≤ ROLE * 89 → (room : ℕ) → BUFFER ≤ room → form_refusal (ac_form f) room ≡ NOT-REFUSED
unfolding ac_good
accept_few_roles f b g h =
    let u : user_good f.user ≡ true = left_of _ (answers_ok f.sheet) (right_of (name_ok f.application) _ (right_of (eqb (length f.echoed) 64) _ g)) in
    let m = added_most f.user u in
    let l = sheet_length f.user.roles (given_sheet f.user u) in
    accept_never_long f b g (omega arith)

module _ (given pdu : List ℕ) (n : name_ok given ≡ true) (b : (i : ℕ) → get_or pdu i 0 < 256) (e : kind_of pdu ≡ ASSOCIATE-AC) where
  ac_user : good_50h (first (bodies 0x50 (walk (top_items pdu)))) ≡ true
  ac_user = user_good_so answering pdu (accept_long pdu e) (accept_items pdu e)

  echoed_64 : length (take 64 (drop 10 pdu)) ≡ 64
  echoed_64 = let n = accept_long pdu e in length-take-le 64 (drop 10 pdu) (omega (arith, length-drop 10 pdu))

  pub ac_again_good : ac_good (ac_read given pdu) ≡ true
  unfolding ac_good application_of
  ac_again_good =
      both_of _ _ (eq-eqb (length (take 64 (drop 10 pdu))) 64 echoed_64)
      (both_of _ _ (top_name 0x21 answering.apart (top_items pdu) (accept_items pdu e))
      (both_of _ _ (user_again given pdu ac_user n b) (accept_sheet_good pdu e)))

  -- each refused context takes at most 4 bytes more than it came with
  pub ac_again_longer : length (ac_form (ac_read given pdu)).pdu ≤ length pdu + 4 * refusals (answered pdu) + class_grown given pdu
  unfolding ac_form ac_pdu answered
  ac_again_longer =
      let z = refused_grown (answered pdu) in
      let s = shorter answering pdu (accept_long pdu e) (accept_items pdu e) given (ac_pdu (ac_read given pdu)) echoed_64 refl refl refl (ap (map answer_body) (accept_sheet_back pdu e)) in
      omega arith

  pub ac_writable : Writable (ac_form (ac_read given pdu))
  unfolding ac_form
  ac_writable = writable (ac_form (ac_read given pdu)) ac_again_good refl

  pub ac_again : (room : ℕ) → length pdu + 4 * refusals (answered pdu) + class_grown given pdu ≤ BUFFER → length pdu + 4 * refusals (answered pdu) + class_grown given pdu ≤ room
      → form_refusal (ac_form (ac_read given pdu)) room ≡ NOT-REFUSED
  unfolding ac_form
  ac_again = allowed (ac_form (ac_read given pdu)) ac_again_good refl (length pdu + 4 * refusals (answered pdu) + class_grown given pdu) ac_again_longer

  pub ac_again_trip : (room : ℕ) → form_refusal (ac_form (ac_read given pdu)) room ≡ NOT-REFUSED → AcTrip (ac_read given pdu) (sent_bytes (ac_form (ac_read given pdu)) room)
  ac_again_trip room h = sent_ac room (ac_read given pdu) h

  -- where it had a class UID and refuses no context, as many bytes as it has itself are enough
  pub ac_again_had : empty (bodies 0x52 (sub_items_of pdu)) ≡ false → refusals (answered pdu) ≡ 0 → (room : ℕ) → length pdu ≤ room → form_refusal (ac_form (ac_read given pdu)) room ≡ NOT-REFUSED
  ac_again_had x y room h =
      let z = none_added given pdu x in
      let l = whole_buffer pdu (kind_whole pdu ASSOCIATE-AC e (λ z. omega arith)) in
      ac_again room (omega arith) (omega arith)

  -- its odd IDs are at most 128: with at most 6,508 bytes added neither 5 nor, in a buffer with room for any PDU, 2 comes
  answers_128 : length (answers_in (sheet_in ASSOCIATE-AC pdu)) ≤ 128
  answers_128 = let m = answer_most pdu b e in let l = answers_length (sheet_in ASSOCIATE-AC pdu) (accept_sheet_good pdu e) in omega arith

  pub ac_again_limit : length (ac_form (ac_read given pdu)).pdu - HEADER ≤ 9876 + added (user_read given pdu)
  ac_again_limit = ac_limit (ac_read given pdu) ac_again_good answers_128

  pub ac_again_any : added (user_read given pdu) ≤ 6508 → (room : ℕ) → BUFFER ≤ room → form_refusal (ac_form (ac_read given pdu)) room ≡ NOT-REFUSED
  ac_again_any = ac_allowed (ac_read given pdu) ac_again_good answers_128
