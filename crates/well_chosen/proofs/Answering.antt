-- An RQ that was read is never a bad proposal, its answers always have room in a sheet for 128, and the accept response takes them: the AC is no longer than the RQ and what our user
-- information adds.
-- Assumes nothing.
use Prim.Native.Nat.{ℕ, zero, suc, ◌+◌, ◌*◌, ◌/◌, ◌≤◌, ◌<◌}
use native.Mathlib.Omega.{arith}
use mathlib.Core.Bool.{Bool, true, false, not, cond}
use mathlib.Core.List.{List, [], ◌∷◌, map}
use mathlib.Core.Path.{◌≡◌, refl, sym, ap, ◌∙◌}
use lib.ListN.{length, drop, get_or, length-append, length-drop, length-map}
use lib.Seq.{length-take-le}
use lib.Dec.{ltb, eqb}
use borrow.Author.Tests.{eqb-true, eqb-false, eq-eqb, le-ltb, not-false}
use Rattle.laws.specs.Lists.{all}
use Rattle.laws.proofs.Booleans.{left_of, right_of, both_of}
use Rattle.laws.proofs.Refusals.{not_due}
use Rattle.numbers.specs.Kinds.{ASSOCIATE-RQ}
use Rattle.numbers.specs.Lengths.{BUFFER, RECORD}
use Rattle.numbers.specs.Refusals.{NOT-REFUSED, NO-SUCH-PDU}
use Rattle.numbers.specs.Results.{ACCEPTED}
use Rattle.octets.specs.Octets.{odd}
use Rattle.octets.specs.Put.{front}
use Rattle.octets.proofs.PutLaws.{front_start}
use Rattle.names.specs.Name.{name_ok}
use Rattle.items.specs.Wire.{item_bytes, items_bytes}
use Rattle.items.proofs.WireLaws.{item_length}
use Rattle.user_items.specs.Sent.{User, user_good}
use Rattle.judging.specs.Pdu.{kind_of}
use Rattle.judging.proofs.KindLaws.{request_long}
use Rattle.sheets.specs.Contexts.{Context, Answered, context_id, context_ok, contexts_ok}
use Rattle.sheets.specs.Sheet.{record_id, records_of, goes_on, others, start, sheet_runs, contexts_in, answers_in, proposal_ok, site_ok}
use Rattle.sheets.proofs.Inverse.{proposal_contexts}
use Rattle.reading.specs.Associate.{proposed, application_of, sheet_in, fields_of, associate_refusal, associate_of, filling, Read}
use Rattle.reading.specs.Associate.{Associate}
use Rattle.reading.proofs.Meaning.{refusal_is, request_sheet_good, request_sheet_back, request_records, application_stands}
use Rattle.writing.specs.Fields.{AcFields, ac_good}
use Rattle.writing.specs.Cases.{added}
use Rattle.writing.specs.Wire.{context_body, answer_body, ac_pdu}
use Rattle.writing.specs.Form.{ac_form, form_refusal}
use Rattle.writing.proofs.FormLaws.{refusal_0}
use Rattle.writing.proofs.Case3.{user_long, associate_long}
use Rattle.sheet_room.proofs.Distinct.{ids_most}
use Rattle.sheet_room.proofs.Room.{records_bytes}
use Rattle.round_trips.proofs.UserAgain.{part_bytes}
use Rattle.round_trips.proofs.Again.{rq_name, rq_room, ac_allowed}
use Rattle.round_trips.proofs.SentTrip.{sent_ac}
use Rattle.choosing.specs.Choice.{Liked, site_in, chosen, chosen_for}
use Rattle.choosing.specs.Call.{Chosen, choose_refusal}
use Rattle.well_chosen.specs.Answering.{records_in, Bytes, Chain, response_of, Answering}
use Rattle.well_chosen.proofs.Meaning.{well_chosen, was_proposed_so}
use Rattle.well_chosen.proofs.Written as written

-- ---- an answer takes no more bytes than the context that it answers
name_in_items : (x : List ℕ) (xs : List (List ℕ)) (k : ℕ) → k < length xs → get_or xs k [] ≡ x → 4 + length x ≤ length (items_bytes 0x40 xs)
name_in_items x [] k h e = absurd (omega arith)
name_in_items x (y ∷ ys) zero h e = let l = ap length e in simp (length-append, item_length) (omega arith)
name_in_items x (y ∷ ys) (suc k) h e = let r = name_in_items x ys k (omega arith) e in simp (length-append, item_length) (omega arith)

answer_shorter : (ws : List Liked) (c : Context) → length (answer_body (chosen ws c)) ≤ length (context_body c)
unfolding answer_body context_body
answer_shorter ws c =
    let t = name_shorter (eqb (chosen ws c).result ACCEPTED) refl in
    let a = item_length 0x40 (chosen ws c).transfer in
    let b = item_length 0x30 c.abstr in
    let n = length-append (item_bytes 0x30 c.abstr) (items_bytes 0x40 c.transfers) in
    omega arith
  where
    name_shorter : (d : Bool) → eqb (chosen ws c).result ACCEPTED ≡ d → length (chosen ws c).transfer ≤ length (items_bytes 0x40 c.transfers)
    name_shorter true e =
        let o = was_proposed_so ws c (eqb-true _ _ e) in
        let l = name_in_items (chosen ws c).transfer c.transfers o.place o.there o.same in
        omega arith
    name_shorter false e = let z = ap length ((well_chosen ws c).refused (eqb-false _ _ e)) in omega arith

answers_shorter : (ws : List Liked) (cs : List Context) → length (items_bytes 0x21 (map answer_body (chosen_for ws cs))) ≤ length (items_bytes 0x20 (map context_body cs))
unfolding chosen_for
answers_shorter ws [] = omega arith
answers_shorter ws (c ∷ cs) =
    let l = answer_shorter ws c in
    let r = answers_shorter ws cs in
    simp (length-append, item_length) (omega arith)

-- ---- a good proposal has at most 128 contexts: its IDs are odd bytes, and none comes twice
context_odd : (c : Context) → context_ok c ≡ true → odd (context_id c) ≡ true
unfolding context_ok
context_odd c g = left_of _ _ g

abbrev byte? : ℕ → Bool
byte? x = ltb x 256

runs_bytes : (rs : List (List ℕ)) → all (λ r. byte? (record_id r)) rs ≡ true → all byte? (map context_id (sheet_runs rs)) ≡ true
unfolding sheet_runs start
runs_bytes [] g = refl
runs_bytes (r ∷ rs) g = both_of (byte? (record_id r)) _ (left_of (byte? (record_id r)) _ g) (go (sheet_runs rs) (goes_on r (sheet_runs rs)) (runs_bytes rs (right_of (byte? (record_id r)) _ g)))
  where
    go : (cs : List Context) (b : Bool) → all byte? (map context_id cs) ≡ true → all byte? (map context_id (cond b (others cs) cs)) ≡ true
    go cs false h = h
    go [] true h = h
    go (c ∷ cs) true h = right_of (byte? c.id) _ h

pub contexts_most : (s : List ℕ) → Bytes s → proposal_ok s ≡ true → length (contexts_in s) ≤ 128
unfolding contexts_ok contexts_in
contexts_most s b g = ids_most context_ok context_id context_odd (contexts_in s) (proposal_contexts s g) (runs_bytes (records_of s) (records_bytes s b))

-- so with good sheets a sheet with room for 128 answers is never too short
pub never_short : (proposal site : List ℕ) (room : ℕ) → Bytes proposal → proposal_ok proposal ≡ true → site_ok site ≡ true → RECORD * 128 ≤ room → choose_refusal proposal site room ≡ NOT-REFUSED
unfolding choose_refusal
never_short proposal site room b p s h =
    let n = contexts_most proposal b p in
    rw (p, s, le-ltb room (RECORD * length (contexts_in proposal)) (omega arith))

-- ---- what was read is the RQ's own sheet, a good proposal
module _ (pdu sheet roles : List ℕ) (f : Associate) (sheet' roles' : List ℕ) (w : Read ASSOCIATE-RQ pdu sheet roles f sheet' roles') (z : f.refusal ≡ NOT-REFUSED) where
  none_due : associate_refusal ASSOCIATE-RQ pdu (length sheet) (length roles) ≡ NOT-REFUSED
  none_due = sym (refusal_is ASSOCIATE-RQ pdu sheet roles f sheet' roles' w) ∙ z

  is_request : kind_of pdu ≡ ASSOCIATE-RQ
  is_request = eqb-true _ _ (not-false (eqb (kind_of pdu) ASSOCIATE-RQ) (not_due (not (eqb (kind_of pdu) ASSOCIATE-RQ)) NO-SUCH-PDU _ (λ e. omega arith) none_due).0)

  fields_are : f ≡ fields_of ASSOCIATE-RQ pdu
  unfolding associate_of
  fields_are = w.answer ∙ simp (eq-eqb (associate_refusal ASSOCIATE-RQ pdu (length sheet) (length roles)) NOT-REFUSED none_due)

  filled_with : sheet' ≡ front sheet (sheet_in ASSOCIATE-RQ pdu)
  unfolding filling
  filled_with = w.sheet ∙ simp (eq-eqb (associate_refusal ASSOCIATE-RQ pdu (length sheet) (length roles)) NOT-REFUSED none_due)

  pub read_given_on : records_in f.records sheet' ≡ sheet_in ASSOCIATE-RQ pdu
  read_given_on =
      let n : f.records ≡ length (sheet_in ASSOCIATE-RQ pdu) / RECORD = ap (λ (g : Associate). g.records) fields_are in
      let l = request_records pdu is_request in
      let e : RECORD * f.records ≡ length (sheet_in ASSOCIATE-RQ pdu) = omega arith in
      rw (filled_with, e) (front_start sheet (sheet_in ASSOCIATE-RQ pdu))

  -- what is read from a valid RQ is never a bad proposal
  pub read_never_bad : proposal_ok (records_in f.records sheet') ≡ true
  read_never_bad = ap proposal_ok read_given_on ∙ request_sheet_good pdu is_request

-- ---- the three calls, one after another
module _ (pdu site answer' : List ℕ) (f : Associate) (u : User) (c : Chosen) (h : Chain pdu site answer' f c) (g : user_good u ≡ true) where
  abbrev proposal : List ℕ
  proposal = records_in f.records h.sheet'

  abbrev response : AcFields
  response = response_of pdu f u c answer'

  request_is : kind_of pdu ≡ ASSOCIATE-RQ
  request_is = is_request pdu h.sheet h.roles f h.sheet' h.roles' h.read h.request

  proposal_good : proposal_ok proposal ≡ true
  proposal_good = read_never_bad pdu h.sheet h.roles f h.sheet' h.roles' h.read h.request

  not_refused : c.refusal ≡ NOT-REFUSED
  not_refused =
      written.refusal_is proposal site h.answer c answer' h.chose
      ∙ never_short proposal site (length h.answer) (part_bytes 0 (RECORD * f.records) h.sheet' h.bytes) proposal_good h.good h.room

  -- the answers that are given on: those that were chosen for what the RQ proposes
  given_answers : answers_in response.sheet ≡ chosen_for (site_in site) (proposed pdu)
  given_answers =
      ap answers_in (written.given_on proposal site h.answer c answer' h.chose not_refused)
      ∙ (written.sheet_answers proposal site proposal_good
      ∙ ap (chosen_for (site_in site)) (ap contexts_in (read_given_on pdu h.sheet h.roles f h.sheet' h.roles' h.read h.request) ∙ request_sheet_back pdu request_is))

  application_is : response.application ≡ application_of pdu
  application_is = let e = fields_are pdu h.sheet h.roles f h.sheet' h.roles' h.read h.request in rw e (application_stands pdu)

  echoed_64 : length response.echoed ≡ 64
  echoed_64 = let n = request_long pdu request_is in length-take-le 64 (drop 10 pdu) (omega (arith, length-drop 10 pdu))

  response_good : ac_good response ≡ true
  unfolding ac_good
  response_good =
      both_of _ _ (eq-eqb (length response.echoed) 64 echoed_64)
      (both_of _ _ (ap name_ok application_is ∙ rq_name pdu request_is) (both_of _ _ g (written.given_good proposal site h.answer c answer' h.chose not_refused)))

  -- the AC is no longer than the RQ and what is added to the maximum length
  pub response_short : length (ac_form response).pdu ≤ length pdu + added u
  unfolding ac_form ac_pdu
  response_short =
      let x = associate_long (ac_pdu response) in
      let v = user_long u in
      let n = echoed_64 in
      let i = ap length application_is in
      let j = ap (λ (l : List Answered). length (items_bytes 0x21 (map answer_body l))) given_answers in
      let m = answers_shorter (site_in site) (proposed pdu) in
      let r = rq_room pdu request_is in
      omega arith

  response_sent : (room : ℕ) → length pdu + added u ≤ BUFFER → length pdu + added u ≤ room → form_refusal (ac_form response) room ≡ NOT-REFUSED
  unfolding ac_form
  response_sent room b l = let s = response_short in refusal_0 (ac_form response) room response_good (omega arith) (omega arith)

  -- whatever the RQ's length, there are at most 128 answers
  answers_128 : length (answers_in response.sheet) ≤ 128
  unfolding chosen_for
  answers_128 =
      let m = contexts_most proposal (part_bytes 0 (RECORD * f.records) h.sheet' h.bytes) proposal_good in
      let l = ap length given_answers ∙ length-map (proposed pdu) (chosen (site_in site)) in
      let k = ap length (ap contexts_in (read_given_on pdu h.sheet h.roles f h.sheet' h.roles' h.read h.request) ∙ request_sheet_back pdu request_is) in
      omega arith

  response_any : (room : ℕ) → added u ≤ 6508 → BUFFER ≤ room → form_refusal (ac_form response) room ≡ NOT-REFUSED
  response_any room a b = ac_allowed response response_good answers_128 a room b

  pub answering : Answering pdu site answer' f u c
  answering = record { chosen_all = not_refused; sent = response_sent; sent_any = response_any; says = λ room z. (sent_ac room response z).answers ∙ given_answers }
