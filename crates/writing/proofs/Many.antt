-- A sheet of many records: each adds four bytes at least, so a good sheet of more than 4,096 of them (40,000, say) gets 5. A sheet
-- with one record that no proposal may have gets 4.
-- Assumes nothing.
use Prim.Native.Nat.{ℕ, ◌+◌, ◌*◌, ◌/◌, ◌≤◌, ◌<◌}
use native.Mathlib.Omega.{arith}
use mathlib.Core.Bool.{true, false, ◌&&◌, and-false}
use mathlib.Core.List.{List, [], ◌∷◌, ◌++◌, map}
use mathlib.Core.Path.{◌≡◌, refl, ap}
use lib.ListN.{length, replicate, length-append}
use lib.Dec.{leb}
use Rattle.laws.specs.Lists.{all, distinct}
use Rattle.laws.proofs.Booleans.{left_of, right_of}
use Rattle.names.specs.Name.{name_ok}
use Rattle.titles.specs.Title.{title_ok}
use Rattle.names.proofs.NameLaws.{name_short}
use Rattle.items.specs.Wire.{item_bytes, items_bytes}
use Rattle.items.proofs.WireLaws.{items_cons}
use Rattle.numbers.specs.Refusals.{BAD-CONTENTS, LONG-PDU}
use Rattle.numbers.specs.Lengths.{RECORD}
use Rattle.octets.specs.Octets.{odd}
use Rattle.sheets.specs.Contexts.{Context, context_id, context_ok, contexts_ok}
use Rattle.sheets.specs.Sheet.{record_bytes, context_records, sheet_of, contexts_in, proposal_record, proposal_ok}
use Rattle.sheets.specs.Record.{record_at}
use Rattle.sheets.proofs.RecordLaws.{record_length}
use Rattle.sheets.proofs.GoodLaws.{bad_record}
use Rattle.sheets.proofs.Inverse.{proposal_contexts, proposal_back}
use Rattle.user_items.specs.Sent.{user_good, user_bytes}
use Rattle.writing.specs.Fields.{RqFields, rq_good}
use Rattle.writing.specs.Wire.{associate_items, associate_bytes, pdu_bytes, context_body, rq_pdu}
use Rattle.writing.specs.Form.{rq_form, form_refusal}
use Rattle.writing.proofs.FormLaws.{refusal_4, refusal_5}

-- the transfer names of contexts, one a record
rows : List Context → ℕ
rows [] = 0
rows (c ∷ cs) = length c.transfers + rows cs

records_long : (id : ℕ) (a : List ℕ) (xs : List (List ℕ)) → length a ≤ 64 → all name_ok xs ≡ true → length (context_records id a xs) ≡ RECORD * length xs
unfolding context_records
records_long id a [] h k = refl
records_long id a (x ∷ xs) h k =
    let l = record_length id 0 a x h (name_short x (left_of _ _ k)) in
    let r = records_long id a xs h (right_of (name_ok x) _ k) in
    let n = length-append (record_bytes id 0 a x) (context_records id a xs) in
    omega arith

sheet_long : (cs : List Context) → all context_ok cs ≡ true → length (sheet_of cs) ≡ RECORD * rows cs
unfolding sheet_of context_ok rows
sheet_long [] k = refl
sheet_long (c ∷ cs) k =
    let o : (odd c.id && (name_ok c.abstr && (leb 1 (length c.transfers) && all name_ok c.transfers))) ≡ true = left_of _ _ k in
    let o₂ : (name_ok c.abstr && (leb 1 (length c.transfers) && all name_ok c.transfers)) ≡ true = right_of (odd c.id) _ o in
    let x : all name_ok c.transfers ≡ true = right_of (leb 1 (length c.transfers)) _ (right_of (name_ok c.abstr) _ o₂) in
    let l = records_long c.id c.abstr c.transfers (name_short c.abstr (left_of _ _ o₂)) x in
    let r = sheet_long cs (right_of (context_ok c) _ k) in
    let n = length-append (context_records c.id c.abstr c.transfers) (sheet_of cs) in
    omega arith

-- four bytes a name
names_long : (xs : List (List ℕ)) → 4 * length xs ≤ length (items_bytes 0x40 xs)
names_long [] = omega arith
names_long (x ∷ xs) = let l = items_cons 0x40 x xs in let r = names_long xs in omega arith

items_long : (cs : List Context) → 4 * rows cs ≤ length (items_bytes 0x20 (map context_body cs))
unfolding context_body rows
items_long [] = omega arith
items_long (c ∷ cs) =
    let l = items_cons 0x20 (context_body c) (map context_body cs) in
    let a = length-append (item_bytes 0x30 c.abstr) (items_bytes 0x40 c.transfers) in
    let n = names_long c.transfers in
    let r = items_long cs in
    omega arith

pdu_long : (f : RqFields) → length (items_bytes 0x20 (map context_body (contexts_in f.sheet))) + 6 ≤ length (rq_form f).pdu
unfolding rq_form associate_bytes pdu_bytes associate_items rq_pdu
pdu_long f =
    let a = length-append (f.called ++ (f.calling ++ replicate 32 0)) (associate_items (rq_pdu f)) in
    let b = length-append (item_bytes 0x10 f.application) (items_bytes 0x20 (map context_body (contexts_in f.sheet)) ++ item_bytes 0x50 (user_bytes f.user)) in
    let c = length-append (items_bytes 0x20 (map context_body (contexts_in f.sheet))) (item_bytes 0x50 (user_bytes f.user)) in
    omega arith

pub many_records : (f : RqFields) (room : ℕ) → rq_good f ≡ true → 4096 < length f.sheet / RECORD → form_refusal (rq_form f) room ≡ LONG-PDU
unfolding rq_form rq_good contexts_ok
many_records f room g h =
    let s : proposal_ok f.sheet ≡ true = right_of (user_good f.user) _ (right_of (name_ok f.application) _ (right_of (title_ok f.calling) _ (right_of (title_ok f.called) _ g))) in
    let k : all context_ok (contexts_in f.sheet) ≡ true = left_of _ (distinct (map context_id (contexts_in f.sheet))) (right_of (leb 1 (length (contexts_in f.sheet))) _ (proposal_contexts f.sheet s)) in
    let l = sheet_long (contexts_in f.sheet) k in
    let b = ap length (proposal_back f.sheet s) in
    let i = items_long (contexts_in f.sheet) in
    let n = pdu_long f in
    refusal_5 (rq_form f) room g (omega arith)

-- whatever the other records, and however many
pub one_bad_record : (f : RqFields) (room k : ℕ) → RECORD * k + RECORD ≤ length f.sheet → proposal_record (record_at f.sheet (RECORD * k)) ≡ false → form_refusal (rq_form f) room ≡ BAD-CONTENTS
unfolding rq_form rq_good
one_bad_record f room k h e = refusal_4 (rq_form f) room (simp (bad_record f.sheet k h e, and-false))
