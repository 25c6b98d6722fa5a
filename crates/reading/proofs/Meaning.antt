-- What was read: the contexts and the roles of a valid RQ or AC are good and the sheets are theirs; the names stand where the answer says; a refused call leaves both sheets.
-- Assumes nothing.
use Prim.Native.Nat.{ℕ, ◌+◌, ◌*◌, ◌/◌, ◌≤◌}
use native.Mathlib.Omega.{arith}
use mathlib.Core.Bool.{Bool, true, false, ◌&&◌, cond}
use mathlib.Core.List.{List, [], ◌∷◌, map}
use mathlib.Core.Path.{◌≡◌, refl, sym, ap, ◌∙◌}
use lib.ListN.{length, take, drop, get_or, length-map, length-drop, take-append-drop}
use lib.Seq.{drop-drop, take-append-le, drop-append-le}
use lib.Dec.{leb, eqb}
use borrow.Author.Tests.{le-leb, ne_eqb, eqb-true}
use Rattle.laws.specs.Lists.{all, empty, distinct}
use Rattle.laws.proofs.Booleans.{left_of, both_of, all_mapped}
use Rattle.numbers.specs.Kinds.{ASSOCIATE-RQ, ASSOCIATE-AC}
use Rattle.numbers.specs.Lengths.{RECORD, ROLE}
use Rattle.octets.specs.Put.{front}
use Rattle.items.specs.Items.{walk, bodies, first, place}
use Rattle.items.proofs.PlaceLaws.{stands}
use Rattle.contents.specs.Contents.{body_id, ids, good_20h, good_21h, items_ok}
use Rattle.contents.proofs.GoodLaws.{odd_20, abstract_name, some_transfer, transfer_names, odd_21, result_21, items_20, items_21, items_some, items_distinct}
use Rattle.judging.specs.Pdu.{kind_of}
use Rattle.judging.proofs.KindLaws.{request_items, accept_items}
use Rattle.sheets.specs.Contexts.{context_id, answered_id, context_ok, answered_ok, contexts_ok, all_answered_ok}
use Rattle.sheets.specs.Sheet.{contexts_in, answers_in, proposal_ok, answers_ok}
use Rattle.sheets.proofs.Inverse.{contexts_back, contexts_proposal, answered_back, answered_answers, proposal_whole, answers_whole}
use Rattle.roles.specs.Role.{roles_ok}
use Rattle.roles.specs.Sheet.{roles_in, role_sheet_ok}
use Rattle.roles.proofs.Inverse.{roles_length, roles_back, roles_sheet_ok}
use Rattle.user_items.specs.Kinds.{role_of}
use Rattle.user_items.specs.Said.{class_said, version_said, roles_said}
use Rattle.user_items.proofs.GoodLaws.{roles_said_so}
use Rattle.reading.specs.Associate.{context_of, answer_of, proposed, answered, application_of, application_at, sub_items_of, sub_items_at, sub_item_at, sub_item_len, sheet_in, roles_sheet_in, Associate, refused, fields_of, associate_refusal, associate_of, filling, roles_filling, Read}
use Rattle.reading.proofs.ReadLaws.{transfer_goes, user_of}

-- ---- the contexts of a valid RQ, and the answers of a valid AC, are good
context_good_so : (b : List ℕ) → good_20h b ≡ true → context_ok (context_of b) ≡ true
unfolding context_ok context_of
context_good_so b g = both_of _ _ (odd_20 b g) (both_of _ _ (abstract_name b g) (both_of _ _ (some_transfer b g) (transfer_names b g)))

answer_good : (b : List ℕ) → good_21h b ≡ true → answered_ok (answer_of b) ≡ true
unfolding answered_ok answer_of
answer_good b g = both_of _ _ (odd_21 b g) (both_of _ _ (le-leb (get_or b 2 0) 4 (result_21 b g)) (transfer_goes b g))

-- of either, with k for the item type: what is read from good bodies is good, with their IDs
module _ {C : Type 0} (k : ℕ) (read : List ℕ → C) (good : List ℕ → Bool) (ok : C → Bool) (id : C → ℕ)
    (reads-good : (b : List ℕ) → good b ≡ true → ok (read b) ≡ true) (reads-id : (b : List ℕ) → id (read b) ≡ body_id b) where
  all_ids : (bs : List (List ℕ)) → map id (map read bs) ≡ map body_id bs
  all_ids [] = refl
  all_ids (b ∷ bs) = rw (reads-id b, all_ids bs)

  listed_good : (s : List ℕ) → items_ok k s ≡ true → all good (bodies k (walk s)) ≡ true
      → (leb 1 (length (map read (bodies k (walk s)))) && (all ok (map read (bodies k (walk s))) && distinct (map id (map read (bodies k (walk s)))))) ≡ true
  unfolding ids
  listed_good s g q =
      both_of _ _ (ap (leb 1) (length-map (bodies k (walk s)) read) ∙ items_some k s g) (both_of _ _ (all_mapped good ok read reads-good (bodies k (walk s)) q) (ap distinct (all_ids (bodies k (walk s))) ∙ items_distinct k s g))

-- the filled sheet is a good proposal of just these contexts
module _ (x : List ℕ) (v : kind_of x ≡ ASSOCIATE-RQ) where
  request_contexts : contexts_ok (proposed x) ≡ true
  unfolding contexts_ok proposed context_of
  request_contexts = listed_good 0x20 context_of good_20h context_ok context_id context_good_so (λ b. refl) (drop 74 x) (request_items x v) (items_20 (drop 74 x) (request_items x v))

  pub request_sheet_good : proposal_ok (sheet_in ASSOCIATE-RQ x) ≡ true
  unfolding sheet_in
  request_sheet_good = contexts_proposal (proposed x) request_contexts

  pub request_sheet_back : contexts_in (sheet_in ASSOCIATE-RQ x) ≡ proposed x
  unfolding sheet_in
  request_sheet_back = contexts_back (proposed x) request_contexts

-- or a good answer
module _ (x : List ℕ) (v : kind_of x ≡ ASSOCIATE-AC) where
  accept_answers : all_answered_ok (answered x) ≡ true
  unfolding all_answered_ok answered answer_of
  accept_answers = listed_good 0x21 answer_of good_21h answered_ok answered_id answer_good (λ b. refl) (drop 74 x) (accept_items x v) (items_21 (drop 74 x) (accept_items x v))

  pub accept_sheet_good : answers_ok (sheet_in ASSOCIATE-AC x) ≡ true
  unfolding sheet_in
  accept_sheet_good = answered_answers (answered x) accept_answers

  pub accept_sheet_back : answers_in (sheet_in ASSOCIATE-AC x) ≡ answered x
  unfolding sheet_in
  accept_sheet_back = answered_back (answered x) accept_answers

-- ---- the roles of either are good, and the role sheet is a good one of just these roles
module _ (kind : ℕ) (x : List ℕ) (a : ASSOCIATE-RQ ≤ kind) (b : kind ≤ ASSOCIATE-AC) (v : kind_of x ≡ kind) where
  pub read_roles : roles_ok (roles_said (sub_items_of x)) ≡ true
  unfolding sub_items_of
  read_roles = roles_said_so (first (bodies 0x50 (walk (drop 74 x)))) (user_of x kind a b v)

  pub roles_sheet_good : role_sheet_ok (roles_sheet_in x) ≡ true
  unfolding roles_sheet_in
  roles_sheet_good = roles_sheet_ok (roles_said (sub_items_of x)) read_roles

  pub roles_sheet_back : roles_in (roles_sheet_in x) ≡ roles_said (sub_items_of x)
  unfolding roles_sheet_in
  roles_sheet_back = roles_back (roles_said (sub_items_of x)) read_roles

  -- "room is 68 times the 54Hs"
  pub roles_room : length (roles_sheet_in x) ≡ ROLE * length (bodies 0x54 (sub_items_of x))
  unfolding roles_sheet_in roles_said roles_ok
  roles_room = roles_length (roles_said (sub_items_of x)) (left_of _ _ read_roles) ∙ ap (λ (n : ℕ). ROLE * n) (length-map (bodies 0x54 (sub_items_of x)) role_of)

-- ---- the application name is the part of the PDU that the answer names
pub application_stands : (x : List ℕ) → take (length (application_of x)) (drop (application_at x) x) ≡ application_of x
unfolding application_of application_at
application_stands x = ap (take (length (first (bodies 0x10 (walk (drop 74 x)))))) (sym (drop-drop (place 0x10 (walk (drop 74 x))) 74 x)) ∙ (stands 0x10 (drop 74 x)).part

-- and so are the implementation class UID and the version name: of any type of sub-item, the body of the first, and nothing where there is none
part_part : (n i m : ℕ) (l : List ℕ) → i + n ≤ length (take m l) → take n (drop i (take m l)) ≡ take n (drop i l)
part_part n i m l h =
    let d = length-drop i (take m l) in
    sym (ap (λ (k : List ℕ). take n (drop i k)) (sym (take-append-drop m l)) ∙ (ap (take n) (drop-append-le i (take m l) (drop m l) (omega arith)) ∙ take-append-le n (drop i (take m l)) (drop m l) (omega arith)))

module _ (t : ℕ) (x : List ℕ) where
  abbrev user : List ℕ
  user = first (bodies 0x50 (walk (drop 74 x)))

  abbrev from : ℕ
  from = place 0x50 (walk (drop 74 x))

  body_stands : take (length (first (bodies t (walk user)))) (drop (74 + from + place t (walk user)) x) ≡ first (bodies t (walk user))
  body_stands =
      let n : ℕ = length (first (bodies t (walk user))) in
      let i : ℕ = place t (walk user) in
      let u : take (length user) (drop from (drop 74 x)) ≡ user = (stands 0x50 (drop 74 x)).part in
      let l = ap length u in
      let w = (stands t user).within in
      let p : drop (74 + from + i) x ≡ drop i (drop from (drop 74 x)) = sym (drop-drop i (74 + from) x) ∙ ap (drop i) (sym (drop-drop from 74 x)) in
      ap (take n) p ∙ (sym (part_part n i (length user) (drop from (drop 74 x)) (omega arith)) ∙ (ap (λ (k : List ℕ). take n (drop i k)) u ∙ (stands t user).part))

  sub_item_stands : take (sub_item_len t x) (drop (sub_item_at t x) x) ≡ first (bodies t (sub_items_of x))
  unfolding sub_item_len sub_item_at sub_items_at sub_items_of
  sub_item_stands = go (bodies t (walk user)) body_stands
    where
      go : (bs : List (List ℕ)) → take (length (first bs)) (drop (74 + from + place t (walk user)) x) ≡ first bs
          → take (length (first bs)) (drop (cond (empty bs) 0 (74 + from + place t (walk user))) x) ≡ first bs
      go [] h = refl
      go (b ∷ bs) h = h

pub class_stands : (x : List ℕ) → take (sub_item_len 0x52 x) (drop (sub_item_at 0x52 x) x) ≡ class_said (sub_items_of x)
class_stands = sub_item_stands 0x52

pub version_stands : (x : List ℕ) → take (sub_item_len 0x55 x) (drop (sub_item_at 0x55 x) x) ≡ version_said (sub_items_of x)
version_stands = sub_item_stands 0x55

-- ---- the sheets
module _ (kind : ℕ) (x s t : List ℕ) (r : Associate) (s' t' : List ℕ) (w : Read kind x s t r s' t') where
  -- the refusal is the first that applies
  pub refusal_is : r.refusal ≡ associate_refusal kind x (length s) (length t)
  unfolding associate_of
  refusal_is =
      ap (λ (q : Associate). q.refusal) w.answer ∙ go (associate_refusal kind x (length s) (length t)) (eqb (associate_refusal kind x (length s) (length t)) 0) refl
    where
      go : (n : ℕ) (b : Bool) → eqb n 0 ≡ b → (cond b (fields_of kind x) (refused n)).refusal ≡ n
      go n true e = sym (eqb-true n 0 e)
      go n false e = refl

  -- "Every refusal .. output stay unchanged": here both sheets
  pub untouched : (r.refusal ≡ 0 → ⊥) → (s' ≡ s) × (t' ≡ t)
  unfolding filling roles_filling front
  untouched n =
      let z = ne_eqb (associate_refusal kind x (length s) (length t)) 0 (λ e. n (refusal_is ∙ e)) in
      (w.sheet ∙ rw z, w.roles ∙ rw z)

-- "room is 132 times the records"
pub request_records : (x : List ℕ) → kind_of x ≡ ASSOCIATE-RQ → length (sheet_in ASSOCIATE-RQ x) ≡ RECORD * (length (sheet_in ASSOCIATE-RQ x) / RECORD)
request_records x v = let e = proposal_whole (sheet_in ASSOCIATE-RQ x) (request_sheet_good x v) in omega arith

pub accept_records : (x : List ℕ) → kind_of x ≡ ASSOCIATE-AC → length (sheet_in ASSOCIATE-AC x) ≡ RECORD * (length (sheet_in ASSOCIATE-AC x) / RECORD)
accept_records x v = let e = answers_whole (sheet_in ASSOCIATE-AC x) (accept_sheet_good x v) in omega arith
