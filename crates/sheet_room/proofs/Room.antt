-- How much room the sheets of a valid RQ or AC can take: 3,257 records in a proposal, 128 in an answer, 1,810 in the role sheet of either. Sheets with that room are never
-- too short to read into.
-- Assumes nothing.
use Prim.Native.Nat.{ℕ, zero, suc, ◌+◌, ◌*◌, ◌/◌, ◌≤◌, ◌<◌}
use native.Mathlib.Omega.{arith}
use mathlib.Core.Bool.{Bool, true, false, not, ◌&&◌, cond}
use mathlib.Core.List.{List, [], ◌∷◌, map}
use mathlib.Core.Path.{◌≡◌, refl, sym, ap, ◌∙◌}
use lib.ListN.{length, take, drop, get_or, length-append, length-take, length-drop}
use lib.Seq.{get_or-take, get_or-drop}
use lib.Dec.{leb, ltb, eqb}
use borrow.Author.Tests.{leb-true, le-ltb, lt-ltb, eqb-true}
use Rattle.laws.specs.Lists.{all, records, among, distinct}
use Rattle.laws.proofs.Booleans.{left_of, right_of, both_of, all_mapped}
use Rattle.numbers.specs.Refusals.{NOT-REFUSED, SHORT-OUTPUT, NO-SUCH-PDU}
use Rattle.numbers.specs.Lengths.{RECORD}
use Rattle.numbers.specs.Kinds.{ASSOCIATE-RQ, ASSOCIATE-AC}
use Rattle.octets.specs.Octets.{be16, odd}
use Rattle.names.specs.Name.{name_ok}
use Rattle.names.proofs.NameLaws.{name_short}
use Rattle.items.specs.Items.{Walk, walk, bodies, first}
use Rattle.items.proofs.HoldLaws.{first_good}
use Rattle.roles.specs.Role.{role_ok}
use Rattle.user_items.specs.Kinds.{uid_in, role_of, good_54h, good_50h}
use Rattle.user_items.proofs.GoodLaws.{user_filled, maximum_one, maximum_length, roles_good, user_size}
use Rattle.contents.specs.Contents.{body_id, good_20h, top_good, items_ok}
use Rattle.contents.proofs.GoodLaws.{four_20, filled_20, abstract_names, transfer_names, counts_20, abstract_name, items_filled, items_some, items_good, items_counts, items_20, items_50}
use Rattle.judging.specs.Pdu.{kind_of}
use Rattle.judging.proofs.KindLaws.{whole_length, whole_limit, kind_whole, request_items, accept_items}
use Rattle.sheets.specs.Contexts.{Answered, answered_id, answered_ok, all_answered_ok}
use Rattle.sheets.specs.Sheet.{context_records, sheet_of, records_of, record_id, answered_of, answers_in, answers_ok}
use Rattle.sheets.proofs.RecordLaws.{record_length}
use Rattle.sheets.proofs.Inverse.{answers_answered, answers_length}
use Rattle.reading.specs.Associate.{context_of, answer_of, proposed, answered, sub_items_of, sheet_in, roles_sheet_in, associate_refusal, Read}
use Rattle.reading.specs.Associate.{Associate}
use Rattle.reading.proofs.ReadLaws.{either}
use Rattle.reading.proofs.Meaning.{refusal_is, roles_room, request_records, accept_sheet_good, accept_sheet_back}
use Rattle.sheet_room.proofs.Sizes.{sizes, sizes_of, sizes_most, by_items, size_filled}
use Rattle.sheet_room.proofs.Distinct.{ids_most}

-- ---- the bytes that items take: of names, five or more each
name_some : (s : List ℕ) → name_ok s ≡ true → 1 ≤ length s
unfolding name_ok
name_some s e = leb-true 1 (length s) (left_of (leb 1 (length s)) (leb (length s) 64) (left_of (leb 1 (length s) && leb (length s) 64) _ e))

names_size : (bs : List (List ℕ)) → all name_ok bs ≡ true → 5 * length bs ≤ sizes bs
unfolding sizes
names_size [] g = omega arith
names_size (b ∷ bs) g = let l = name_some b (left_of _ _ g) in let r = names_size bs (right_of (name_ok b) _ g) in omega arith

-- a good 20H: four bytes, a 30H, and five bytes or more for each 40H
context_size : (b : List ℕ) → good_20h b ≡ true → 13 + 5 * length (bodies 0x40 (walk (drop 4 b))) ≤ 4 + length b
unfolding sizes_of distinct among
context_size b g =
    let m = sizes_most (0x30 ∷ 0x40 ∷ []) refl (walk (drop 4 b)) in
    let f = size_filled (drop 4 b) (filled_20 b g) in
    let l = length-drop 4 b in
    let h = four_20 b g in
    let a = names_size (bodies 0x30 (walk (drop 4 b))) (abstract_names b g) in
    let n = (counts_20 b g).abstracts in
    let t = names_size (bodies 0x40 (walk (drop 4 b))) (transfer_names b g) in
    omega arith

-- the one item of a type
first_size : (bs : List (List ℕ)) → length bs ≡ 1 → sizes bs ≡ 4 + length (first bs)
unfolding sizes
first_size [] e = absurd (omega arith)
first_size (b ∷ []) e = omega arith
first_size (b ∷ c ∷ bs) e = absurd (omega arith)

-- a good 54H: a length, a name, two roles
role_size : (b : List ℕ) → good_54h b ≡ true → 5 ≤ length b
unfolding good_54h role_ok role_of uid_in
role_size b g =
    let e : length b ≡ 2 + be16 b 0 + 2 = eqb-true _ _ (left_of _ (role_ok (role_of b)) g) in
    let n = name_some (uid_in b) (left_of _ _ (right_of (eqb (length b) (2 + be16 b 0 + 2)) _ g)) in
    let l = length-take (be16 b 0) (drop 2 b) in
    omega arith

roles_size_so : (bs : List (List ℕ)) → all good_54h bs ≡ true → 9 * length bs ≤ sizes bs
unfolding sizes
roles_size_so [] g = omega arith
roles_size_so (b ∷ bs) g = let l = role_size b (left_of _ _ g) in let r = roles_size_so bs (right_of (good_54h b) _ g) in omega arith

-- a good 50H: the 51H, and nine bytes or more for each 54H
user_roles : (b : List ℕ) → good_50h b ≡ true → 8 + 9 * length (bodies 0x54 (walk b)) ≤ length b
unfolding sizes_of distinct among
user_roles b g =
    let m = sizes_most (0x51 ∷ 0x54 ∷ []) refl (walk b) in
    let f = size_filled b (user_filled b g) in
    let l = first_size (bodies 0x51 (walk b)) (maximum_one b g) in
    let n = maximum_length b g in
    let r = roles_size_so (bodies 0x54 (walk b)) (roles_good b g) in
    omega arith

-- the one body of a type is good, and so takes at least as many bytes as a good one does
one_size : (p : List ℕ → Bool) (n : ℕ) → ((b : List ℕ) → p b ≡ true → n ≤ length b) → (bs : List (List ℕ)) → length bs ≡ 1 → all p bs ≡ true → 4 + n ≤ sizes bs
one_size p n f bs e g = let s = first_size bs e in let l = f (first bs) (first_good p bs (omega arith) g) in omega arith

-- ---- a proposal: 132 bytes for each 40H
records_size : (id : ℕ) (a : List ℕ) (xs : List (List ℕ)) → name_ok a ≡ true → all name_ok xs ≡ true → length (context_records id a xs) ≡ 132 * length xs
unfolding context_records
records_size id a [] h g = refl
records_size id a (x ∷ xs) h g =
    let l = record_length id 0 a x (name_short a h) (name_short x (left_of _ _ g)) in
    let r = records_size id a xs h (right_of (name_ok x) _ g) in
    simp length-append (omega arith)

proposed_size : (bs : List (List ℕ)) → all good_20h bs ≡ true → 5 * length (sheet_of (map context_of bs)) + 132 * 13 * length bs ≤ 132 * sizes bs
unfolding sheet_of context_of sizes
proposed_size [] g = omega arith
proposed_size (b ∷ bs) g =
    let o : good_20h b ≡ true = left_of _ _ g in
    let c = context_size b o in
    let l = records_size (get_or b 0 0) (first (bodies 0x30 (walk (drop 4 b)))) (bodies 0x40 (walk (drop 4 b))) (abstract_name b o) (transfer_names b o) in
    let r = proposed_size bs (right_of (good_20h b) _ g) in
    simp length-append (omega arith)

-- ---- an answer
answered_odd : (c : Answered) → answered_ok c ≡ true → odd (answered_id c) ≡ true
unfolding answered_ok
answered_odd c g = left_of _ _ g

answered_ids : (bs : List (List ℕ)) → map answered_id (map answer_of bs) ≡ map body_id bs
unfolding answer_of
answered_ids [] = refl
answered_ids (b ∷ bs) = ap (λ (l : List ℕ). body_id b ∷ l) (answered_ids bs)

-- an ID is one of the bytes
first_byte : (n : ℕ) (s : List ℕ) → ((i : ℕ) → get_or s i 0 < 256) → get_or (take n (drop 4 s)) 0 0 < 256
first_byte zero s h = omega arith
first_byte (suc n) s h = let k = h 4 in rw (get_or-take (suc n) (drop 4 s) 0 0 (omega arith), get_or-drop 4 s 0 0) k

ids_bytes : (k : ℕ) (s : List ℕ) → ((i : ℕ) → get_or s i 0 < 256) → all (λ x. ltb x 256) (map body_id (bodies k (walk s))) ≡ true
unfolding bodies
ids_bytes k =
    by_items (λ s w. ((i : ℕ) → get_or s i 0 < 256) → all (λ x. ltb x 256) (map body_id (bodies k w)) ≡ true) (λ h. refl) (λ s h. refl) (λ s n w l r h.
    go s n w (eqb (get_or s 0 0) k) (lt-ltb _ _ (first_byte n s h)) (r (λ i. rw (get_or-drop (4 + n) s i 0) (h (4 + n + i)))))
  where
    go : (s : List ℕ) (n : ℕ) (w : Walk) (d : Bool) → ltb (get_or (take n (drop 4 s)) 0 0) 256 ≡ true → all (λ x. ltb x 256) (map body_id (bodies k w)) ≡ true
        → all (λ x. ltb x 256) (map body_id (cond d (take n (drop 4 s) ∷ bodies k w) (bodies k w))) ≡ true
    go s n w true p q = both_of _ _ p q
    go s n w false p q = q

-- and so it is of a record
cut_bytes : (n : ℕ) (s : List ℕ) → ((i : ℕ) → get_or s i 0 < 256) → all (λ r. ltb (record_id r) 256) (records RECORD n s) ≡ true
cut_bytes zero s b = refl
cut_bytes (suc n) s b =
    let h = b 0 in
    both_of _ _ (lt-ltb (record_id (take RECORD s)) 256 (rw (get_or-take RECORD s 0 0 (omega arith)) h)) (cut_bytes n (drop RECORD s) (λ i. rw (get_or-drop RECORD s i 0) (b (RECORD + i))))

pub records_bytes : (s : List ℕ) → ((i : ℕ) → get_or s i 0 < 256) → all (λ r. ltb (record_id r) 256) (records_of s) ≡ true
unfolding records_of
records_bytes s b = cut_bytes (length s / RECORD) s b

-- ---- a good answer sheet has at most 128 records, one for each odd number that a byte can be
answers_bytes : (rs : List (List ℕ)) → all (λ r. ltb (record_id r) 256) rs ≡ true → all (λ x. ltb x 256) (map answered_id (map answered_of rs)) ≡ true
unfolding answered_of
answers_bytes rs g =
    all_mapped (λ c. ltb (answered_id c) 256) (λ x. ltb x 256) answered_id (λ c e. e) (map answered_of rs)
    (all_mapped (λ r. ltb (record_id r) 256) (λ c. ltb (answered_id c) 256) answered_of (λ r e. e) rs g)

pub answers_most : (s : List ℕ) → ((i : ℕ) → get_or s i 0 < 256) → answers_ok s ≡ true → length (answers_in s) ≤ 128
unfolding all_answered_ok answers_in
answers_most s b g = ids_most answered_ok answered_id answered_odd (answers_in s) (answers_answered s g) (answers_bytes (records_of s) (records_bytes s b))

-- ---- the most that a valid PDU can fill
-- an RQ: PDU-length 16,384, of which 68 are fixed, 5 for a 10H, 12 for a 50H, 13 for a 20H and 5 for each of its 40H
pub proposal_most : (x : List ℕ) → kind_of x ≡ ASSOCIATE-RQ → length (sheet_in ASSOCIATE-RQ x) ≤ 132 * 3257
unfolding sheet_in proposed top_good sizes_of distinct among
proposal_most x v =
    let s : List ℕ = drop 74 x in
    let g = request_items x v in
    let w = kind_whole x 1 v (λ z. omega arith) in
    let l = whole_length x w in
    let h = whole_limit x w in
    let d = length-drop 74 x in
    let c = items_counts 0x20 s g refl refl in
    let c1 = c.applications in
    let c2 = c.contexts in
    let c3 = c.users in
    let f = size_filled s (items_filled 0x20 s g) in
    let m = sizes_most (0x10 ∷ 0x20 ∷ 0x50 ∷ []) refl (walk s) in
    let a = one_size name_ok 1 name_some (bodies 0x10 (walk s)) c1 (items_good 0x20 s g 0x10 refl) in
    let u = one_size good_50h 8 user_size (bodies 0x50 (walk s)) c3 (items_good 0x20 s g 0x50 refl) in
    let p = proposed_size (bodies 0x20 (walk s)) (items_20 s g) in
    let e = request_records x v in
    omega arith

-- either, with k for the type of a context: 68 are fixed, 5 for a 10H, 4 for a context, 12 for a 50H and 9 for each of its 54H
some_size : (bs : List (List ℕ)) → 4 * length bs ≤ sizes bs
unfolding sizes
some_size [] = omega arith
some_size (b ∷ bs) = let r = some_size bs in omega arith

items_roles : (k : ℕ) (s : List ℕ) → items_ok k s ≡ true → distinct (0x10 ∷ k ∷ 0x50 ∷ []) ≡ true → eqb k 0x10 ≡ false → eqb k 0x50 ≡ false → eqb 0x50 k ≡ false
    → 21 + 9 * length (bodies 0x54 (walk (first (bodies 0x50 (walk s))))) ≤ length s
unfolding top_good sizes_of among
items_roles k s g d e h i =
    let c = items_counts k s g e h in
    let c1 = c.applications in
    let c2 : 1 ≤ length (bodies k (walk s)) = leb-true _ _ (items_some k s g) in
    let c3 = c.users in
    let f = size_filled s (items_filled k s g) in
    let m = sizes_most (0x10 ∷ k ∷ 0x50 ∷ []) d (walk s) in
    let a = one_size name_ok 1 name_some (bodies 0x10 (walk s)) c1 (items_good k s g 0x10 refl) in
    let b = some_size (bodies k (walk s)) in
    let u = first_size (bodies 0x50 (walk s)) c3 in
    let r = user_roles (first (bodies 0x50 (walk s))) (items_50 k s g e h i) in
    omega arith

pub roles_most : (kind : ℕ) (x : List ℕ) → ASSOCIATE-RQ ≤ kind → kind ≤ ASSOCIATE-AC → kind_of x ≡ kind → length (roles_sheet_in x) ≤ 68 * 1810
unfolding sub_items_of distinct among
roles_most kind x a b v =
    let w = kind_whole x kind v (λ z. omega arith) in
    let l = whole_length x w in
    let h = whole_limit x w in
    let d = length-drop 74 x in
    let n : 21 + 9 * length (bodies 0x54 (walk (first (bodies 0x50 (walk (drop 74 x)))))) ≤ length (drop 74 x)
    = either kind a b (λ (k : ℕ). kind_of x ≡ k → 21 + 9 * length (bodies 0x54 (walk (first (bodies 0x50 (walk (drop 74 x)))))) ≤ length (drop 74 x))
    (λ e. items_roles 0x20 (drop 74 x) (request_items x e) refl refl refl refl) (λ e. items_roles 0x21 (drop 74 x) (accept_items x e) refl refl refl refl) v in
    let r = roles_room kind x a b v in
    omega arith

-- an AC: the 128 odd numbers that a byte can be. The PDU is a list of bytes, that is, of numbers below 256
pub answer_most : (x : List ℕ) → ((i : ℕ) → get_or x i 0 < 256) → kind_of x ≡ ASSOCIATE-AC → length (sheet_in ASSOCIATE-AC x) ≤ 132 * 128
unfolding answered all_answered_ok
answer_most x b v =
    let e = accept_sheet_back x v in
    let g = ap all_answered_ok (sym e) ∙ answers_answered (sheet_in ASSOCIATE-AC x) (accept_sheet_good x v) in
    let y = ap (all (λ n. ltb n 256)) (answered_ids (bodies 0x21 (walk (drop 74 x)))) ∙ ids_bytes 0x21 (drop 74 x) (λ i. rw (get_or-drop 74 x i 0) (b (74 + i))) in
    let n = ids_most answered_ok answered_id answered_odd (answered x) g y in
    let l = answers_length (sheet_in ASSOCIATE-AC x) (accept_sheet_good x v) in
    let m = ap length e in
    omega arith

-- ---- so sheets with that room are never too short
enough : (kind room rolesRoom most : ℕ) (x : List ℕ) → ASSOCIATE-RQ ≤ kind → kind ≤ ASSOCIATE-AC → (kind_of x ≡ kind → length (sheet_in kind x) ≤ most) → most ≤ room → 68 * 1810 ≤ rolesRoom
    → associate_refusal kind x room rolesRoom ≡ SHORT-OUTPUT → ⊥
enough kind room rolesRoom most x a b f h g = go (eqb (kind_of x) kind) refl
  where
    go : (d : Bool) → eqb (kind_of x) kind ≡ d
        → cond (not d) NO-SUCH-PDU (cond (ltb room (length (sheet_in kind x))) SHORT-OUTPUT (cond (ltb rolesRoom (length (roles_sheet_in x))) SHORT-OUTPUT NOT-REFUSED)) ≡ SHORT-OUTPUT → ⊥
    go false q e = absurd (omega arith)
    go true q e =
        let l = f (eqb-true _ _ q) in
        let m = roles_most kind x a b (eqb-true _ _ q) in
        let t : ltb room (length (sheet_in kind x)) ≡ false = le-ltb room (length (sheet_in kind x)) (omega arith) in
        let u : ltb rolesRoom (length (roles_sheet_in x)) ≡ false = le-ltb rolesRoom (length (roles_sheet_in x)) (omega arith) in
        let z : NOT-REFUSED ≡ SHORT-OUTPUT = simp (t, u) at e in
        omega arith

pub proposal_room : (x : List ℕ) (room rolesRoom : ℕ) → 132 * 3257 ≤ room → 68 * 1810 ≤ rolesRoom → associate_refusal ASSOCIATE-RQ x room rolesRoom ≡ SHORT-OUTPUT → ⊥
proposal_room x room rolesRoom h g = enough ASSOCIATE-RQ room rolesRoom (132 * 3257) x (omega arith) (omega arith) (proposal_most x) h g

pub answer_room : (x : List ℕ) → ((i : ℕ) → get_or x i 0 < 256) → (room rolesRoom : ℕ) → 132 * 128 ≤ room → 68 * 1810 ≤ rolesRoom → associate_refusal ASSOCIATE-AC x room rolesRoom ≡ SHORT-OUTPUT → ⊥
answer_room x b room rolesRoom h g = enough ASSOCIATE-AC room rolesRoom (132 * 128) x (omega arith) (omega arith) (answer_most x b) h g

-- and no call that keeps the contract of `read_request` or `read_accept` says so
pub request_never_short : (x s t : List ℕ) (r : Associate) (s' t' : List ℕ) → Read ASSOCIATE-RQ x s t r s' t' → 132 * 3257 ≤ length s → 68 * 1810 ≤ length t → r.refusal ≡ SHORT-OUTPUT → ⊥
request_never_short x s t r s' t' w h g e = proposal_room x (length s) (length t) h g (sym (refusal_is ASSOCIATE-RQ x s t r s' t' w) ∙ e)

pub accept_never_short : (x s t : List ℕ) (r : Associate) (s' t' : List ℕ) → ((i : ℕ) → get_or x i 0 < 256) → Read ASSOCIATE-AC x s t r s' t' → 132 * 128 ≤ length s → 68 * 1810 ≤ length t
    → r.refusal ≡ SHORT-OUTPUT → ⊥
accept_never_short x s t r s' t' b w h g e = answer_room x b (length s) (length t) h g (sym (refusal_is ASSOCIATE-AC x s t r s' t' w) ∙ e)
