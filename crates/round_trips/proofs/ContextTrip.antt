-- The contexts of an RQ and the answers of an AC, each in its item's body: what is written is good and reads back, and what is read is written in no more bytes, but for a refused context, which may take 4 more.
-- Assumes nothing.
use Prim.Native.Nat.{ℕ, ◌+◌, ◌*◌, ◌≤◌, ◌<◌}
use native.Mathlib.Omega.{arith}
use mathlib.Core.Bool.{Bool, true, false, ◌&&◌, cond}
use mathlib.Core.List.{List, [], ◌∷◌, map, append-nil}
use mathlib.Core.Path.{◌≡◌, refl, sym, ap, ◌∙◌}
use lib.ListN.{length, drop, get_or, replicate, length-append, length-drop}
use lib.Dec.{leb, eqb}
use borrow.Author.Tests.{le-leb, eqb-true}
use Rattle.laws.specs.Lists.{all, empty, among, distinct}
use Rattle.laws.proofs.Booleans.{held, left_of, right_of, both_of}
use Rattle.names.specs.Name.{name_ok}
use Rattle.items.specs.Items.{Walk, done, item, walk, filled, bodies, first, types, only, good_bodies, holds}
use Rattle.items.specs.Wire.{item_bytes, items_bytes}
use Rattle.items.proofs.WalkLaws.{walk_nil}
use Rattle.items.proofs.WireLaws.{item_length, walk_item, walk_last, run, items_cons, walk_items, bodies_run, written}
use Rattle.numbers.specs.Results.{ACCEPTED}
use Rattle.octets.specs.Octets.{odd}
use Rattle.contents.specs.Contents.{context_known, answer_known, named, context_order, subs_ok, good_20h, one, transfer_item_ok as walkedOk, good_21h, context_good, body_id}
use Rattle.contents.proofs.GoodLaws.{four_20, filled_20, counts_20, one_filled, one_count, four_21, one_21}
use Rattle.sheets.specs.Contexts.{Context, Answered, context_id, answered_id, context_ok, answered_ok, transfer_name_ok}
use Rattle.reading.specs.Associate.{context_of, transfer_in, answer_of}
use Rattle.sheet_room.proofs.Sizes.{sizes_of}
use Rattle.writing.specs.Wire.{context_body, answer_body}
use Rattle.round_trips.specs.Trips.{refusals}
use Rattle.round_trips.proofs.PduTrip.{Apart}
use Rattle.round_trips.proofs.Share.{shares, items_size, first_size}

-- ---- a context
walk_context : (c : Context) → length (context_body c) < 65536 → walk (drop 4 (context_body c)) ≡ item 0x30 c.abstr (run 0x40 c.transfers done)
unfolding context_body
walk_context c h =
    let l = length-append (item_bytes 0x30 c.abstr) (items_bytes 0x40 c.transfers) in
    let k = item_length 0x30 c.abstr in
    walk_item 0x30 c.abstr (items_bytes 0x40 c.transfers) (omega arith)
    ∙ ap (item 0x30 c.abstr) (ap walk (sym (append-nil (items_bytes 0x40 c.transfers))) ∙ (walk_items 0x40 c.transfers [] (omega arith) ∙ ap (run 0x40 c.transfers) walk_nil))

pub context_back : (c : Context) → context_ok c ≡ true → length (context_body c) < 65536 → context_of (context_body c) ≡ c
unfolding context_of bodies context_body
context_back c k h =
    let w = walk_context c h in
    let a : first (bodies 0x30 (walk (drop 4 (context_body c)))) ≡ c.abstr = ap (λ (v : Walk). first (bodies 0x30 v)) w in
    let b : bodies 0x40 (walk (drop 4 (context_body c))) ≡ c.transfers = ap (bodies 0x40) w ∙ (bodies_run 0x40 c.transfers done ∙ append-nil c.transfers) in
    λ i. record { id = c.id; abstr = a i; transfers = b i }

-- a 30H and 40Hs
subs_held : (x : List ℕ) (xs : List (List ℕ)) → name_ok x ≡ true → all name_ok xs ≡ true → holds context_known named (context_order (length xs)) (item 0x30 x (run 0x40 xs done)) ≡ true
unfolding good_bodies bodies filled types only among
subs_held x xs n q =
    ap (λ (l : List ℕ). holds context_known named (0x30 ∷ l) (item 0x30 x (run 0x40 xs done))) (sym (append-nil (replicate (length xs) 0x40)))
    ∙ written context_known named 0x30 0x40 x xs done refl refl n q refl refl

subs_written : (x : List ℕ) (xs : List (List ℕ)) → name_ok x ≡ true → leb 1 (length xs) ≡ true → all name_ok xs ≡ true → subs_ok (item 0x30 x (run 0x40 xs done)) ≡ true
unfolding subs_ok bodies
subs_written x xs n p q = rw (bodies_run 0x40 xs done, append-nil xs) (both_of _ _ p (subs_held x xs n q))

pub context_good_so : (c : Context) → context_ok c ≡ true → length (context_body c) < 65536 → context_good 0x20 (context_body c) ≡ true
unfolding context_good good_20h context_ok context_body
context_good_so c k h =
    let k₂ : (name_ok c.abstr && (leb 1 (length c.transfers) && all name_ok c.transfers)) ≡ true = right_of (odd c.id) _ k in
    let k₃ : (leb 1 (length c.transfers) && all name_ok c.transfers) ≡ true = right_of (name_ok c.abstr) _ k₂ in
    let w : subs_ok (walk (drop 4 (context_body c))) ≡ true = ap subs_ok (walk_context c h) ∙ subs_written c.abstr c.transfers (left_of _ _ k₂) (left_of _ _ k₃) (right_of (leb 1 (length c.transfers)) _ k₃) in
    both_of _ _ (le-leb 4 (length (context_body c)) (omega arith)) (both_of (odd c.id) _ (left_of _ _ k) w)

pub context_short : (b : List ℕ) → context_good 0x20 b ≡ true → length (context_body (context_of b)) ≤ length b
unfolding context_good context_body context_of sizes_of distinct among
context_short b g =
    let a = item_length 0x30 (first (bodies 0x30 (walk (drop 4 b)))) in
    let l = length-append (item_bytes 0x30 (first (bodies 0x30 (walk (drop 4 b))))) (items_bytes 0x40 (bodies 0x40 (walk (drop 4 b)))) in
    let c = (counts_20 b g).abstracts in
    let f = first_size (bodies 0x30 (walk (drop 4 b))) (omega arith) in
    let i = items_size 0x40 (bodies 0x40 (walk (drop 4 b))) in
    let t = shares (0x30 ∷ 0x40 ∷ []) refl (drop 4 b) (filled_20 b g) in
    let d = length-drop 4 b in
    let n = four_20 b g in
    omega arith

-- ---- an answer
walk_answer : (c : Answered) → length (answer_body c) < 65536 → walk (drop 4 (answer_body c)) ≡ item 0x40 c.transfer done
unfolding answer_body
walk_answer c h = let k = item_length 0x40 c.transfer in walk_last 0x40 c.transfer (omega arith)

-- an accepted one has a name, a refused one none
none : (x : List ℕ) → empty x ≡ true → [] ≡ x
none [] e = refl
none (y ∷ x) e = absurd (held false e)

module _ (c : Answered) (k : answered_ok c ≡ true) (h : length (answer_body c) < 65536) where
  answer_parts : (odd c.id && (leb c.result 4 && transfer_name_ok c.result c.transfer)) ≡ true
  unfolding answered_ok
  answer_parts = k

  result_and_name : (leb c.result 4 && transfer_name_ok c.result c.transfer) ≡ true
  result_and_name = right_of (odd c.id) _ answer_parts

  transfer_back : transfer_in (answer_body c) ≡ c.transfer
  unfolding transfer_in transfer_name_ok answer_body bodies
  transfer_back = go (eqb c.result ACCEPTED) (right_of (leb c.result 4) _ result_and_name)
    where
      go : (d : Bool) → cond d (name_ok c.transfer) (empty c.transfer) ≡ true → cond d (first (bodies 0x40 (walk (drop 4 (answer_body c))))) [] ≡ c.transfer
      go true n = ap (λ (v : Walk). first (bodies 0x40 v)) (walk_answer c h)
      go false n = none c.transfer n

  pub answer_back : answer_of (answer_body c) ≡ c
  unfolding answer_of answer_body
  answer_back = λ i. record { id = c.id; result = c.result; transfer = transfer_back i }

  behind_good : walkedOk c.result (walk (drop 4 (answer_body c))) ≡ true
  unfolding transfer_name_ok walkedOk one filled bodies good_bodies
  behind_good = ap (walkedOk c.result) (walk_answer c h) ∙ go (eqb c.result ACCEPTED) (right_of (leb c.result 4) _ result_and_name)
    where
      go : (d : Bool) → cond d (name_ok c.transfer) (empty c.transfer) ≡ true
          → cond d (one 0x40 (item 0x40 c.transfer done) && good_bodies answer_known named (item 0x40 c.transfer done)) true ≡ true
      go true n = rw n
      go false n = refl

  pub answer_good : context_good 0x21 (answer_body c) ≡ true
  unfolding context_good good_21h answer_body
  answer_good =
      both_of _ _ (le-leb 4 (length (answer_body c)) (omega arith)) (both_of (odd c.id) _ (left_of _ _ answer_parts) (both_of (leb c.result 4) _ (left_of _ _ result_and_name) behind_good))

-- a refused one of four bytes is written with eight
abbrev pub answer_grows : Answered → ℕ
answer_grows c = cond (eqb c.result ACCEPTED) 0 4

pub answer_short : (b : List ℕ) → context_good 0x21 b ≡ true → length (answer_body (answer_of b)) ≤ length b + answer_grows (answer_of b)
unfolding context_good answer_body answer_of transfer_in sizes_of distinct among
answer_short b g = let l = go (eqb (get_or b 2 0) ACCEPTED) refl in omega arith
  where
    go : (d : Bool) → eqb (get_or b 2 0) ACCEPTED ≡ d → 4 + length (item_bytes 0x40 (cond d (first (bodies 0x40 (walk (drop 4 b)))) [])) ≤ length b + cond d 0 4
    go true e =
        let o = one_21 b g (eqb-true _ _ e) in
        let n = one_count 0x40 (walk (drop 4 b)) o in
        let f = first_size (bodies 0x40 (walk (drop 4 b))) (omega arith) in
        let t = shares (0x40 ∷ []) refl (drop 4 b) (one_filled 0x40 (walk (drop 4 b)) o) in
        let d = length-drop 4 b in
        let m = four_21 b g in
        let a = item_length 0x40 (first (bodies 0x40 (walk (drop 4 b)))) in
        omega arith
    go false e = let m = four_21 b g in let a = item_length 0x40 [] in omega arith

-- ---- both as one: what is of this kind, in items of this type
pub record ContextKind (C : Type 0) : Type 0 where
  pub type : ℕ
  pub read : List ℕ → C
  pub body : C → List ℕ
  pub ok : C → Bool
  pub id : C → ℕ
  -- how many bytes longer than the body that it was read from its own may be
  pub grows : C → ℕ
  pub reads_back : (c : C) → ok c ≡ true → length (body c) < 65536 → read (body c) ≡ c
  pub writes_good : (c : C) → ok c ≡ true → length (body c) < 65536 → context_good type (body c) ≡ true
  pub writes_id : (c : C) → body_id (body c) ≡ id c
  pub short : (b : List ℕ) → context_good type b ≡ true → length (body (read b)) ≤ length b + grows (read b)
  pub apart : Apart type

pub context_id_so : (c : Context) → body_id (context_body c) ≡ context_id c
unfolding context_body
context_id_so c = refl

pub answer_id : (c : Answered) → body_id (answer_body c) ≡ answered_id c
unfolding answer_body
answer_id c = refl

abbrev pub proposing : ContextKind Context
proposing =
    record {
      type = 0x20;
      read = context_of;
      body = context_body;
      ok = context_ok;
      id = context_id;
      grows = λ c. 0;
      reads_back = context_back;
      writes_good = context_good_so;
      writes_id = context_id_so;
      short = λ b g. let l = context_short b g in omega arith;
      apart = record { name = refl; name' = refl; user = refl; user' = refl };
    }

abbrev pub answering : ContextKind Answered
answering =
    record {
      type = 0x21;
      read = answer_of;
      body = answer_body;
      ok = answered_ok;
      id = answered_id;
      grows = answer_grows;
      reads_back = answer_back;
      writes_good = answer_good;
      writes_id = answer_id;
      short = answer_short;
      apart = record { name = refl; name' = refl; user = refl; user' = refl };
    }

-- ---- lists of them: good, read back, and with the same IDs
pub record Bodies {C : Type 0} (k : ContextKind C) (cs : List C) : Type 0 where
  pub back : map k.read (map k.body cs) ≡ cs
  pub good : all (context_good k.type) (map k.body cs) ≡ true
  pub ids : map body_id (map k.body cs) ≡ map k.id cs

module _ {C : Type 0} (k : ContextKind C) where
  pub bodies_back : (cs : List C) → all k.ok cs ≡ true → length (items_bytes k.type (map k.body cs)) < 65536 → Bodies k cs
  bodies_back [] q h = record { back = refl; good = refl; ids = refl }
  bodies_back (c ∷ cs) q h =
      let l = items_cons k.type (k.body c) (map k.body cs) in
      let r = bodies_back cs (right_of (k.ok c) _ q) (omega arith) in
      let b = k.reads_back c (left_of _ _ q) (omega arith) in
      let n = k.writes_id c in
      record {
        back = λ i. b i ∷ r.back i;
        good = both_of _ _ (k.writes_good c (left_of _ _ q) (omega arith)) r.good;
        ids = λ i. n i ∷ r.ids i;
      }

  -- read and written again
  abbrev pub grown : List C → ℕ
  grown [] = 0
  grown (c ∷ cs) = k.grows c + grown cs

  pub bodies_short : (bs : List (List ℕ)) → all (context_good k.type) bs ≡ true
      → length (items_bytes k.type (map k.body (map k.read bs))) ≤ length (items_bytes k.type bs) + grown (map k.read bs)
  bodies_short [] q = omega arith
  bodies_short (b ∷ bs) q =
      let r = bodies_short bs (right_of (context_good k.type b) _ q) in
      let c = k.short b (left_of _ _ q) in
      let i = items_cons k.type b bs in
      let j = items_cons k.type (k.body (k.read b)) (map k.body (map k.read bs)) in
      omega arith

pub none_grown : (cs : List Context) → grown proposing cs ≡ 0
none_grown [] = refl
none_grown (c ∷ cs) = let r = none_grown cs in omega arith

pub refused_grown : (cs : List Answered) → grown answering cs ≡ 4 * refusals cs
unfolding refusals
refused_grown [] = refl
refused_grown (c ∷ cs) = go (eqb c.result ACCEPTED) (refused_grown cs)
  where
    go : (d : Bool) → grown answering cs ≡ 4 * refusals cs → cond d 0 4 + grown answering cs ≡ 4 * (cond d 0 1 + refusals cs)
    go true e = omega arith
    go false e = omega arith
