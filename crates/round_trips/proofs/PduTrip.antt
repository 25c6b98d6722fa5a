-- An RQ or AC as it is written, walked over: its parts stand where reading looks for them, and its items are good.
-- Assumes nothing.
use Prim.Native.Nat.{ℕ, ◌+◌, ◌≤◌, ◌<◌}
use native.Mathlib.Omega.{arith}
use native.Mathlib.Nat.{zero-add}
use mathlib.Core.Bool.{Bool, true, false, or-true}
use mathlib.Core.List.{List, [], ◌∷◌, ◌++◌, map, append-nil}
use mathlib.Core.Path.{◌≡◌, refl, sym, ap, ◌∙◌}
use lib.ListN.{length, take, drop, replicate, length-append}
use lib.Seq.{take_at, drop_at}
use lib.Dec.{leb, eqb}
use borrow.Author.Tests.{le-leb, eq-eqb}
use Rattle.laws.specs.Lists.{all, among, distinct}
use Rattle.laws.proofs.Booleans.{both_of}
use Rattle.octets.specs.Octets.{be16, be32}
use Rattle.names.specs.Name.{name_ok}
use Rattle.items.specs.Items.{Walk, done, item, walk, filled, bodies, first, place, types, only, good_bodies, holds}
use Rattle.items.specs.Wire.{item_bytes, items_bytes}
use Rattle.items.proofs.WireLaws.{walk_item, walk_last, run, items_cons, walk_items, bodies_run, bodies_past, written}
use Rattle.user_items.specs.Kinds.{good_50h}
use Rattle.contents.specs.Contents.{top_known, context_good, top_good, top_order, top_ok, body_id, ids, items_ok}
use Rattle.judging.specs.Pdu.{type_of, pdu_length, version_of, top_items, whole}
use Rattle.judging.proofs.KindLaws.{whole_of}
use Rattle.writing.specs.Wire.{pdu_bytes, AssociatePdu, associate_items, associate_bytes}
use Rattle.writing.proofs.Case3.{associate_long}

-- ---- a PDU with its PDU-length: at most 16,384, it is whole
module _ (kind : ℕ) (body : List ℕ) where
  pub pdu_long : length (pdu_bytes kind body) ≡ length body + 6
  unfolding pdu_bytes
  pdu_long = omega arith

  pub pdu_number : pdu_length (pdu_bytes kind body) ≡ length body
  unfolding pdu_bytes be32 be16
  pdu_number = omega arith

  pub pdu_whole : length body ≤ 16384 → whole (pdu_bytes kind body) ≡ true
  pdu_whole h =
      let l = pdu_long in
      let n = pdu_number in
      whole_of (pdu_bytes kind body) (omega arith) (omega arith)

-- ---- the type of a context is neither that of the application name nor that of the user information
pub record Apart (k : ℕ) : Type 0 where
  pub name : eqb k 0x10 ≡ false
  pub name' : eqb 0x10 k ≡ false
  pub user : eqb k 0x50 ≡ false
  pub user' : eqb 0x50 k ≡ false

-- ---- a 10H, contexts of type k and a good 50H
-- what stands behind items of another type
place_run : (t u : ℕ) (bs : List (List ℕ)) (w : Walk) → eqb t u ≡ false → place u (run t bs w) ≡ length (items_bytes t bs) + place u w
unfolding run place
place_run t u [] w e = sym (zero-add (place u w))
place_run t u (b ∷ bs) w e = let l = items_cons t b bs in let r = place_run t u bs w e in rw e (omega arith)

module _ (k : ℕ) (a : Apart k) where
  top_bodies : (x : List ℕ) (bs : List (List ℕ)) (u : List ℕ) → bodies k (item 0x10 x (run k bs (item 0x50 u done))) ≡ bs
  unfolding bodies
  top_bodies x bs u = rw a.name' (bodies_run k bs (item 0x50 u done) ∙ rw a.user' (append-nil bs))

  context_good_so : (x : List ℕ) → top_good k k x ≡ context_good k x
  unfolding top_good
  context_good_so x = simp (a.name, eq-eqb k k refl)

  pub top_good_so : (bs : List (List ℕ)) → all (top_good k k) bs ≡ all (context_good k) bs
  top_good_so bs = ap (λ (p : List ℕ → Bool). all p bs) (λ i x. context_good_so x i)

  pub among_top : among k (top_known k) ≡ true
  unfolding among
  among_top = rw (eq-eqb k k refl) (or-true (eqb k 0x10))

  module _ (x : List ℕ) (bs : List (List ℕ)) (u : List ℕ) where
    top_held : name_ok x ≡ true → all (context_good k) bs ≡ true → good_50h u ≡ true → holds (top_known k) (top_good k) (top_order k (length bs)) (item 0x10 x (run k bs (item 0x50 u done))) ≡ true
    unfolding top_good good_bodies bodies filled types only among
    top_held n q e =
        let o : only (top_known k) (types (item 0x50 u done)) ≡ 0x50 ∷ [] = rw a.user' in
        let g : good_bodies (top_known k) (top_good k) (item 0x50 u done) ≡ true = rw (a.user', e) in
        let h = written (top_known k) (top_good k) 0x10 k x bs (item 0x50 u done) refl among_top n (top_good_so bs ∙ q) refl g in
        ap (λ (l : List ℕ). holds (top_known k) (top_good k) (0x10 ∷ (replicate (length bs) k ++ l)) (item 0x10 x (run k bs (item 0x50 u done)))) (sym o) ∙ h

    top_written : name_ok x ≡ true → leb 1 (length bs) ≡ true → all (context_good k) bs ≡ true → good_50h u ≡ true → top_ok k (item 0x10 x (run k bs (item 0x50 u done))) ≡ true
    unfolding top_ok
    top_written n p q e = rw (top_bodies x bs u) (both_of _ _ p (top_held n q e))

-- ---- a PDU that fits
pub record Fits (f : AssociatePdu) : Type 0 where
  pub middle : length f.middle ≡ 64
  pub limit : length (associate_bytes f) ≤ 16390
  pub user : good_50h f.user ≡ true
  pub apart : Apart f.context

module _ (f : AssociatePdu) (w : Fits f) where
  pub items_small : length (items_bytes f.context f.bodies) < 65536
  items_small = let a = associate_long f in let m = w.middle in let c = w.limit in omega arith

  name_small : length f.application < 65536
  name_small = let a = associate_long f in let m = w.middle in let c = w.limit in omega arith

  pub last_small : length f.user < 65536
  last_small = let a = associate_long f in let m = w.middle in let c = w.limit in omega arith

  -- where the parts stand
  pub associate_kind : type_of (associate_bytes f) ≡ f.kind
  unfolding associate_bytes pdu_bytes
  associate_kind = refl

  pub frame_version : version_of (associate_bytes f) ≡ 1
  unfolding associate_bytes pdu_bytes be16
  frame_version = refl

  pub associate_whole : whole (associate_bytes f) ≡ true
  unfolding associate_bytes
  associate_whole =
      let body : List ℕ = 0 ∷ 1 ∷ 0 ∷ 0 ∷ (f.middle ++ associate_items f) in
      let l = pdu_long f.kind (0 ∷ 1 ∷ 0 ∷ 0 ∷ (f.middle ++ associate_items f)) in
      let c = w.limit in
      pdu_whole f.kind (0 ∷ 1 ∷ 0 ∷ 0 ∷ (f.middle ++ associate_items f)) (omega arith)

  pub associate_68 : leb 68 (pdu_length (associate_bytes f)) ≡ true
  unfolding associate_bytes
  associate_68 =
      let n = pdu_number f.kind (0 ∷ 1 ∷ 0 ∷ 0 ∷ (f.middle ++ associate_items f)) in
      let a = w.middle in
      let l = length-append f.middle (associate_items f) in
      le-leb 68 (pdu_length (associate_bytes f)) (omega arith)

  pub at_middle : take 64 (drop 10 (associate_bytes f)) ≡ f.middle
  unfolding associate_bytes pdu_bytes
  at_middle = take_at f.middle (associate_items f) 64 w.middle

  pub at_items : top_items (associate_bytes f) ≡ associate_items f
  unfolding associate_bytes pdu_bytes
  at_items = drop_at f.middle (associate_items f) 64 w.middle

  -- the items
  pub walked : walk (top_items (associate_bytes f)) ≡ item 0x10 f.application (run f.context f.bodies (item 0x50 f.user done))
  unfolding associate_items
  walked =
      ap walk at_items
      ∙ (walk_item 0x10 f.application (items_bytes f.context f.bodies ++ item_bytes 0x50 f.user) name_small
      ∙ ap (item 0x10 f.application) (walk_items f.context f.bodies (item_bytes 0x50 f.user) items_small ∙ ap (run f.context f.bodies) (walk_last 0x50 f.user last_small)))

  pub at_application : first (bodies 0x10 (walk (top_items (associate_bytes f)))) ≡ f.application
  unfolding bodies
  at_application = ap (λ (v : Walk). first (bodies 0x10 v)) walked

  pub at_place : place 0x10 (walk (top_items (associate_bytes f))) ≡ 4
  unfolding place
  at_place = ap (place 0x10) walked

  pub at_bodies : bodies f.context (walk (top_items (associate_bytes f))) ≡ f.bodies
  at_bodies = ap (bodies f.context) walked ∙ top_bodies f.context w.apart f.application f.bodies f.user

  -- the 50H comes last
  pub at_user : first (bodies 0x50 (walk (top_items (associate_bytes f)))) ≡ f.user
  unfolding bodies
  at_user = ap (λ (v : Walk). first (bodies 0x50 v)) walked ∙ ap first (bodies_past 0x50 f.context f.bodies (item 0x50 f.user done) w.apart.user)

  pub user_last : 74 + place 0x50 (walk (top_items (associate_bytes f))) + length f.user ≡ length (associate_bytes f)
  unfolding place
  user_last =
      let p = ap (place 0x50) walked in
      let r = place_run f.context 0x50 f.bodies (item 0x50 f.user done) w.apart.user in
      let l = associate_long f in
      let m = w.middle in
      omega arith

  -- "one 10H, one or more contexts .. one 50H", no ID twice
  pub associate_items_ok : name_ok f.application ≡ true → leb 1 (length f.bodies) ≡ true → all (context_good f.context) f.bodies ≡ true → distinct (map body_id f.bodies) ≡ true
      → items_ok f.context (top_items (associate_bytes f)) ≡ true
  unfolding items_ok ids
  associate_items_ok n p q d =
      both_of _ _ (ap (top_ok f.context) walked ∙ top_written f.context w.apart f.application f.bodies f.user n p q w.user)
      (ap (λ (l : List (List ℕ)). distinct (map body_id l)) at_bodies ∙ d)
