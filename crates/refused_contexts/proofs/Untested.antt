-- What follows the four bytes of a refused context changes neither what an AC is judged as nor what is read from it, but for the places behind it.
-- Assumes nothing.
use Prim.Native.Nat.{ℕ, zero, suc, ◌+◌}
use native.Mathlib.Omega.{arith}
use mathlib.Core.Bool.{Bool, true, false, ◌&&◌, cond}
use mathlib.Core.List.{List, [], ◌∷◌, ◌++◌, map}
use mathlib.Core.Path.{◌≡◌, refl, sym, ap, ◌∙◌}
use lib.ListN.{length, get_or, replicate, length-append, get_or-append}
use lib.Seq.{drop_at}
use lib.Dec.{leb, eqb}
use borrow.Author.Tests.{le-leb, eq-eqb, ne_eqb, eqb-true}
use Rattle.laws.specs.Lists.{all, empty, among, distinct}
use Rattle.laws.proofs.Booleans.{held, left_of, right_of}
use Rattle.numbers.specs.Kinds.{NO-KIND, ASSOCIATE-AC}
use Rattle.numbers.specs.Results.{ACCEPTED}
use Rattle.octets.specs.Octets.{be16, be32, odd}
use Rattle.octets.specs.Put.{front}
use Rattle.items.specs.Items.{Walk, done, broken, item, walk, filled, bodies, first, place, types, only, good_bodies, holds}
use Rattle.items.proofs.HoldLaws.{held_order}
use Rattle.items.proofs.WireLaws.{walk_any}
use Rattle.contents.specs.Contents.{top_known, top_order, top_good, context_good, top_ok, transfer_item_ok, good_21h, body_id, ids, items_ok, maximum_in}
use Rattle.contents.proofs.Meaning.{top_holds}
use Rattle.contents.proofs.GoodLaws.{items_top}
use Rattle.judging.specs.Pdu.{whole, pdu_length, version_of, top_items, accept_ok, valid_as, kind_of, acceptable, maximum_of}
use Rattle.judging.proofs.KindLaws.{whole_of, accept_items}
use Rattle.sheets.specs.Sheet.{answer_sheet_of}
use Rattle.reading.specs.Associate.{transfer_in, answer_of, answered, application_of, application_at, sub_items_of, sub_items_at, sub_item_at, sub_item_len, sheet_in, roles_sheet_in, refused, fields_of, associate_refusal, associate_of, filling, roles_filling, Read}
use Rattle.reading.specs.Associate.{Associate}
use Rattle.refused_contexts.specs.Untested.{Around, body_with, item_with, counted_with, ac_with, Refused, Taken, further, moved, Alike}
use Rattle.refused_contexts.proofs.Joined.{join, walk_join, join_filled, join_types, join_bodies}

-- ---- lists that differ in one element alone
map_one : {B : Type 0} (f : List ℕ → B) (xs ys : List (List ℕ)) (b c : List ℕ) → f b ≡ f c → map f (xs ++ (b ∷ ys)) ≡ map f (xs ++ (c ∷ ys))
map_one f [] ys b c e = λ i. e i ∷ map f ys
map_one f (x ∷ xs) ys b c e = let r = map_one f xs ys b c e in λ i. f x ∷ r i

all_one : (p : List ℕ → Bool) (xs ys : List (List ℕ)) (b c : List ℕ) → p b ≡ p c → all p (xs ++ (b ∷ ys)) ≡ all p (xs ++ (c ∷ ys))
all_one p [] ys b c e = λ i. e i && all p ys
all_one p (x ∷ xs) ys b c e = let r = all_one p xs ys b c e in λ i. p x && r i

-- ---- items that differ in the body of one 21H alone
module _ (u v : Walk) (f : filled u ≡ true) where
  -- those before it, it with this body, those behind it
  abbrev with_body : List ℕ → Walk
  with_body b = join u (item 0x21 b v)

  contexts_are : (b : List ℕ) → bodies 0x21 (with_body b) ≡ bodies 0x21 u ++ (b ∷ bodies 0x21 v)
  unfolding bodies
  contexts_are b = join_bodies (item 0x21 b v) 0x21 u f

  module _ (b c : List ℕ) where
    same_filled : filled (with_body b) ≡ filled (with_body c)
    unfolding filled
    same_filled = join_filled (item 0x21 b v) u f ∙ sym (join_filled (item 0x21 c v) u f)

    same_types : types (with_body b) ≡ types (with_body c)
    unfolding types
    same_types = join_types (item 0x21 b v) u f ∙ sym (join_types (item 0x21 c v) u f)

    same_bodies : (t : ℕ) → eqb 0x21 t ≡ false → bodies t (with_body b) ≡ bodies t (with_body c)
    unfolding bodies
    same_bodies t e = join_bodies (item 0x21 b v) t u f ∙ (rw e (sym (join_bodies (item 0x21 c v) t u f ∙ rw e)))

    same_map : {B : Type 0} (g : List ℕ → B) → g b ≡ g c → map g (bodies 0x21 (with_body b)) ≡ map g (bodies 0x21 (with_body c))
    same_map g e = ap (map g) (contexts_are b) ∙ (map_one g (bodies 0x21 u) (bodies 0x21 v) b c e ∙ ap (map g) (sym (contexts_are c)))

    same_count : length (bodies 0x21 (with_body b)) ≡ length (bodies 0x21 (with_body c))
    same_count =
        let x = ap length (contexts_are b) ∙ length-append (bodies 0x21 u) (b ∷ bodies 0x21 v) in
        let y = ap length (contexts_are c) ∙ length-append (bodies 0x21 u) (c ∷ bodies 0x21 v) in
        omega arith

    module _ (g : top_good 0x21 0x21 b ≡ top_good 0x21 0x21 c) where
      same_good : good_bodies (top_known 0x21) (top_good 0x21) (with_body b) ≡ good_bodies (top_known 0x21) (top_good 0x21) (with_body c)
      unfolding good_bodies
      same_good =
          let x = ap (all (top_good 0x21 0x10)) (same_bodies 0x10 refl) in
          let y = ap (all (top_good 0x21 0x21)) (contexts_are b) ∙ (all_one (top_good 0x21 0x21) (bodies 0x21 u) (bodies 0x21 v) b c g ∙ ap (all (top_good 0x21 0x21)) (sym (contexts_are c))) in
          let z = ap (all (top_good 0x21 0x50)) (same_bodies 0x50 refl) in
          λ i. x i && (y i && (z i && true))

      same_top : top_ok 0x21 (with_body b) ≡ top_ok 0x21 (with_body c)
      unfolding top_ok holds
      same_top = rw (same_count, same_filled, same_types, same_good)

-- the place of a 10H that leads the known items: it stands before the 21H
place_before : (u v : Walk) (b c : List ℕ) → get_or (only (top_known 0x21) (types (join u (item 0x21 b v)))) 0 0 ≡ 0x10 → place 0x10 (join u (item 0x21 b v)) ≡ place 0x10 (join u (item 0x21 c v))
unfolding join types only among place
place_before done v b c e = absurd (omega arith)
place_before broken v b c e = refl
place_before (item t x u) v b c e = go (eqb t 0x10) (among t (top_known 0x21)) refl e (place_before u v b c)
  where
    go : (d k : Bool) → eqb t 0x10 ≡ d → get_or (cond k (t ∷ only (top_known 0x21) (types (join u (item 0x21 b v)))) (only (top_known 0x21) (types (join u (item 0x21 b v))))) 0 0 ≡ 0x10
        → (get_or (only (top_known 0x21) (types (join u (item 0x21 b v)))) 0 0 ≡ 0x10 → place 0x10 (join u (item 0x21 b v)) ≡ place 0x10 (join u (item 0x21 c v)))
        → cond d 4 (4 + length x + place 0x10 (join u (item 0x21 b v))) ≡ cond d 4 (4 + length x + place 0x10 (join u (item 0x21 c v)))
    go true k p q r = refl
    go false true p q r = absurd (held false (sym p ∙ eq-eqb t 0x10 q))
    go false false p q r = ap (λ (n : ℕ). 4 + length x + n) (r q)

-- the place of a 50H behind which no known item stands: it stands behind the 21H, and so moves with its length
unfoldable ends : List ℕ → Bool
ends [] = true
ends (t ∷ ts) = cond (eqb t 0x50) (empty ts) true && ends ts

ends_order : (n : ℕ) → ends (top_order 0x21 n) ≡ true
unfolding ends
ends_order n = go n
  where
    go : (n : ℕ) → ends (replicate n 0x21 ++ (0x50 ∷ [])) ≡ true
    go zero = refl
    go (suc n) = go n

-- the 21H is one of them
some_known : (u v : Walk) (b : List ℕ) → filled u ≡ true → empty (only (top_known 0x21) (types (join u (item 0x21 b v)))) ≡ false
unfolding join types only among filled
some_known done v b f = refl
some_known broken v b f = absurd (held false f)
some_known (item t x u) v b f = go (among t (top_known 0x21)) (some_known u v b f)
  where
    go : (k : Bool) → empty (only (top_known 0x21) (types (join u (item 0x21 b v)))) ≡ false
        → empty (cond k (t ∷ only (top_known 0x21) (types (join u (item 0x21 b v)))) (only (top_known 0x21) (types (join u (item 0x21 b v))))) ≡ false
    go true e = refl
    go false e = e

place_behind : (u v : Walk) (b c : List ℕ) → filled u ≡ true → ends (only (top_known 0x21) (types (join u (item 0x21 b v)))) ≡ true
    → place 0x50 (join u (item 0x21 b v)) + length c ≡ place 0x50 (join u (item 0x21 c v)) + length b
unfolding join types only among place filled ends
place_behind done v b c f e = omega arith
place_behind broken v b c f e = absurd (held false f)
place_behind (item t x u) v b c f e = go (eqb t 0x50) refl (among t (top_known 0x21)) refl e (place_behind u v b c f)
  where
    l : List ℕ
    l = only (top_known 0x21) (types (join u (item 0x21 b v)))

    go : (d : Bool) → eqb t 0x50 ≡ d → (k : Bool) → among t (top_known 0x21) ≡ k → ends (cond k (t ∷ l) l) ≡ true
        → (ends l ≡ true → place 0x50 (join u (item 0x21 b v)) + length c ≡ place 0x50 (join u (item 0x21 c v)) + length b)
        → cond d 4 (4 + length x + place 0x50 (join u (item 0x21 b v))) + length c ≡ cond d 4 (4 + length x + place 0x50 (join u (item 0x21 c v))) + length b
    go true p true q h r =
        let z : empty l ≡ true = rw p at (left_of (cond (eqb t 0x50) (empty l) true) (ends l) h) in
        absurd (held false (sym (some_known u v b f) ∙ z))
    go true p false q h r = let z : t ≡ 0x50 = eqb-true t 0x50 p in absurd (held false (sym q ∙ rw z))
    go false p true q h r = let i = r (right_of (cond (eqb t 0x50) (empty l) true) _ h) in omega arith
    go false p false q h r = let i = r h in omega arith

-- ---- a body with a result that refuses: only its four bytes count
module _ (p : Around) (n : p.result ≡ ACCEPTED → ⊥) (x : List ℕ) where
  good_is : top_good 0x21 0x21 (body_with p x) ≡ (odd p.id && (leb p.result 4 && true))
  unfolding top_good context_good good_21h transfer_item_ok
  good_is = let l : leb 4 (length (body_with p x)) ≡ true = le-leb 4 (length (body_with p x)) (omega arith) in rw (l, ne_eqb p.result ACCEPTED n)

  answer_is : answer_of (body_with p x) ≡ record { id = p.id; result = p.result; transfer = [] }
  unfolding answer_of transfer_in
  answer_is = rw (ne_eqb p.result ACCEPTED n)

-- ---- the AC with x there
module _ (p : Around) (r : Refused p) (x : List ℕ) (h : Taken p x) where
  abbrev pdu : List ℕ
  pdu = ac_with p x

  counted_long : length (counted_with p x) ≡ 68 + (length p.before + (8 + length x + length p.after))
  counted_long =
      let f = r.fixed_bytes in
      let a = length-append p.fixed (p.before ++ (item_with p x ++ p.after)) in
      let b = length-append p.before (item_with p x ++ p.after) in
      let c = length-append x p.after in
      omega arith

  number_is : pdu_length pdu ≡ length (counted_with p x)
  unfolding ac_with be32 be16
  number_is = omega arith

  is_whole : whole pdu ≡ true
  unfolding ac_with
  is_whole = let n = number_is in whole_of pdu (omega arith) (omega arith)

  from_68 : leb 68 (pdu_length pdu) ≡ true
  from_68 = let n = number_is in let l = counted_long in le-leb 68 (pdu_length pdu) (omega arith)

  version_is : version_of pdu ≡ be16 p.fixed 0
  unfolding ac_with be16
  version_is =
      let f = r.fixed_bytes in
      rw (get_or-append p.fixed (p.before ++ (item_with p x ++ p.after)) 0 0 (omega arith), get_or-append p.fixed (p.before ++ (item_with p x ++ p.after)) 0 1 (omega arith))

  items_are : top_items pdu ≡ p.before ++ (item_with p x ++ p.after)
  unfolding ac_with
  items_are = drop_at p.fixed (p.before ++ (item_with p x ++ p.after)) 68 r.fixed_bytes

  walked : walk (top_items pdu) ≡ join (walk p.before) (item 0x21 (body_with p x) (walk p.after))
  walked =
      let l = counted_long in
      ap walk items_are ∙ (walk_join p.before (item_with p x ++ p.after) r.whole_items ∙ ap (join (walk p.before)) (walk_any 0x21 p.item_reserved (body_with p x) p.after (omega arith)))

  type_is : get_or pdu 0 0 ≡ ASSOCIATE-AC
  unfolding ac_with
  type_is = refl

  kind_is : kind_of pdu ≡ cond (odd (be16 p.fixed 0) && items_ok 0x21 (top_items pdu)) ASSOCIATE-AC NO-KIND
  unfolding kind_of valid_as accept_ok
  kind_is = rw (type_is, is_whole, from_68, version_is)

  maximum_is : maximum_in (top_items pdu) ≡ be32 (first (bodies 0x51 (walk (first (bodies 0x50 (join (walk p.before) (item 0x21 (body_with p x) (walk p.after)))))))) 0
  unfolding maximum_in
  maximum_is = rw walked

-- ---- with x and with y
module _ (p : Around) (r : Refused p) (x y : List ℕ) (h : Taken p x) (k : Taken p y) where
  abbrev one : List ℕ
  one = ac_with p x

  abbrev other : List ℕ
  other = ac_with p y

  abbrev u : Walk
  u = walk p.before

  abbrev v : Walk
  v = walk p.after

  good_alike : top_good 0x21 0x21 (body_with p x) ≡ top_good 0x21 0x21 (body_with p y)
  good_alike = good_is p r.not_accepted x ∙ sym (good_is p r.not_accepted y)

  answer_alike : answer_of (body_with p x) ≡ answer_of (body_with p y)
  answer_alike = answer_is p r.not_accepted x ∙ sym (answer_is p r.not_accepted y)

  items_alike : items_ok 0x21 (top_items one) ≡ items_ok 0x21 (top_items other)
  unfolding items_ok ids
  items_alike =
      let a = same_top u v r.whole_items (body_with p x) (body_with p y) good_alike in
      let b = ap distinct (same_map u v r.whole_items (body_with p x) (body_with p y) body_id refl) in
      rw (walked p r x h, walked p r y k) (λ i. a i && b i)

  kind_alike : kind_of one ≡ kind_of other
  kind_alike = kind_is p r x h ∙ (rw items_alike (sym (kind_is p r y k)))

  maximum_alike : maximum_in (top_items one) ≡ maximum_in (top_items other)
  maximum_alike = maximum_is p r x h ∙ (rw (same_bodies u v r.whole_items (body_with p x) (body_with p y) 0x50 refl) (sym (maximum_is p r y k)))

  version_alike : version_of one ≡ version_of other
  version_alike = version_is p r x h ∙ sym (version_is p r y k)

  name_alike : application_of one ≡ application_of other
  unfolding application_of
  name_alike = rw (walked p r x h, walked p r y k, same_bodies u v r.whole_items (body_with p x) (body_with p y) 0x10 refl)

  answers_alike : answered one ≡ answered other
  unfolding answered
  answers_alike = rw (walked p r x h, walked p r y k) (same_map u v r.whole_items (body_with p x) (body_with p y) answer_of answer_alike)

  sheet_alike : sheet_in ASSOCIATE-AC one ≡ sheet_in ASSOCIATE-AC other
  unfolding sheet_in
  sheet_alike = ap answer_sheet_of answers_alike

  user_alike : sub_items_of one ≡ sub_items_of other
  unfolding sub_items_of
  user_alike = rw (walked p r x h, walked p r y k, same_bodies u v r.whole_items (body_with p x) (body_with p y) 0x50 refl)

  roles_alike : roles_sheet_in one ≡ roles_sheet_in other
  unfolding roles_sheet_in
  roles_alike = rw user_alike

  refusal_alike : (room rolesRoom : ℕ) → associate_refusal ASSOCIATE-AC one room rolesRoom ≡ associate_refusal ASSOCIATE-AC other room rolesRoom
  refusal_alike room rolesRoom = rw (kind_alike, sheet_alike, roles_alike)

  maximum_of_alike : maximum_of one ≡ maximum_of other
  unfolding maximum_of
  maximum_of_alike = rw (kind_alike, maximum_alike)

  -- the order of the known items of a valid AC
  order : kind_of one ≡ ASSOCIATE-AC → only (top_known 0x21) (types (join u (item 0x21 (body_with p x) v))) ≡ top_order 0x21 (length (bodies 0x21 (walk (top_items one))))
  order e =
      ap (λ (w : Walk). only (top_known 0x21) (types w)) (sym (walked p r x h))
      ∙ held_order (top_known 0x21) (top_good 0x21) _ (walk (top_items one)) (top_holds 0x21 (walk (top_items one)) (items_top 0x21 (top_items one) (accept_items one e)))

  -- the application name stands before the 21H
  place_alike : kind_of one ≡ ASSOCIATE-AC → application_at one ≡ application_at other
  unfolding application_at
  place_alike e =
      rw (walked p r x h, walked p r y k) (ap (λ (n : ℕ). 74 + n) (place_before u v (body_with p x) (body_with p y) (ap (λ (ts : List ℕ). get_or ts 0 0) (order e))))

  -- and the 50H behind it
  user_moved : kind_of one ≡ ASSOCIATE-AC → sub_items_at one + length y ≡ sub_items_at other + length x
  unfolding sub_items_at
  user_moved e =
      let m = place_behind u v (body_with p x) (body_with p y) r.whole_items (ap ends (order e) ∙ ends_order (length (bodies 0x21 (walk (top_items one))))) in
      rw (walked p r x h, walked p r y k) (omega arith)

  name_moved : (t : ℕ) → kind_of one ≡ ASSOCIATE-AC → further (length y) (sub_item_at t one) ≡ further (length x) (sub_item_at t other)
  unfolding sub_item_at sub_items_at further
  name_moved t e = rw user_alike (go (empty (bodies t (sub_items_of other))))
    where
      go : (d : Bool) → further (length y) (cond d 0 (sub_items_at one + place t (sub_items_of other))) ≡ further (length x) (cond d 0 (sub_items_at other + place t (sub_items_of other)))
      go true = refl
      go false =
          let m = user_moved e in
          let a : eqb (sub_items_at one + place t (sub_items_of other)) 0 ≡ false = ne_eqb (sub_items_at one + place t (sub_items_of other)) 0 (λ z. omega arith) in
          let b : eqb (sub_items_at other + place t (sub_items_of other)) 0 ≡ false = ne_eqb (sub_items_at other + place t (sub_items_of other)) 0 (λ z. omega arith) in
          rw (a, b) (omega arith)

  length_alike : (t : ℕ) → sub_item_len t one ≡ sub_item_len t other
  unfolding sub_item_len
  length_alike t = rw user_alike

  fields_alike : kind_of one ≡ ASSOCIATE-AC → moved (length y) (fields_of ASSOCIATE-AC one) ≡ moved (length x) (fields_of ASSOCIATE-AC other)
  fields_alike e =
      rw (version_alike, place_alike e, name_alike, maximum_of_alike, sheet_alike, roles_alike, name_moved 0x52 e, name_moved 0x55 e, length_alike 0x52, length_alike 0x55, user_alike)

  read_alike : (room rolesRoom : ℕ) → moved (length y) (associate_of ASSOCIATE-AC one room rolesRoom) ≡ moved (length x) (associate_of ASSOCIATE-AC other room rolesRoom)
  unfolding associate_of further
  read_alike room rolesRoom = go (eqb (kind_of one) ASSOCIATE-AC) refl
    where
      answer : (d : Bool) (n : ℕ) → kind_of one ≡ ASSOCIATE-AC → moved (length y) (cond d (fields_of ASSOCIATE-AC one) (refused n)) ≡ moved (length x) (cond d (fields_of ASSOCIATE-AC other) (refused n))
      answer true n e = fields_alike e
      answer false n e = refl

      go : (d : Bool) → eqb (kind_of one) ASSOCIATE-AC ≡ d → moved (length y) (associate_of ASSOCIATE-AC one room rolesRoom) ≡ moved (length x) (associate_of ASSOCIATE-AC other room rolesRoom)
      go true e = rw (refusal_alike room rolesRoom) (answer (eqb (associate_refusal ASSOCIATE-AC other room rolesRoom) 0) (associate_refusal ASSOCIATE-AC other room rolesRoom) (eqb-true _ _ e))
      go false e = let z : eqb (kind_of other) ASSOCIATE-AC ≡ false = ap (λ (n : ℕ). eqb n ASSOCIATE-AC) (sym kind_alike) ∙ e in rw (e, z)

  pub untested : Alike (length x) (length y) one other
  unfolding acceptable filling roles_filling
  untested =
      record {
        kind = kind_alike;
        acceptable = rw (kind_alike, version_alike);
        maximum = maximum_of_alike;
        name = name_alike;
        user = user_alike;
        read = read_alike;
        sheet = λ room rolesRoom. rw (refusal_alike room rolesRoom, sheet_alike);
        roles = λ room rolesRoom. rw (refusal_alike room rolesRoom, roles_alike);
      }

  -- and so are the calls: reading either into the same sheets answers the same, the places in the 50H moved, and leaves the same
  pub same_calls : (s t : List ℕ) (f g : Associate) (s' t' s'' t'' : List ℕ) → Read ASSOCIATE-AC one s t f s' t' → Read ASSOCIATE-AC other s t g s'' t''
      → (moved (length y) f ≡ moved (length x) g) × (s' ≡ s'') × (t' ≡ t'')
  same_calls s t f g s' t' s'' t'' a b = (
    ap (moved (length y)) a.answer ∙ (untested.read (length s) (length t) ∙ ap (moved (length x)) (sym b.answer)),
    a.sheet ∙ (ap (front s) (untested.sheet (length s) (length t)) ∙ sym b.sheet),
    a.roles ∙ (ap (front t) (untested.roles (length s) (length t)) ∙ sym b.roles),
  )
