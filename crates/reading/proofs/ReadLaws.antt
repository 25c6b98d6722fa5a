-- Reading an RQ or an AC: what fills the two sheets is that of its contexts and that of its roles, and each way through the code.
-- Assumes nothing.
use Prim.Native.Nat.{ℕ, ◌+◌, ◌-◌, ◌*◌, ◌/◌, ◌≤◌, ◌<◌}
use native.Mathlib.Omega.{arith}
use mathlib.Core.Bool.{Bool, true, false, cond}
use mathlib.Core.List.{List, [], ◌∷◌, map}
use mathlib.Core.Path.{◌≡◌, refl, sym, ap, ◌∙◌}
use lib.ListN.{length, drop, get_or, length-drop}
use lib.Dec.{ltb, eqb}
use Rattle.std.specs.Prelude.{Option, None, Some, IfSome, Result, Ok, Err, IfOk}
use borrow.Author.Rules.{rules}
use borrow.Author.Tests.{lt-ltb, le-ltb, eq-eqb, ne_eqb, eqb-true, eqb-false}
use Rattle.laws.specs.Lists.{all, empty}
use Rattle.laws.proofs.Booleans.{left_of, right_of}
use Rattle.numbers.specs.declared.refusals.Refusal.{Refusal}
use Rattle.numbers.proofs.NumberLaws.{refusal_once, refusal_some}
use Rattle.numbers.specs.Results.{ACCEPTED}
use Rattle.octets.specs.Octets.{be16}
use Rattle.octets.specs.Private.Put.{Put}
use Rattle.octets.specs.Put.{front}
use Rattle.octets.proofs.PutLaws.{put_front}
use Rattle.names.specs.Name.{name_ok}
use Rattle.names.proofs.NameLaws.{name_short}
use Rattle.items.specs.Items.{walk, bodies, first, place}
use Rattle.items.proofs.PlaceLaws.{stands}
use Rattle.contents.specs.Contents.{good_20h, good_21h, maximum_in}
use Rattle.contents.proofs.GoodLaws.{abstract_name, transfer_names, transfer_name, items_20, items_21, items_50}
use Rattle.judging.specs.Pdu.{kind_of, maximum_of}
use Rattle.judging.proofs.KindLaws.{request_long, accept_long, request_items, accept_items}
use Rattle.sheets.specs.Contexts.{transfer_name_ok}
use Rattle.sheets.specs.Sheet.{context_records, sheet_of, answer_sheet_of}
use Rattle.sheets.specs.Record.{record_of}
use Rattle.sheets.proofs.RecordLaws.{record_whole}
use Rattle.sheets.proofs.Inverse.{transfer_fits}
use Rattle.user_items.specs.Kinds.{good_50h}
use Rattle.user_items.specs.Said.{count_said, roles_said}
use Rattle.user_items.proofs.GoodLaws.{roles_good}
use Rattle.reading.specs.Associate.{context_of, transfer_in, answer_of, proposed, answered, application_of, application_at, sub_items_of, sub_items_at, sub_item_at, sub_item_len, sheet_in, roles_sheet_in, Associate, refused, fields_of, associate_of, filling, roles_filling, Read, part_place, part_length, told, associate_as, Placed}
use Rattle.reading.specs.Private.Records.{each, body_records, all_records, number_of, context_type, all_roles, Counted, Filled, part_at, sub_part, fields_with}
use Rattle.reading.specs.declared.associate.Associate.{Associate as Told}
use Rattle.reading.specs.declared.user.Part.{Part}
use Rattle.reading.specs.declared.valid.Counts.{Counts}
use Rattle.reading.specs.declared.valid.Side.{Side}
use Rattle.reading.specs.declared.valid.Side.TheVariants.{Request, Accept}
use Rattle.reading.proofs.RoleLaws.{roles_size_so, roles_sheet}
use Rattle.reading.proofs.UserLaws.{part_is, said_is}

-- ---- a valid PDU has no name that is too long for its field
whole_records : (id : ℕ) (a : List ℕ) (xs : List (List ℕ)) → name_ok a ≡ true → all name_ok xs ≡ true → each (record_of id 0 a) xs ≡ context_records id a xs
unfolding each context_records
whole_records id a [] h g = refl
whole_records id a (x ∷ xs) h g =
    rw (record_whole id 0 a x (name_short a h) (name_short x (left_of _ _ g)), whole_records id a xs h (right_of (name_ok x) _ g))

-- what is read from a good 21H may be sent with its result, and fits its field
pub transfer_goes : (b : List ℕ) → good_21h b ≡ true → transfer_name_ok (get_or b 2 0) (transfer_in b) ≡ true
unfolding transfer_name_ok transfer_in
transfer_goes b g = go (eqb (get_or b 2 0) ACCEPTED) refl
  where
    go : (d : Bool) → eqb (get_or b 2 0) ACCEPTED ≡ d
        → cond d (name_ok (cond d (first (bodies 0x40 (walk (drop 4 b)))) [])) (empty (cond d (first (bodies 0x40 (walk (drop 4 b)))) [])) ≡ true
    go true e = transfer_name b g (eqb-true _ _ e)
    go false e = refl

pub transfer_short : (b : List ℕ) → good_21h b ≡ true → length (transfer_in b) ≤ 64
transfer_short b g = transfer_fits (get_or b 2 0) (transfer_in b) (transfer_goes b g)

proposed_sheet : (bs : List (List ℕ)) → all good_20h bs ≡ true → each (body_records 0x20) bs ≡ sheet_of (map context_of bs)
unfolding each body_records sheet_of context_of
proposed_sheet [] g = refl
proposed_sheet (b ∷ bs) g =
    let o : good_20h b ≡ true = left_of _ _ g in
    rw (whole_records (context_of b).id (context_of b).abstr (context_of b).transfers (abstract_name b o) (transfer_names b o), proposed_sheet bs (right_of (good_20h b) _ g))

answered_sheet : (bs : List (List ℕ)) → all good_21h bs ≡ true → each (body_records 0x21) bs ≡ answer_sheet_of (map answer_of bs)
unfolding each body_records answer_sheet_of answer_of
answered_sheet [] g = refl
answered_sheet (b ∷ bs) g =
    let z : length {A = ℕ} [] ≤ 64 = omega arith in
    rw (record_whole (answer_of b).id (answer_of b).result [] (answer_of b).transfer z (transfer_short b (left_of _ _ g)), answered_sheet bs (right_of (good_21h b) _ g))

-- a part and its two numbers
same_of : (n : ℕ) (bs : List (List ℕ))
    → (part_place (cond (empty bs) None (Some (record { at = n; len = length (first bs) }))) ≡ cond (empty bs) 0 n) × (part_length (cond (empty bs) None (Some (record { at = n; len = length (first bs) }))) ≡ length (first bs))
same_of n [] = (refl, refl)
same_of n (c ∷ cs) = (refl, refl)

-- what the code puts into the sheet is the sheet of the contexts
module _ (x : List ℕ) where
  request_sheet : kind_of x ≡ 1 → all_records 0x20 (drop 74 x) ≡ sheet_in 1 x
  unfolding sheet_in proposed
  request_sheet e = proposed_sheet (bodies 0x20 (walk (drop 74 x))) (items_20 (drop 74 x) (request_items x e))

  accept_sheet : kind_of x ≡ 2 → all_records 0x21 (drop 74 x) ≡ sheet_in 2 x
  unfolding sheet_in answered
  accept_sheet e = answered_sheet (bodies 0x21 (walk (drop 74 x))) (items_21 (drop 74 x) (accept_items x e))

  -- and so are the other fields
  same_parts : (y : ℕ) → (part_place (sub_part y x) ≡ sub_item_at y x) × (part_length (sub_part y x) ≡ sub_item_len y x)
  unfolding part_at sub_item_at sub_item_len
  same_parts y = same_of (sub_items_at x + place y (sub_items_of x)) (bodies y (sub_items_of x))

  told_fields : (kind n m : ℕ) → maximum_of x ≡ maximum_in (drop 74 x) → length (sheet_in kind x) / 132 ≡ n → length (roles_sheet_in x) / 68 ≡ m → told (fields_with x n m) ≡ fields_of kind x
  unfolding fields_with
  told_fields kind n m e h l = rw (e, h, l, (same_parts 0x52).0, (same_parts 0x52).1, (same_parts 0x55).0, (same_parts 0x55).1)

  request_fields : (n m : ℕ) → kind_of x ≡ 1 → length (sheet_in 1 x) / 132 ≡ n → length (roles_sheet_in x) / 68 ≡ m → told (fields_with x n m) ≡ fields_of 1 x
  unfolding maximum_of
  request_fields n m e = told_fields 1 n m (rw e)

  accept_fields : (n m : ℕ) → kind_of x ≡ 2 → length (sheet_in 2 x) / 132 ≡ n → length (roles_sheet_in x) / 68 ≡ m → told (fields_with x n m) ≡ fields_of 2 x
  unfolding maximum_of
  accept_fields n m e = told_fields 2 n m (rw e)

-- ---- both kinds as one: what holds of 1 and of 2
pub either : (kind : ℕ) → 1 ≤ kind → kind ≤ 2 → (P : ℕ → Type 0) → P 1 → P 2 → P kind
either kind a b P p q = go (eqb kind 1) refl
  where
    go : (d : Bool) → eqb kind 1 ≡ d → P kind
    go true e = let z : kind ≡ 1 = eqb-true _ _ e in rw z p
    go false e = let n : (kind ≡ 1 → ⊥) = eqb-false kind 1 e in let z : kind ≡ 2 = omega arith in rw z q

module _ (x : List ℕ) (kind : ℕ) (a : 1 ≤ kind) (b : kind ≤ 2) where
  read_long_of : kind_of x ≡ kind → 74 ≤ length x
  read_long_of = either kind a b (λ (k : ℕ). kind_of x ≡ k → 74 ≤ length x) (request_long x) (accept_long x)

  sheet_of_so : kind_of x ≡ kind → all_records (context_type kind) (drop 74 x) ≡ sheet_in kind x
  unfolding context_type
  sheet_of_so = either kind a b (λ (k : ℕ). kind_of x ≡ k → all_records (context_type k) (drop 74 x) ≡ sheet_in k x) (request_sheet x) (accept_sheet x)

  fields_of_so : (n m : ℕ) → kind_of x ≡ kind → length (sheet_in kind x) / 132 ≡ n → length (roles_sheet_in x) / 68 ≡ m → told (fields_with x n m) ≡ fields_of kind x
  fields_of_so n m =
      either kind a b (λ (k : ℕ). kind_of x ≡ k → length (sheet_in k x) / 132 ≡ n → length (roles_sheet_in x) / 68 ≡ m → told (fields_with x n m) ≡ fields_of k x) (request_fields x n m) (accept_fields x n m)

  -- its user information is good
  pub user_of : kind_of x ≡ kind → good_50h (first (bodies 0x50 (walk (drop 74 x)))) ≡ true
  user_of =
      either kind a b (λ (k : ℕ). kind_of x ≡ k → good_50h (first (bodies 0x50 (walk (drop 74 x)))) ≡ true) (λ e. items_50 0x20 (drop 74 x) (request_items x e) refl refl refl)
      (λ e. items_50 0x21 (drop 74 x) (accept_items x e) refl refl refl)

  -- and what the code puts into the role sheet is the sheet of the roles
  roles_of : kind_of x ≡ kind → all_roles (first (bodies 0x50 (walk (drop 74 x)))) ≡ roles_sheet_in x
  unfolding roles_sheet_in roles_said sub_items_of
  roles_of e = roles_sheet (bodies 0x54 (sub_items_of x)) (roles_good (first (bodies 0x50 (walk (drop 74 x)))) (user_of e))

-- ---- an RQ or an AC, as the code has which of the two
pub side_from : (d : Side) → 1 ≤ number_of d
side_from Request = omega arith
side_from Accept = omega arith

pub side_to : (d : Side) → number_of d ≤ 2
side_to Request = omega arith
side_to Accept = omega arith

module _ (x : List ℕ) (d : Side) (e : kind_of x ≡ number_of d) where
  pub valid_long : 74 ≤ length x
  valid_long = read_long_of x (number_of d) (side_from d) (side_to d) e

  -- s stands behind the fixed fields
  module _ (s : List ℕ) (b : s ≡ drop 74 x) where
    -- its records, with k for the type of its contexts
    module _ (k : ℕ) (p : k ≡ context_type (number_of d)) where
      sheet_is : all_records k s ≡ sheet_in (number_of d) x
      sheet_is = rw (b, p) (sheet_of_so x (number_of d) (side_from d) (side_to d) e)

      pub sheet_room : (o : List ℕ) → length (sheet_in (number_of d) x) ≤ length o → length (all_records k s) ≤ length o
      sheet_room o h = rw sheet_is h

    -- its roles, with u for the body of its 50H
    module _ (u : List ℕ) (v : u ≡ first (bodies 0x50 (walk s))) where
      roles_is : all_roles u ≡ roles_sheet_in x
      roles_is = rw (v, b) (roles_of x (number_of d) (side_from d) (side_to d) e)

      pub roles_room : (t : List ℕ) → length (roles_sheet_in x) ≤ length t → length (all_roles u) ≤ length t
      roles_room t h = rw roles_is h

      module _ (k : ℕ) (p : k ≡ context_type (number_of d)) where
        pub counts_are : (n m : ℕ) → 132 * n ≡ length (all_records k s) → m ≡ length (bodies 0x54 (walk u)) → Counted (number_of d) x (record { records = n; roles = m })
        counts_are n m g j = record { records = g ∙ ap length (sheet_is k p); roles = rw j (sym (roles_size_so (bodies 0x54 (walk u))) ∙ ap length roles_is) }

        pub both_filled : (o t o' t' : List ℕ) (i i' : ℕ) → Put o 0 (all_records k s) i o' → Put t 0 (all_roles u) i' t' → Filled (number_of d) x o t o' t'
        both_filled o t o' t' i i' w w' =
            record {
              sheet = w.out ∙ (put_front o (all_records k s) ∙ ap (front o) (sheet_is k p));
              roles = w'.out ∙ (put_front t (all_roles u) ∙ ap (front t) roles_is);
            }

-- the place of its application name lies within it
pub name_within : (x s : List ℕ) (b : s ≡ drop 74 x) (t : ℕ) → t ≡ place 0x10 (walk s) → 74 ≤ length x → 74 + t ≤ length x
name_within x s b t e h =
    let l : length s ≡ length x - 74 = ap length b ∙ length-drop 74 x in
    let w = (stands 0x10 s).within in
    omega arith

-- ---- `fields`: s stands behind the fixed fields, u is the body of its 50H, and t the place of that
pub fields_are : (x s u : List ℕ) (t : ℕ) (b : s ≡ drop 74 x) (p : u ≡ first (bodies 0x50 (walk s))) (q : t ≡ place 0x50 (walk s)) {n m v a z i j : ℕ} {name : List ℕ} {c d : Option Part}
    → v ≡ be16 x 6 → a ≡ place 0x10 (walk s) → name ≡ first (bodies 0x10 (walk s)) → z ≡ maximum_in s
    → c ≡ part_at 0x52 (74 + t) (walk u) → d ≡ part_at 0x55 (74 + t) (walk u) → i ≡ count_said 0 (walk u) → j ≡ count_said 2 (walk u)
    → record {
      version = v;
      application = record { at = 74 + a; len = length name };
      maximum = z;
      records = n;
      class = c;
      version_name = d;
      invoked = i;
      performed = j;
      roles = m;
    }
    ≡ fields_with x n m
unfolding fields_with application_at application_of
fields_are x s u t b p q e f g h k l o r =
    rw (e, f, g, h, k, l, o, r, part_is x s u t b p q 0x52, part_is x s u t b p q 0x55, said_is x s u t b p q 0, said_is x s u t b p q 2, b)

pub ruleset long_rules = (rules, valid_long)

-- ---- `read`
module _ (x o t : List ℕ) (d : Side) where
  -- no PDU of the kind
  pub read_other : (kind_of x ≡ number_of d → ⊥) → Read (number_of d) x o t (refused 7) o t
  unfolding associate_of filling roles_filling front
  read_other n = let z : eqb (kind_of x) (number_of d) ≡ false = ne_eqb (kind_of x) (number_of d) n in record { answer = simp z; sheet = simp z; roles = simp z }

  module _ (e : kind_of x ≡ number_of d) (n : Counts) (g : Counted (number_of d) x n) where
    yes : eqb (kind_of x) (number_of d) ≡ true
    yes = eq-eqb (kind_of x) (number_of d) e

    -- too few records in the sheet
    pub read_narrow : length o / 132 < n.records → Read (number_of d) x o t (refused 2) o t
    unfolding associate_of filling roles_filling front
    read_narrow l =
        let s = g.records in
        let z : ltb (length o) (length (sheet_in (number_of d) x)) ≡ true = lt-ltb (length o) (length (sheet_in (number_of d) x)) (omega arith) in
        record { answer = simp (yes, z); sheet = simp (yes, z); roles = simp (yes, z) }

    module _ (l : n.records ≤ length o / 132) where
      pub read_room : length (sheet_in (number_of d) x) ≤ length o
      read_room = let s = g.records in omega arith

      enough : ltb (length o) (length (sheet_in (number_of d) x)) ≡ false
      enough = le-ltb (length o) (length (sheet_in (number_of d) x)) read_room

      -- or in the role sheet
      pub read_few : length t / 68 < n.roles → Read (number_of d) x o t (refused 2) o t
      unfolding associate_of filling roles_filling front
      read_few f =
          let s = g.roles in
          let y = enough in
          let z : ltb (length t) (length (roles_sheet_in x)) ≡ true = lt-ltb (length t) (length (roles_sheet_in x)) (omega arith) in
          record { answer = simp (yes, y, z); sheet = simp (yes, y, z); roles = simp (yes, y, z) }

      module _ (f : n.roles ≤ length t / 68) where
        pub read_roles_room : length (roles_sheet_in x) ≤ length t
        read_roles_room = let s = g.roles in omega arith

        pub read_done : (o' t' : List ℕ) → Filled (number_of d) x o t o' t' → Read (number_of d) x o t (told (fields_with x n.records n.roles)) o' t'
        unfolding associate_of filling roles_filling
        read_done o' t' w =
            let s = g.records in
            let s' = g.roles in
            let y = enough in
            let z : ltb (length t) (length (roles_sheet_in x)) ≡ false = le-ltb (length t) (length (roles_sheet_in x)) read_roles_room in
            let i : length (sheet_in (number_of d) x) / 132 ≡ n.records = omega arith in
            let i' : length (roles_sheet_in x) / 68 ≡ n.roles = omega arith in
            record {
              answer = fields_of_so x (number_of d) (side_from d) (side_to d) n.records n.roles e i i' ∙ simp (yes, y, z);
              sheet = w.sheet ∙ simp (yes, y, z);
              roles = w.roles ∙ simp (yes, y, z);
            }

-- a part that is told stands behind the fixed fields
part_placed : (x : List ℕ) (y : ℕ) → IfSome (sub_part y x) (λ p. 0 < p.at)
unfolding part_at sub_items_at
part_placed x y = go (empty (bodies y (sub_items_of x)))
  where
    go : (b : Bool) → IfSome (cond b None (Some (record { at = 74 + place 0x50 (walk (drop 74 x)) + place y (sub_items_of x); len = length (first (bodies y (sub_items_of x))) }))) (λ (p : Part). 0 < p.at)
    go true = tt
    go false = omega arith

pub fields_placed : (x : List ℕ) (n m : ℕ) → Placed (fields_with x n m)
unfolding fields_with
fields_placed x n m = record { class = part_placed x 0x52; version_name = part_placed x 0x55 }

-- ---- an answer is told by the record that it is, and by where its parts stand
abbrev part : ℕ → ℕ → Part
part m n = record { at = m; len = n }

part_once : (a b : Option Part) → IfSome a (λ p. 0 < p.at) → IfSome b (λ p. 0 < p.at) → part_place a ≡ part_place b → part_length a ≡ part_length b → a ≡ b
part_once None None p q e f = refl
part_once None (Some b) p q e f = absurd (omega arith)
part_once (Some a) None p q e f = absurd (omega arith)
part_once (Some a) (Some b) p q e f = ap (λ (m : ℕ). Some (part m a.len)) e ∙ ap (λ (m : ℕ). Some (part b.at m)) f

abbrev back : Associate → Option Part → Option Part → Told
back f c v =
    record {
      version = f.version;
      application = part f.application_at f.application_len;
      maximum = f.maximum;
      records = f.records;
      class = c;
      version_name = v;
      invoked = f.invoked;
      performed = f.performed;
      roles = f.roles;
    }

told_once : (a b : Told) → Placed a → Placed b → told a ≡ told b → a ≡ b
told_once a b p q e =
    let c : a.class ≡ b.class = part_once a.class b.class p.class q.class (ap (λ (f : Associate). f.class_at) e) (ap (λ (f : Associate). f.class_len) e) in
    let v : a.version_name ≡ b.version_name =
    part_once a.version_name b.version_name p.version_name q.version_name (ap (λ (f : Associate). f.version_name_at) e) (ap (λ (f : Associate). f.version_name_len) e) in
    ap (λ (f : Associate). back f a.class a.version_name) e ∙ (ap (λ (d : Option Part). back (told b) d a.version_name) c ∙ ap (back (told b) b.class) v)

pub associate_once : (a b : Result Told Refusal) → IfOk a Placed → IfOk b Placed → associate_as a ≡ associate_as b → a ≡ b
associate_once (Ok a) (Ok b) p q e = ap Ok (told_once a b p q e)
associate_once (Ok a) (Err n) p q e = absurd (refusal_some n (ap (λ (f : Associate). f.refusal) (sym e)))
associate_once (Err m) (Ok b) p q e = absurd (refusal_some m (ap (λ (f : Associate). f.refusal) e))
associate_once (Err m) (Err n) p q e = ap Err (refusal_once (ap (λ (f : Associate). f.refusal) e))
