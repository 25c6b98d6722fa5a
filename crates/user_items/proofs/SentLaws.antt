-- The user information that is sent: a good 50H, which says what was given; where the class UID and the version name stand in it.
-- Assumes nothing.
use Prim.Native.Nat.{ℕ, zero, suc, ◌+◌, ◌-◌, ◌≤◌, ◌<◌}
use native.Mathlib.Omega.{arith}
use mathlib.Core.Bool.{Bool, true, false, ◌&&◌, ◌||◌, cond}
use mathlib.Core.List.{List, [], ◌∷◌, ◌++◌, map, append_assoc, append-nil}
use mathlib.Core.Path.{◌≡◌, refl, sym, ap, ◌∙◌}
use lib.ListN.{length, get_or}
use lib.Dec.{eqb}
use borrow.Author.Tests.{eqb-true, ltb-true}
use Rattle.laws.specs.Lists.{all, empty, differ}
use Rattle.laws.proofs.Booleans.{left_of, right_of, both_of, all_mapped}
use Rattle.numbers.specs.Lengths.{LONGEST}
use Rattle.octets.specs.Octets.{be16, two, four}
use Rattle.names.specs.Name.{name_ok}
use Rattle.items.specs.Items.{done, walk, filled, bodies, first, place}
use Rattle.items.specs.Wire.{sequence}
use Rattle.items.proofs.WireLaws.{along, fits, of_type, sequence_cons, sequence_length, sequence_fits, walk_whole, filled_along, bodies_whole, of_append, of_same, of_other, place_whole}
use Rattle.roles.specs.Role.{Role, role_uid, role_ok, roles_ok}
use Rattle.roles.specs.Sheet.{roles_in, role_sheet_ok}
use Rattle.roles.proofs.Inverse.{role_fits, sheet_roles, sheet_each}
use Rattle.user_items.specs.Kinds.{four_long, version_ok, uid_in, role_of, good_54h, user_kinds, kept, good_50h}
use Rattle.user_items.specs.Said.{class_said, version_said, count_said, invoked_said, performed_said, roles_said}
use Rattle.user_items.specs.Sent.{User, count_ok, user_good, role_body, count_items, role_items, version_items, sub_items, user_bytes}
use Rattle.user_items.proofs.RoleLaws.{body_uid, body_role, body_good}
use Rattle.user_items.proofs.GoodLaws.{other, few_alike, user_back, kept_back}

-- ---- what good contents have
module _ (u : User) (g : user_good u ≡ true) where
  parts : (name_ok u.class && ((empty u.version || version_ok u.version) && (role_sheet_ok u.roles && (count_ok u.invoked && count_ok u.performed)))) ≡ true
  unfolding user_good
  parts = g

  rest : ((empty u.version || version_ok u.version) && (role_sheet_ok u.roles && (count_ok u.invoked && count_ok u.performed))) ≡ true
  rest = right_of (name_ok u.class) _ parts

  after : (role_sheet_ok u.roles && (count_ok u.invoked && count_ok u.performed)) ≡ true
  after = right_of (empty u.version || version_ok u.version) _ rest

  numbers : (count_ok u.invoked && count_ok u.performed) ≡ true
  numbers = right_of (role_sheet_ok u.roles) _ after

  pub given_class : name_ok u.class ≡ true
  given_class = left_of _ _ parts

  pub given_version : (empty u.version || version_ok u.version) ≡ true
  given_version = left_of _ _ rest

  pub given_sheet : role_sheet_ok u.roles ≡ true
  given_sheet = left_of _ _ after

  pub given_invoked : u.invoked < 65536
  unfolding count_ok
  given_invoked = ltb-true _ _ (left_of _ _ numbers)

  pub given_performed : u.performed < 65536
  unfolding count_ok
  given_performed = ltb-true _ _ (right_of (count_ok u.invoked) _ numbers)

-- ---- good roles written as 54Hs
pub bodies_good : (rs : List Role) → all role_ok rs ≡ true → all good_54h (map role_body rs) ≡ true
bodies_good rs g = all_mapped role_ok good_54h role_body body_good rs g

pub bodies_roles : (rs : List Role) → all role_ok rs ≡ true → map role_of (map role_body rs) ≡ rs
bodies_roles [] g = refl
bodies_roles (r ∷ rs) g =
    let s = role_fits r (left_of _ _ g) in
    rw (body_role r (omega arith), bodies_roles rs (right_of (role_ok r) _ g))

pub bodies_uids : (rs : List Role) → all role_ok rs ≡ true → map uid_in (map role_body rs) ≡ map role_uid rs
bodies_uids [] g = refl
bodies_uids (r ∷ rs) g =
    let s = role_fits r (left_of _ _ g) in
    rw (body_uid r (omega arith), bodies_uids rs (right_of (role_ok r) _ g))

-- ---- the sub-items of each type
-- one that need not come
of_one : (t k : ℕ) (d : Bool) (b : List ℕ) → of_type t (cond d [] ((k, b) ∷ [])) ≡ cond (eqb k t) (cond d [] (b ∷ [])) []
unfolding of_type
of_one t k false b = refl
of_one t k true b = go (eqb k t)
  where
    go : (e : Bool) → ◌≡◌ {A = List (List ℕ)} [] (cond e [] [])
    go true = refl
    go false = refl

-- the counts are 1 and 1
abbrev pub plain : User → Bool
plain u = eqb u.invoked 1 && eqb u.performed 1

-- the bodies of the 53H and of the 55H, where they are sent
abbrev pub count_bodies : User → List (List ℕ)
count_bodies u = cond (plain u) [] ((two u.invoked ++ two u.performed) ∷ [])

abbrev pub version_bodies : User → List (List ℕ)
version_bodies u = cond (empty u.version) [] (u.version ∷ [])

module _ (u : User) where
  -- behind the 51H and the 52H
  tail : (t : ℕ) → of_type t (count_items u ++ (role_items u ++ version_items u)) ≡ of_type t (count_items u) ++ (of_type t (role_items u) ++ of_type t (version_items u))
  tail t = of_append t (count_items u) (role_items u ++ version_items u) ∙ ap (λ (x : List (List ℕ)). of_type t (count_items u) ++ x) (of_append t (role_items u) (version_items u))

  of_counts : (t : ℕ) → of_type t (count_items u) ≡ cond (eqb 0x53 t) (count_bodies u) []
  unfolding count_items
  of_counts t = of_one t 0x53 (plain u) (two u.invoked ++ two u.performed)

  of_roles : eqb 0x54 0x54 ≡ true → of_type 0x54 (role_items u) ≡ map role_body (roles_in u.roles)
  unfolding role_items
  of_roles e = of_same 0x54 0x54 role_body e (roles_in u.roles)

  no_roles : (t : ℕ) → eqb 0x54 t ≡ false → of_type t (role_items u) ≡ []
  unfolding role_items
  no_roles t e = of_other t 0x54 role_body e (roles_in u.roles)

  of_version : (t : ℕ) → of_type t (version_items u) ≡ cond (eqb 0x55 t) (version_bodies u) []
  unfolding version_items
  of_version t = of_one t 0x55 (empty u.version) u.version

  module _ (h : length (user_bytes u) < 65536) where
    pub sent_fits : all fits (sub_items u) ≡ true
    unfolding user_bytes
    sent_fits = sequence_fits (sub_items u) h

    sent : (t : ℕ) → bodies t (walk (user_bytes u)) ≡ of_type t (sub_items u)
    unfolding user_bytes
    sent t = bodies_whole t (sub_items u) sent_fits

    pub sent_51 : bodies 0x51 (walk (user_bytes u)) ≡ four LONGEST ∷ []
    unfolding sub_items of_type
    sent_51 = sent 0x51 ∙ rw (tail 0x51, of_counts 0x51, no_roles 0x51 refl, of_version 0x51)

    pub sent_52 : bodies 0x52 (walk (user_bytes u)) ≡ u.class ∷ []
    unfolding sub_items of_type
    sent_52 = sent 0x52 ∙ rw (tail 0x52, of_counts 0x52, no_roles 0x52 refl, of_version 0x52)

    pub sent_53 : bodies 0x53 (walk (user_bytes u)) ≡ count_bodies u
    unfolding sub_items of_type
    sent_53 = sent 0x53 ∙ rw (tail 0x53, of_counts 0x53, no_roles 0x53 refl, of_version 0x53) (append-nil (count_bodies u))

    pub sent_54 : bodies 0x54 (walk (user_bytes u)) ≡ map role_body (roles_in u.roles)
    unfolding sub_items of_type
    sent_54 = sent 0x54 ∙ rw (tail 0x54, of_counts 0x54, of_roles refl, of_version 0x54) (append-nil (map role_body (roles_in u.roles)))

    pub sent_55 : bodies 0x55 (walk (user_bytes u)) ≡ version_bodies u
    unfolding sub_items of_type
    sent_55 = sent 0x55 ∙ rw (tail 0x55, of_counts 0x55, no_roles 0x55 refl, of_version 0x55)

    pub sent_filled : filled (walk (user_bytes u)) ≡ true
    unfolding user_bytes filled
    sent_filled = ap filled (walk_whole (sub_items u) sent_fits) ∙ filled_along (sub_items u) done

-- ---- it is good
module _ (u : User) (g : user_good u ≡ true) (h : length (user_bytes u) < 65536) where
  roles_each : all role_ok (roles_in u.roles) ≡ true
  roles_each = sheet_each u.roles (given_sheet u g)

  counts_kept : (d : Bool) (b : List ℕ) → four_long b ≡ true → all four_long (cond d [] (b ∷ [])) ≡ true
  counts_kept true b e = refl
  counts_kept false b e = both_of _ _ e refl

  version_kept : (v : List ℕ) → (empty v || version_ok v) ≡ true → all version_ok (cond (empty v) [] (v ∷ [])) ≡ true
  version_kept [] e = refl
  version_kept (x ∷ v) e = both_of _ _ e refl

  few_one : (d : Bool) (b : List ℕ) → length (cond d [] (b ∷ [])) ≤ 1
  few_one true b = omega arith
  few_one false b = omega arith

  uids : differ (map role_uid (roles_in u.roles)) ≡ true
  unfolding roles_ok
  uids = right_of (all role_ok (roles_in u.roles)) _ (sheet_roles u.roles (given_sheet u g))

  kinds : (n : ℕ) → n < 5 → kept (walk (user_bytes u)) (get_or user_kinds n other) ≡ true
  unfolding four_long
  kinds zero l = kept_back (walk (user_bytes u)) _ (rw (sent_51 u h)) (few_alike (bodies 0x51 (walk (user_bytes u))) (rw (sent_51 u h) (omega arith)))
  kinds (suc zero) l = kept_back (walk (user_bytes u)) _ (rw (sent_52 u h) (both_of _ _ (given_class u g) refl)) (few_alike (bodies 0x52 (walk (user_bytes u))) (rw (sent_52 u h) (omega arith)))
  kinds (suc (suc zero)) l =
      kept_back (walk (user_bytes u)) _ (rw (sent_53 u h) (counts_kept (plain u) (two u.invoked ++ two u.performed) refl)) (few_alike (bodies 0x53 (walk (user_bytes u))) (rw (sent_53 u h) (few_one (plain u) (two u.invoked ++ two u.performed))))
  kinds (suc (suc (suc zero))) l =
      kept_back (walk (user_bytes u)) _ (rw (sent_54 u h) (bodies_good (roles_in u.roles) roles_each)) (rw (sent_54 u h, bodies_uids (roles_in u.roles) roles_each) uids)
  kinds (suc (suc (suc (suc zero)))) l =
      kept_back (walk (user_bytes u)) _ (rw (sent_55 u h) (version_kept u.version (given_version u g))) (few_alike (bodies 0x55 (walk (user_bytes u))) (rw (sent_55 u h) (few_one (empty u.version) u.version)))
  kinds (suc (suc (suc (suc (suc n))))) l = absurd (omega arith)

  pub sent_good : good_50h (user_bytes u) ≡ true
  sent_good = user_back (user_bytes u) (sent_filled u h) (rw (sent_51 u h) (omega arith)) kinds

  -- ---- and says what was given
  pub sent_class : class_said (walk (user_bytes u)) ≡ u.class
  sent_class = ap first (sent_52 u h)

  pub sent_version : version_said (walk (user_bytes u)) ≡ u.version
  sent_version = ap first (sent_55 u h) ∙ go u.version
    where
      go : (v : List ℕ) → first (cond (empty v) [] (v ∷ [])) ≡ v
      go [] = refl
      go (x ∷ v) = refl

  pub sent_no_version : empty (bodies 0x55 (walk (user_bytes u))) ≡ empty u.version
  sent_no_version = ap empty (sent_55 u h) ∙ go u.version
    where
      go : (v : List ℕ) → empty (cond (empty v) [] (v ∷ [])) ≡ empty v
      go [] = refl
      go (x ∷ v) = refl

  -- a count that is 1 where none is sent, and stands in the 53H else
  count_said_so : (at n : ℕ) → (plain u ≡ true → n ≡ 1) → be16 (two u.invoked ++ two u.performed) at ≡ n → count_said at (walk (user_bytes u)) ≡ n
  unfolding count_said
  count_said_so at n e q = rw (sent_53 u h) (go (plain u) refl)
    where
      go : (d : Bool) → plain u ≡ d
          → cond (empty (cond d [] ((two u.invoked ++ two u.performed) ∷ []))) 1 (be16 (first (cond d [] ((two u.invoked ++ two u.performed) ∷ []))) at) ≡ n
      go true p = sym (e p)
      go false p = q

  pub sent_invoked : invoked_said (walk (user_bytes u)) ≡ u.invoked
  unfolding be16
  sent_invoked = let i = given_invoked u g in count_said_so 0 u.invoked (λ e. eqb-true _ _ (left_of _ _ e)) (omega arith)

  pub sent_performed : performed_said (walk (user_bytes u)) ≡ u.performed
  unfolding be16
  sent_performed = let p = given_performed u g in count_said_so 2 u.performed (λ e. eqb-true _ _ (right_of (eqb u.invoked 1) _ e)) (omega arith)

  pub sent_roles : roles_said (walk (user_bytes u)) ≡ roles_in u.roles
  unfolding roles_said
  sent_roles = ap (map role_of) (sent_54 u h) ∙ bodies_roles (roles_in u.roles) roles_each

-- ---- where the class UID and the version name stand
module _ (u : User) (h : length (user_bytes u) < 65536) where
  pub sent_class_place : place 0x52 (walk (user_bytes u)) ≡ 12
  unfolding user_bytes sub_items along place
  sent_class_place = ap (place 0x52) (walk_whole (sub_items u) (sent_fits u h))

  -- what stands before the 55H
  front : List (ℕ × List ℕ)
  front = (0x51, four LONGEST) ∷ (0x52, u.class) ∷ (count_items u ++ role_items u)

  split : empty u.version ≡ false → sub_items u ≡ front ++ ((0x55, u.version) ∷ [])
  unfolding sub_items version_items front
  split e = rw e (ap (λ (x : List (ℕ × List ℕ)). (0x51, four LONGEST) ∷ (0x52, u.class) ∷ x) (sym (append_assoc (count_items u) (role_items u) ((0x55, u.version) ∷ []))))

  no_version : of_type 0x55 front ≡ []
  unfolding of_type front
  no_version = of_append 0x55 (count_items u) (role_items u) ∙ rw (of_counts u 0x55, no_roles u 0x55 refl)

  pub sent_version_place : empty u.version ≡ false → place 0x55 (walk (user_bytes u)) ≡ length (user_bytes u) - length u.version
  unfolding user_bytes
  sent_version_place e =
      let s : sub_items u ≡ front ++ ((0x55, u.version) ∷ []) = split e in
      let f : all fits (front ++ ((0x55, u.version) ∷ [])) ≡ true = ap (all fits) (sym s) ∙ sent_fits u h in
      let p : place 0x55 (walk (sequence (sub_items u))) ≡ length (sequence front) + 4 = ap (λ (is : List (ℕ × List ℕ)). place 0x55 (walk (sequence is))) s ∙ place_whole 0x55 front u.version [] f no_version in
      let l : length (sequence (sub_items u)) ≡ length (sequence front) + length (sequence ((0x55, u.version) ∷ [])) = ap (λ (is : List (ℕ × List ℕ)). length (sequence is)) s ∙ sequence_length front ((0x55, u.version) ∷ []) in
      let c = sequence_cons (0x55, u.version) [] in
      omega arith
