-- What a good 50H has, kind by kind.
-- Assumes nothing.
use Prim.Native.Nat.{ℕ, ◌≤◌, ◌<◌}
use native.Mathlib.Omega.{arith}
use mathlib.Core.Bool.{true, false, ◌&&◌}
use mathlib.Core.List.{List, [], ◌∷◌, map}
use mathlib.Core.Path.{◌≡◌, refl, ap, ◌∙◌}
use lib.ListN.{length, get_or}
use lib.Dec.{leb}
use borrow.Author.Tests.{le-leb, leb-true, eqb-true}
use Rattle.laws.specs.Lists.{all, differ}
use Rattle.laws.proofs.Booleans.{held, left_of, right_of, both_of, all_mapped}
use Rattle.laws.proofs.Found.{all_at, at_all}
use Rattle.names.specs.Name.{name_ok}
use Rattle.items.specs.Items.{Walk, walk, filled, bodies, first}
use Rattle.items.proofs.HoldLaws.{first_good}
use Rattle.items.proofs.PlaceLaws.{stands, place_head}
use Rattle.roles.specs.Role.{role_uid, role_ok, roles_ok}
use Rattle.user_items.specs.Kinds.{Kind, alike, four_long, version_ok, uid_in, role_of, good_54h, user_kinds, kept, sub_items_ok, good_50h}
use Rattle.user_items.specs.Said.{roles_said}
use Rattle.user_items.proofs.RoleLaws.{role_54}

-- ---- a kind that is kept
module _ (w : Walk) (k : Kind) (g : kept w k ≡ true) where
  pub kept_good : all k.good (bodies k.type w) ≡ true
  unfolding kept
  kept_good = left_of _ _ g

  pub kept_once : differ (map k.once (bodies k.type w)) ≡ true
  unfolding kept
  kept_once = right_of (all k.good (bodies k.type w)) _ g

-- where all bodies are alike, no second one
pub alike_few : (bs : List (List ℕ)) → differ (map alike bs) ≡ true → length bs ≤ 1
unfolding differ
alike_few [] h = omega arith
alike_few (b ∷ []) h = omega arith
alike_few (b ∷ c ∷ bs) h = absurd (held false h)

pub few_alike : (bs : List (List ℕ)) → length bs ≤ 1 → differ (map alike bs) ≡ true
unfolding differ
few_alike [] h = refl
few_alike (b ∷ []) h = refl
few_alike (b ∷ c ∷ bs) h = absurd (omega arith)

-- ---- the roles that 54Hs say
said_uids : (bs : List (List ℕ)) → map role_uid (map role_of bs) ≡ map uid_in bs
unfolding role_of
said_uids [] = refl
said_uids (b ∷ bs) = rw (said_uids bs)

pub said_ok : (w : Walk) → all good_54h (bodies 0x54 w) ≡ true → differ (map uid_in (bodies 0x54 w)) ≡ true → roles_ok (roles_said w) ≡ true
unfolding roles_ok roles_said
said_ok w g d = both_of _ _ (all_mapped good_54h role_ok role_of role_54 (bodies 0x54 w) g) (ap differ (said_uids (bodies 0x54 w)) ∙ d)

-- ---- the whole
-- past the last kind: none is asked for
pub other : Kind
other = record { type = 0; good = λ b. true; once = alike }

module _ (b : List ℕ) (g : good_50h b ≡ true) where
  parts : (filled (walk b) && (leb 1 (length (bodies 0x51 (walk b))) && all (kept (walk b)) user_kinds)) ≡ true
  unfolding good_50h sub_items_ok
  parts = g

  kinds : all (kept (walk b)) user_kinds ≡ true
  kinds = right_of (leb 1 (length (bodies 0x51 (walk b)))) _ (right_of (filled (walk b)) _ parts)

  -- the n-th kind
  kind : (n : ℕ) → n < 5 → kept (walk b) (get_or user_kinds n other) ≡ true
  kind n h = all_at (kept (walk b)) other user_kinds kinds n h

  pub user_filled : filled (walk b) ≡ true
  user_filled = left_of _ _ parts

  -- one 51H, of length 4
  pub maximum_four : all four_long (bodies 0x51 (walk b)) ≡ true
  maximum_four = kept_good (walk b) _ (kind 0 (omega arith))

  pub maximum_one : length (bodies 0x51 (walk b)) ≡ 1
  maximum_one =
      let l : 1 ≤ length (bodies 0x51 (walk b)) = leb-true _ _ (left_of _ _ (right_of (filled (walk b)) _ parts)) in
      let m : length (bodies 0x51 (walk b)) ≤ 1 = alike_few (bodies 0x51 (walk b)) (kept_once (walk b) _ (kind 0 (omega arith))) in
      omega arith

  pub maximum_length : length (first (bodies 0x51 (walk b))) ≡ 4
  unfolding four_long
  maximum_length = let n = maximum_one in eqb-true _ _ (first_good four_long (bodies 0x51 (walk b)) (omega arith) maximum_four)

  -- at most one 52H, a name
  pub class_good : all name_ok (bodies 0x52 (walk b)) ≡ true
  class_good = kept_good (walk b) _ (kind 1 (omega arith))

  pub class_few : length (bodies 0x52 (walk b)) ≤ 1
  class_few = alike_few (bodies 0x52 (walk b)) (kept_once (walk b) _ (kind 1 (omega arith)))

  -- at most one 53H, of length 4
  pub counts_four : all four_long (bodies 0x53 (walk b)) ≡ true
  counts_four = kept_good (walk b) _ (kind 2 (omega arith))

  pub counts_few : length (bodies 0x53 (walk b)) ≤ 1
  counts_few = alike_few (bodies 0x53 (walk b)) (kept_once (walk b) _ (kind 2 (omega arith)))

  -- good 54Hs, no UID twice
  pub roles_good : all good_54h (bodies 0x54 (walk b)) ≡ true
  roles_good = kept_good (walk b) _ (kind 3 (omega arith))

  pub uids_differ : differ (map uid_in (bodies 0x54 (walk b))) ≡ true
  uids_differ = kept_once (walk b) _ (kind 3 (omega arith))

  pub roles_said_so : roles_ok (roles_said (walk b)) ≡ true
  roles_said_so = said_ok (walk b) roles_good uids_differ

  -- at most one 55H, a version name
  pub version_good : all version_ok (bodies 0x55 (walk b)) ≡ true
  version_good = kept_good (walk b) _ (kind 4 (omega arith))

  pub version_few : length (bodies 0x55 (walk b)) ≤ 1
  version_few = alike_few (bodies 0x55 (walk b)) (kept_once (walk b) _ (kind 4 (omega arith)))

  -- the 51H alone has eight bytes
  pub user_size : 8 ≤ length b
  user_size =
      let n = maximum_one in
      let l = maximum_length in
      let p = place_head 0x51 (walk b) (omega arith) in
      let s = (stands 0x51 b).within in
      omega arith

-- ---- and back: filled, a 51H, and each kind kept
pub user_back : (b : List ℕ) → filled (walk b) ≡ true → 1 ≤ length (bodies 0x51 (walk b)) → ((n : ℕ) → n < 5 → kept (walk b) (get_or user_kinds n other) ≡ true) → good_50h b ≡ true
unfolding good_50h sub_items_ok
user_back b f l k = both_of _ _ f (both_of _ _ (le-leb 1 (length (bodies 0x51 (walk b))) l) (at_all (kept (walk b)) other user_kinds k))

pub kept_back : (w : Walk) (k : Kind) → all k.good (bodies k.type w) ≡ true → differ (map k.once (bodies k.type w)) ≡ true → kept w k ≡ true
unfolding kept
kept_back w k g d = both_of _ _ g d
