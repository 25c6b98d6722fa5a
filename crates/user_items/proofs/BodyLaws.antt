-- The tests of the sub-items' bodies.
-- Assumes nothing.
use Prim.Native.Nat.{ℕ, ◌+◌, ◌-◌, ◌≤◌, ◌<◌, min}
use native.Mathlib.Omega.{arith}
use mathlib.Core.Bool.{Bool, true, false, ◌&&◌}
use mathlib.Core.List.{List, []}
use mathlib.Core.Path.{◌≡◌, refl, sym, ◌∙◌}
use lib.ListN.{length, take, drop, get_or, length-drop, drop_of_length-le}
use lib.Seq.{take_all, take-nil}
use lib.Dec.{leb, eqb}
use borrow.Author.Tests.{le-leb, lt-leb, leb-true, leb-false}
use Rattle.std.specs.List.{list_all}
use Rattle.laws.specs.Lists.{all}
use Rattle.laws.proofs.Library.{all_list}
use Rattle.octets.specs.Octets.{be16}
use Rattle.names.specs.Name.{name_ok}
use Rattle.titles.specs.Title.{title_byte}
use Rattle.roles.specs.Role.{role_ok}
use Rattle.user_items.specs.Kinds.{version_ok, uid_in, uid_from, role_of, good_54h}

-- ---- `uid_in`
module _ (b : List ℕ) where
  pub uid_none : length b < 2 → [] ≡ uid_in b
  unfolding uid_in
  uid_none h = let l : length b ≤ 2 = omega arith in sym (rw (drop_of_length-le b l, take-nil {A = ℕ} (be16 b 0)))

  pub from_none : length b < 2 → 0 ≡ uid_from b
  unfolding uid_from
  from_none h = simp (lt-leb 2 (length b) h)

  pub from_two : 2 ≤ length b → 2 ≡ uid_from b
  unfolding uid_from
  from_two h = simp (le-leb 2 (length b) h)

  -- cut at the end of the body, or where the length says
  pub uid_cut : (e : ℕ) → e ≡ min (length b) (2 + be16 b 0) → take (e - 2) (drop 2 b) ≡ uid_in b
  unfolding uid_in
  uid_cut e p = go (leb (length b) (2 + be16 b 0)) refl
    where
      go : (d : Bool) → leb (length b) (2 + be16 b 0) ≡ d → take (e - 2) (drop 2 b) ≡ take (be16 b 0) (drop 2 b)
      go true q =
          let h = leb-true (length b) (2 + be16 b 0) q in
          let l = length-drop 2 b in
          take_all (e - 2) (drop 2 b) (omega arith) ∙ sym (take_all (be16 b 0) (drop 2 b) (omega arith))
      go false q = let h = leb-false (length b) (2 + be16 b 0) q in let z : e - 2 ≡ be16 b 0 = omega arith in rw z

-- ---- `version_ok`
pub version_by : (b : List ℕ) (r : Bool) → 1 ≤ length b → length b ≤ 16 → r ≡ list_all title_byte b → r ≡ version_ok b
unfolding version_ok
version_by b r l m e = rw (le-leb 1 (length b) l, le-leb (length b) 16 m) (e ∙ all_list title_byte b)

pub version_not : (b : List ℕ) → (1 ≤ length b → length b ≤ 16 → ⊥) → false ≡ version_ok b
unfolding version_ok
version_not b n = go (leb 1 (length b)) refl (leb (length b) 16) refl
  where
    go : (d : Bool) → leb 1 (length b) ≡ d → (e : Bool) → leb (length b) 16 ≡ e → false ≡ (d && (e && all title_byte b))
    go true p true q = absurd (n (leb-true 1 (length b) p) (leb-true (length b) 16 q))
    go true p false q = refl
    go false p e q = refl

-- ---- `role_good`
pub role_parts : (b : List ℕ) → good_54h b ≡ (eqb (length b) (2 + be16 b 0 + 2) && (name_ok (uid_in b) && (leb (get_or b (2 + be16 b 0) 0) 1 && leb (get_or b (3 + be16 b 0) 0) 1)))
unfolding good_54h role_ok role_of
role_parts b = refl
