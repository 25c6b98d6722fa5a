-- The body of a 54H and the role that it says: each is made of the other.
-- Assumes nothing.
use Prim.Native.Nat.{ℕ, ◌+◌, ◌*◌, ◌/◌, ◌%◌, ◌≤◌, ◌<◌}
use native.Mathlib.Omega.{arith}
use mathlib.Core.Bool.{true}
use mathlib.Core.List.{List, [], ◌∷◌, ◌++◌}
use mathlib.Core.Path.{◌≡◌, refl, sym, ap, ◌∙◌}
use lib.ListN.{length, take, drop, get_or, length-append, take-append-drop}
use lib.Seq.{length-take-le, take_at, get_or-drop, get_or-append-add}
use lib.Dec.{leb, eqb}
use borrow.Author.Tests.{eq-eqb, eqb-true, leb-true}
use Rattle.laws.proofs.Booleans.{left_of, right_of, both_of}
use Rattle.laws.proofs.Places.{at_cons, at_end}
use Rattle.octets.specs.Octets.{be16, two}
use Rattle.names.specs.Name.{name_ok}
use Rattle.roles.specs.Role.{Role, role_ok}
use Rattle.roles.proofs.Inverse.{role_fits}
use Rattle.user_items.specs.Kinds.{uid_in, role_of, good_54h}
use Rattle.user_items.specs.Sent.{role_body}

-- ---- a good role
module _ (r : Role) (g : role_ok r ≡ true) where
  pub role_named : name_ok r.uid ≡ true
  unfolding role_ok
  role_named = left_of _ _ g

  pub role_scu : r.scu ≤ 1
  unfolding role_ok
  role_scu = leb-true _ _ (left_of _ _ (right_of (name_ok r.uid) _ g))

  pub role_scp : r.scp ≤ 1
  unfolding role_ok
  role_scp = leb-true _ _ (right_of (leb r.scu 1) _ (right_of (name_ok r.uid) _ g))

-- ---- what is written is read
pub body_length : (r : Role) → length (role_body r) ≡ 4 + length r.uid
unfolding role_body
body_length r = let l = length-append r.uid (r.scu ∷ r.scp ∷ []) in omega arith

module _ (r : Role) (h : length r.uid < 65536) where
  said_length : be16 (role_body r) 0 ≡ length r.uid
  unfolding be16 role_body
  said_length = omega arith

  head : take (length r.uid) (drop 2 (role_body r)) ≡ r.uid
  unfolding role_body
  head = take_at r.uid (r.scu ∷ r.scp ∷ []) (length r.uid) refl

  pub body_uid : uid_in (role_body r) ≡ r.uid
  unfolding uid_in
  body_uid = rw said_length head

  behind : (n : ℕ) → get_or (role_body r) (2 + (length r.uid + n)) 0 ≡ get_or (r.scu ∷ r.scp ∷ []) n 0
  unfolding role_body
  behind n = sym (get_or-drop 2 (two (length r.uid) ++ (r.uid ++ (r.scu ∷ r.scp ∷ []))) (length r.uid + n) 0) ∙ get_or-append-add r.uid (r.scu ∷ r.scp ∷ []) n 0

  pub body_role : role_of (role_body r) ≡ r
  unfolding role_of
  body_role =
      let z : 2 + length r.uid ≡ 2 + (length r.uid + 0) = omega arith in
      let o : 3 + length r.uid ≡ 2 + (length r.uid + 1) = omega arith in
      rw (body_uid, said_length, z, o, behind 0, behind 1)

pub body_good : (r : Role) → role_ok r ≡ true → good_54h (role_body r) ≡ true
unfolding good_54h
body_good r g =
    let s = role_fits r g in
    let h : length r.uid < 65536 = omega arith in
    let l = body_length r in
    rw (body_role r h, said_length r h) (both_of _ _ (eq-eqb (length (role_body r)) (2 + length r.uid + 2) (omega arith)) g)

-- ---- what is read is written
module _ (b : List ℕ) (g : good_54h b ≡ true) where
  pub filled_54 : length b ≡ 2 + be16 b 0 + 2
  unfolding good_54h
  filled_54 = eqb-true _ _ (left_of _ _ g)

  pub role_54 : role_ok (role_of b) ≡ true
  unfolding good_54h
  role_54 = right_of (eqb (length b) (2 + be16 b 0 + 2)) _ g

-- a list from a place on that has two elements more
two_left : (l : List ℕ) (n : ℕ) → length l ≡ n + 2 → take n l ++ (get_or l n 0 ∷ get_or l (n + 1) 0 ∷ []) ≡ l
two_left l n h =
    let d : drop n l ≡ get_or l n 0 ∷ get_or l (n + 1) 0 ∷ [] = at_cons l n (omega arith) ∙ rw (at_cons l (n + 1) (omega arith), at_end l (n + 1 + 1) (omega arith)) in
    ap (λ (x : List ℕ). take n l ++ x) (sym d) ∙ take-append-drop n l

pub role_body_so : (b : List ℕ) → good_54h b ≡ true → role_body (role_of b) ≡ b
unfolding role_body role_of uid_in be16
role_body_so [] g = let f = filled_54 [] g in absurd (omega arith)
role_body_so (x ∷ []) g = let f = filled_54 (x ∷ []) g in absurd (omega arith)
role_body_so (x ∷ y ∷ l) g =
    let n : ℕ = x * 256 + y in
    let f : length (x ∷ y ∷ l) ≡ 2 + n + 2 = filled_54 (x ∷ y ∷ l) g in
    let u : length (take n l) ≡ n = length-take-le n l (omega arith) in
    let s : length (take n l) ≤ 64 = role_fits (role_of (x ∷ y ∷ l)) (role_54 (x ∷ y ∷ l) g) in
    let hi : length (take n l) / 256 ≡ x = omega arith in
    let lo : length (take n l) % 256 ≡ y = omega arith in
    let o : 3 + n ≡ 2 + (n + 1) = omega arith in
    rw (hi, lo, o, ← get_or-drop 2 (x ∷ y ∷ l) n 0, ← get_or-drop 2 (x ∷ y ∷ l) (n + 1) 0) (ap (λ (m : List ℕ). x ∷ y ∷ m) (two_left l n (omega arith)))
