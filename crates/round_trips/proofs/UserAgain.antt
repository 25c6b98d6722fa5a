-- The user information that is read from a good 50H may be sent again, with a class UID where it had none, and takes no more bytes but for that one. And how much any may take.
-- Assumes nothing.
use Prim.Native.Nat.{ℕ, ◌+◌, ◌*◌, ◌≤◌, ◌<◌}
use native.Mathlib.Omega.{arith}
use native.Mathlib.Decide.{dec_lt}
use mathlib.Core.Bool.{Bool, true, false, ◌&&◌, ◌||◌, cond, or-true}
use mathlib.Core.List.{List, [], ◌∷◌, map}
use mathlib.Core.Path.{◌≡◌, refl, ap}
use lib.ListN.{length, take, drop, get_or, length-take, length-drop, get_or-eq_default}
use lib.Seq.{length-take-le, get_or-take, get_or-drop}
use lib.Dec.{leb, eqb}
use borrow.Author.Tests.{eqb-true, leb-true, lt-ltb}
use Rattle.laws.specs.Lists.{all, among, distinct, empty}
use Rattle.laws.proofs.Booleans.{left_of, right_of, both_of}
use Rattle.octets.specs.Octets.{be16}
use Rattle.names.specs.Name.{name_ok}
use Rattle.names.proofs.NameLaws.{name_short}
use Rattle.titles.specs.Title.{title_byte}
use Rattle.items.specs.Items.{Walk, walk, bodies, first, place}
use Rattle.items.proofs.PlaceLaws.{stands}
use Rattle.roles.specs.Role.{Role, role_ok}
use Rattle.roles.specs.Sheet.{roles_in}
use Rattle.roles.proofs.Inverse.{role_fits, sheet_each, roles_back, roles_sheet_ok}
use Rattle.user_items.specs.Kinds.{four_long, version_ok, uid_in, role_of, good_54h, good_50h}
use Rattle.user_items.specs.Said.{count_said, roles_said}
use Rattle.user_items.specs.Sent.{User, user_good, count_ok}
use Rattle.user_items.proofs.SentLaws.{given_class, given_version, given_sheet}
use Rattle.user_items.proofs.GoodLaws.{user_filled, maximum_one, maximum_length, class_good, counts_four, roles_good, roles_said_so, version_good}
use Rattle.judging.specs.Pdu.{top_items}
use Rattle.reading.specs.Associate.{sub_items_of, roles_sheet_in}
use Rattle.writing.specs.Cases.{roles_size, added}
use Rattle.sheet_room.proofs.Sizes.{sizes, sizes_of}
use Rattle.round_trips.specs.Trips.{class_or, user_read, class_grown}
use Rattle.round_trips.proofs.Share.{shares, first_size}

-- ---- a part of a list of bytes is one
pub part_bytes : (at n : ℕ) (s : List ℕ) → ((i : ℕ) → get_or s i 0 < 256) → (i : ℕ) → get_or (take n (drop at s)) i 0 < 256
part_bytes at n s b i = go (dec_lt i n)
  where
    go : Dec (i < n) → get_or (take n (drop at s)) i 0 < 256
    go (yes h) = rw (get_or-take n (drop at s) i 0 h, get_or-drop at s i 0) (b (at + i))
    go (no h) =
        let l : length (take n (drop at s)) ≤ i = omega (arith, length-take n (drop at s)) in
        rw (get_or-eq_default (take n (drop at s)) 0 l) (omega arith)

-- and so is the first body of a type
first_bytes : (t : ℕ) (s : List ℕ) → ((i : ℕ) → get_or s i 0 < 256) → (i : ℕ) → get_or (first (bodies t (walk s))) i 0 < 256
first_bytes t s b i = rw (stands t s).part at (part_bytes (place t (walk s)) (length (first (bodies t (walk s)))) s b i)

count_fits : (s : List ℕ) (at : ℕ) → ((i : ℕ) → get_or s i 0 < 256) → be16 s at < 65536
unfolding be16
count_fits s at b = let h = b at in let l = b (at + 1) in omega arith

-- ---- the bytes that each kind takes
class_size : (given : List ℕ) (bs : List (List ℕ)) → 4 + length (cond (empty bs) given (first bs)) ≤ sizes bs + cond (empty bs) (4 + length given) 0
unfolding sizes
class_size given [] = omega arith
class_size given (b ∷ bs) = omega arith

at_most : (b : Bool) (n : ℕ) → cond b 0 n ≤ n
at_most true n = omega arith
at_most false n = omega arith

counts_size : (w : Walk) → all four_long (bodies 0x53 w) ≡ true → cond (eqb (count_said 0 w) 1 && eqb (count_said 2 w) 1) 0 8 ≤ sizes (bodies 0x53 w)
unfolding count_said sizes four_long
counts_size w = go (bodies 0x53 w)
  where
    go : (bs : List (List ℕ)) → all four_long bs ≡ true → cond (eqb (cond (empty bs) 1 (be16 (first bs) 0)) 1 && eqb (cond (empty bs) 1 (be16 (first bs) 2)) 1) 0 8 ≤ sizes bs
    go [] g = omega arith
    go (b ∷ bs) g =
        let l = eqb-true (length b) 4 (left_of _ _ g) in
        let m = at_most (eqb (be16 b 0) 1 && eqb (be16 b 2) 1) 8 in
        omega arith

-- a 54H takes the bytes of its name and eight more
role_size : (b : List ℕ) → good_54h b ≡ true → length b ≡ 2 + length (uid_in b) + 2
unfolding good_54h uid_in
role_size b g =
    let l = eqb-true (length b) (2 + be16 b 0 + 2) (left_of _ (role_ok (role_of b)) g) in
    let d = length-drop 2 b in
    let n = length-take-le (be16 b 0) (drop 2 b) (omega arith) in
    omega arith

roles_size_so : (bs : List (List ℕ)) → all good_54h bs ≡ true → roles_size (map role_of bs) ≡ sizes bs
unfolding roles_size role_of sizes
roles_size_so [] g = refl
roles_size_so (b ∷ bs) g = let l = role_size b (left_of _ _ g) in let r = roles_size_so bs (right_of (good_54h b) _ g) in omega arith

version_size : (bs : List (List ℕ)) → cond (empty (first bs)) 0 (4 + length (first bs)) ≤ sizes bs
unfolding sizes
version_size [] = omega arith
version_size (b ∷ bs) = let m = at_most (empty b) (4 + length b) in omega arith

-- ---- what is read from a PDU whose 50H is good
module _ (given pdu : List ℕ) (g : good_50h (first (bodies 0x50 (walk (top_items pdu)))) ≡ true) where
  abbrev body : List ℕ
  body = first (bodies 0x50 (walk (top_items pdu)))

  class_read : name_ok given ≡ true → name_ok (class_or given pdu) ≡ true
  unfolding class_or sub_items_of
  class_read n = go (bodies 0x52 (walk body)) (class_good body g)
    where
      go : (bs : List (List ℕ)) → all name_ok bs ≡ true → name_ok (cond (empty bs) given (first bs)) ≡ true
      go [] q = n
      go (b ∷ bs) q = left_of _ _ q

  version_read : (empty (first (bodies 0x55 (sub_items_of pdu))) || version_ok (first (bodies 0x55 (sub_items_of pdu)))) ≡ true
  unfolding sub_items_of
  version_read = go (bodies 0x55 (walk body)) (version_good body g)
    where
      go : (bs : List (List ℕ)) → all version_ok bs ≡ true → (empty (first bs) || version_ok (first bs)) ≡ true
      go [] q = refl
      go (b ∷ bs) q = rw (left_of (version_ok b) _ q) (or-true (empty b))

  count_read : ((i : ℕ) → get_or pdu i 0 < 256) → (at : ℕ) → count_ok (count_said at (sub_items_of pdu)) ≡ true
  unfolding count_ok count_said sub_items_of
  count_read b at = lt-ltb _ 65536 (go (bodies 0x53 (walk body)) (count_fits (first (bodies 0x53 (walk body))) at (first_bytes 0x53 body (first_bytes 0x50 (top_items pdu) (λ i. rw (get_or-drop 74 pdu i 0) (b (74 + i)))))))
    where
      go : (bs : List (List ℕ)) → be16 (first bs) at < 65536 → cond (empty bs) 1 (be16 (first bs) at) < 65536
      go [] l = omega arith
      go (x ∷ bs) l = l

  -- it may be sent; a count has two bytes, since the PDU is a list of bytes, that is, of numbers below 256
  pub user_again : name_ok given ≡ true → ((i : ℕ) → get_or pdu i 0 < 256) → user_good (user_read given pdu) ≡ true
  unfolding user_good roles_sheet_in sub_items_of
  user_again n b =
      both_of _ _ (class_read n) (both_of _ _ version_read (both_of _ _ (roles_sheet_ok (roles_said (walk body)) (roles_said_so body g)) (both_of _ _ (count_read b 0) (count_read b 2))))

  -- what it adds to the maximum length, in eight bytes, has room where it came from
  pub user_shorter : 8 + added (user_read given pdu) ≤ length body + class_grown given pdu
  unfolding added class_or class_grown roles_sheet_in sub_items_of roles_said sizes_of distinct among
  user_shorter =
      let t = shares (0x51 ∷ 0x52 ∷ 0x53 ∷ 0x54 ∷ 0x55 ∷ []) refl body (user_filled body g) in
      let n = maximum_one body g in
      let m = first_size (bodies 0x51 (walk body)) (omega arith) in
      let l = maximum_length body g in
      let c = class_size given (bodies 0x52 (walk body)) in
      let o = counts_size (walk body) (counts_four body g) in
      let r = ap roles_size (roles_back (roles_said (walk body)) (roles_said_so body g)) in
      let s = roles_size_so (bodies 0x54 (walk body)) (roles_good body g) in
      let v = version_size (bodies 0x55 (walk body)) in
      omega arith

-- ---- how much may be added: by a class UID, the counts and a version name at most 96 bytes, by a role at most 72
roles_most : (rs : List Role) → all role_ok rs ≡ true → roles_size rs ≤ 72 * length rs
unfolding roles_size
roles_most [] g = omega arith
roles_most (r ∷ rs) g = let l = role_fits r (left_of _ _ g) in let m = roles_most rs (right_of (role_ok r) _ g) in omega arith

version_most : (v : List ℕ) → (empty v || version_ok v) ≡ true → cond (empty v) 0 (4 + length v) ≤ 20
unfolding version_ok
version_most [] g = omega arith
version_most (x ∷ v) g = let l = leb-true (length (x ∷ v)) 16 (left_of _ (all title_byte (x ∷ v)) (right_of (leb 1 (length (x ∷ v))) _ g)) in omega arith

pub added_most : (u : User) → user_good u ≡ true → added u ≤ 96 + 72 * length (roles_in u.roles)
unfolding added
added_most u g =
    let c = name_short u.class (given_class u g) in
    let n = at_most (eqb u.invoked 1 && eqb u.performed 1) 8 in
    let r = roles_most (roles_in u.roles) (sheet_each u.roles (given_sheet u g)) in
    let v = version_most u.version (given_version u g) in
    omega arith
