-- Role sheets and roles are inverse where they are good: a good sheet's roles give back the sheet, and good roles are those of their sheet, which is good.
-- Assumes nothing.
use Prim.Native.Nat.{ℕ, zero, suc, ◌+◌, ◌*◌, ◌/◌, ◌%◌, ◌≤◌, ◌<◌}
use native.Mathlib.Omega.{arith}
use mathlib.Core.Bool.{true, ◌&&◌}
use mathlib.Core.List.{List, [], ◌∷◌, ◌++◌, map, append_assoc}
use mathlib.Core.Path.{◌≡◌, refl, sym, ap, ◌∙◌}
use lib.ListN.{length, take, drop, get_or, length-append, length-drop, length-map}
use lib.Seq.{take_at}
use lib.Dec.{eqb}
use borrow.Author.Tests.{eqb-true}
use Rattle.laws.specs.Lists.{all, differ, records}
use Rattle.laws.proofs.Booleans.{left_of, right_of, both_of}
use Rattle.laws.proofs.Differ.{differ_apart, apart_differ}
use Rattle.laws.proofs.Records.{Good, Sheeted, good, sheet_back, in_front, rows_front, sheeted_good, records_at, records_count}
use Rattle.names.proofs.NameLaws.{name_short}
use Rattle.numbers.specs.Lengths.{ROLE}
use Rattle.sheets.specs.Sheet.{field, field_ok}
use Rattle.sheets.proofs.RecordLaws.{cap_low, field_length}
use Rattle.sheets.proofs.Inverse.{four_first, field_small, used_length, field_back, field_good}
use Rattle.roles.specs.Role.{Role, role_uid, role_ok, roles_ok}
use Rattle.roles.specs.Sheet.{role_bytes, role_sheet, role_records, role_in, roles_in, unused_zero, role_sheet_ok}
use Rattle.roles.specs.Record.{uid_at}
use Rattle.roles.proofs.RecordLaws.{uid_here}

-- ---- a record whose unused bytes are zero is the bytes of what it says
module _ (r : List ℕ) (l : length r ≡ 68) (k : unused_zero r ≡ true) where
  unused_parts : (eqb (get_or r 3 0) 0 && field_ok (get_or r 0 0) (drop 4 r)) ≡ true
  unfolding unused_zero
  unused_parts = k

  field_long : length (drop 4 r) ≡ 64
  field_long = omega (arith, length-drop 4 r)

  uid_field : field_ok (get_or r 0 0) (drop 4 r) ≡ true
  uid_field = right_of (eqb (get_or r 3 0) 0) _ unused_parts

  uid_is : (role_in r).uid ≡ take (get_or r 0 0) (drop 4 r)
  unfolding role_in
  uid_is = rw (← cap_low (get_or r 0 0) (field_small (get_or r 0 0) (drop 4 r) field_long uid_field))

  pub role_record_back : role_bytes (role_in r) ≡ r
  unfolding role_bytes role_in
  role_record_back =
      let z : 0 ≡ get_or r 3 0 = sym (eqb-true (get_or r 3 0) 0 (left_of _ _ unused_parts)) in
      let n : length (role_in r).uid ≡ get_or r 0 0 = ap length uid_is ∙ used_length (get_or r 0 0) (drop 4 r) field_long uid_field in
      let f : field (role_in r).uid ≡ drop 4 r = ap field uid_is ∙ field_back (get_or r 0 0) (drop 4 r) field_long uid_field in
      let w : role_bytes (role_in r) ≡ get_or r 0 0 ∷ get_or r 1 0 ∷ get_or r 2 0 ∷ get_or r 3 0 ∷ drop 4 r = λ i. n i ∷ get_or r 1 0 ∷ get_or r 2 0 ∷ z i ∷ f i in
      w ∙ sym (four_first r (omega arith))

-- ---- what the record of a role says
module _ (r : Role) (h : length r.uid ≤ 64) where
  pub role_length : length (role_bytes r) ≡ 68
  unfolding role_bytes
  role_length = let f = field_length r.uid h in omega arith

  pub role_back : role_in (role_bytes r) ≡ r
  unfolding role_in role_bytes
  role_back =
      let u : (role_in (role_bytes r)).uid ≡ r.uid = rw (← cap_low (length r.uid) h) (take_at r.uid _ (length r.uid) refl) in
      λ i. record { uid = u i; scu = r.scu; scp = r.scp }

  role_unused : unused_zero (role_bytes r) ≡ true
  unfolding unused_zero role_bytes
  role_unused = field_good r.uid h

pub role_fits : (r : Role) → role_ok r ≡ true → length r.uid ≤ 64
unfolding role_ok
role_fits r k = name_short r.uid (left_of _ _ k)

-- ---- a role takes one record
pub roles_length : (rs : List Role) → all role_ok rs ≡ true → length (role_sheet rs) ≡ ROLE * length rs
unfolding role_sheet
roles_length [] k = refl
roles_length (r ∷ rs) k =
    let l = role_length r (role_fits r (left_of _ _ k)) in
    let n = roles_length rs (right_of (role_ok r) _ k) in
    omega (arith, length-append (role_bytes r) (role_sheet rs))

-- one behind the other
pub sheet_append : (rs qs : List Role) → role_sheet (rs ++ qs) ≡ role_sheet rs ++ role_sheet qs
unfolding role_sheet
sheet_append [] qs = refl
sheet_append (r ∷ rs) qs = ap (λ (m : List ℕ). role_bytes r ++ m) (sheet_append rs qs) ∙ sym (append_assoc (role_bytes r) (role_sheet rs) (role_sheet qs))

pub roles_front : (r s : List ℕ) → length r ≡ 68 → roles_in (r ++ s) ≡ role_in r ∷ roles_in s
unfolding roles_in role_records
roles_front r s l = ap (map role_in) (rows_front 68 (omega arith) r s l)

-- ---- a good sheet's roles are good, and give back the sheet
module _ (s : List ℕ) (k : role_sheet_ok s ≡ true) where
  sheet_good : Good 68 unused_zero (roles_ok (roles_in s)) s
  unfolding role_sheet_ok role_records
  sheet_good = good 68 unused_zero (roles_ok (roles_in s)) s k

  pub sheet_whole : length s % 68 ≡ 0
  sheet_whole = sheet_good.whole

  pub sheet_roles : roles_ok (roles_in s) ≡ true
  sheet_roles = sheet_good.holds

  pub role_sheet_back : role_sheet (roles_in s) ≡ s
  unfolding roles_in role_records role_sheet
  role_sheet_back =
      sheet_back 68 unused_zero (map role_in) role_sheet refl (λ r rs l g. ap (λ (b : List ℕ). b ++ role_sheet (map role_in rs)) (role_record_back r l g)) s sheet_whole sheet_good.formed

  pub sheet_each : all role_ok (roles_in s) ≡ true
  unfolding roles_ok
  sheet_each = left_of _ (differ (map role_uid (roles_in s))) sheet_roles

  pub sheet_length : length s ≡ ROLE * length (roles_in s)
  sheet_length = ap length (sym role_sheet_back) ∙ roles_length (roles_in s) sheet_each

-- ---- good roles are those of their sheet, which is good
abbrev Saying : List ℕ → List Role → Type 0
Saying = Sheeted 68 unused_zero roles_in

saying : (rs : List Role) → all role_ok rs ≡ true → Saying (role_sheet rs) rs
unfolding role_sheet roles_in role_records
saying [] k = record { whole = refl; formed = refl; back = refl }
saying (r ∷ rs) k =
    let h = role_fits r (left_of _ _ k) in
    let w = saying rs (right_of (role_ok r) _ k) in
    let p = role_back r h in
    let b = w.back in
    in_front 68 (omega arith) unused_zero roles_in (role_bytes r) (role_sheet rs) rs (r ∷ rs) (role_length r h) (role_unused r h)
    (roles_front (role_bytes r) (role_sheet rs) (role_length r h) ∙ (λ i. p i ∷ b i)) w

module _ (rs : List Role) (k : roles_ok rs ≡ true) where
  each_good : all role_ok rs ≡ true
  unfolding roles_ok
  each_good = left_of _ (differ (map role_uid rs)) k

  pub roles_back : roles_in (role_sheet rs) ≡ rs
  roles_back = (saying rs each_good).back

  pub roles_sheet_ok : role_sheet_ok (role_sheet rs) ≡ true
  unfolding role_sheet_ok role_records
  roles_sheet_ok = sheeted_good 68 unused_zero roles_in roles_ok (role_sheet rs) rs (saying rs each_good) k

-- ---- "54H at most once per UID": roles at different places have different UIDs
map_at : {A B : Type 0} (f : A → B) (xs : List A) (i : ℕ) (b : B) (a : A) → i < length xs → get_or (map f xs) i b ≡ f (get_or xs i a)
map_at f [] i b a h = absurd (omega arith)
map_at f (x ∷ xs) zero b a h = refl
map_at f (x ∷ xs) (suc i) b a h = map_at f xs i b a (omega arith)

-- past the last stands d
module _ (rs : List Role) (d : Role) where
  uids_at : (i : ℕ) → i < length rs → get_or (map role_uid rs) i [] ≡ (get_or rs i d).uid
  uids_at i h = map_at role_uid rs i [] d h

  pub roles_apart : roles_ok rs ≡ true → (i j : ℕ) → i < j → j < length rs → (get_or rs i d).uid ≡ (get_or rs j d).uid → ⊥
  unfolding roles_ok
  roles_apart k i j h l q =
      differ_apart (map role_uid rs) (right_of (all role_ok rs) _ k) i j h (omega (arith, length-map rs role_uid)) (uids_at i (omega arith) ∙ (q ∙ sym (uids_at j l)))

  pub apart_roles : all role_ok rs ≡ true → ((i j : ℕ) → i < j → j < length rs → (get_or rs i d).uid ≡ (get_or rs j d).uid → ⊥) → roles_ok rs ≡ true
  unfolding roles_ok
  apart_roles k f =
      both_of _ _ k
      (apart_differ (map role_uid rs)
      (λ i j h l q.
      let n = length-map rs role_uid in
      let g : j < length rs = omega arith in
      f i j h g (sym (uids_at i (omega arith)) ∙ (q ∙ uids_at j g))))

-- the j-th role of a sheet, and so for a good sheet by its bytes
pub role_at : (s : List ℕ) (j : ℕ) (d : Role) → j * 68 + 68 ≤ length s → get_or (roles_in s) j d ≡ role_in (take 68 (drop (j * 68) s))
unfolding roles_in role_records
role_at s j d h =
    let n : j < length s / 68 = omega arith in
    map_at role_in (records 68 (length s / 68) s) j d [] (omega (arith, records_count 68 (length s / 68) s)) ∙ ap role_in (records_at 68 (length s / 68) j s n)

pub sheet_apart : (s : List ℕ) → role_sheet_ok s ≡ true → (i j : ℕ) → i < j → j * 68 + 68 ≤ length s → uid_at s (i * 68) ≡ uid_at s (j * 68) → ⊥
sheet_apart s k i j h l q =
    let d : Role = record { uid = []; scu = 0; scp = 0 } in
    let at : (m : ℕ) → m * 68 + 68 ≤ length s → (get_or (roles_in s) m d).uid ≡ uid_at s (m * 68) = λ m g. ap role_uid (role_at s m d g) ∙ sym (uid_here s (m * 68) g) in
    roles_apart (roles_in s) d (sheet_roles s k) i j h (omega (arith, sheet_length s k)) (at i (omega arith) ∙ (q ∙ sym (at j l)))
