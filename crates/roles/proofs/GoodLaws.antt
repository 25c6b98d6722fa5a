-- Laws of good records and sheets: each way through the tests, and that the records tested one by one give the rule over the roles.
-- Assumes nothing.
use Prim.Native.Nat.{ℕ, zero, suc, ◌+◌, ◌*◌, ◌/◌, ◌%◌, ◌≤◌, ◌<◌}
use native.Mathlib.Omega.{arith}
use mathlib.Core.Bool.{Bool, true, false, ◌&&◌}
use mathlib.Core.List.{List, [], ◌∷◌, map}
use mathlib.Core.Path.{◌≡◌, refl, sym, ap, ◌∙◌}
use lib.ListN.{length, take, drop, get_or, length-drop}
use lib.Seq.{take_all, length-take-le}
use lib.Dec.{eqb}
use borrow.Author.Tests.{eq-eqb}
use Rattle.std.specs.List.{list_all, list_any}
use Rattle.std.specs.Simd.{first_chunks}
use Rattle.laws.specs.Lists.{all, any, records, same_bytes, differ}
use Rattle.laws.proofs.Library.{all_list, chunk_records}
use Rattle.laws.proofs.Records.{rows_none, row_here}
use Rattle.sheets.specs.Sheet.{field_ok}
use Rattle.roles.specs.Role.{role_uid, role_ok, roles_ok}
use Rattle.roles.specs.Sheet.{role_records, role_in, roles_in, unused_zero, role_sheet_ok}
use Rattle.roles.specs.Record.{uid_at}
use Rattle.roles.specs.Private.OneRecord.{record_ok}
use Rattle.roles.proofs.RecordLaws.{uid_own}

-- ---- the roles of a sheet, from a place on
pub role_records_here : (s : List ℕ) (at : ℕ) → at + 68 ≤ length s → role_records (drop at s) ≡ take 68 (drop at s) ∷ role_records (drop (at + 68) s)
unfolding role_records
role_records_here = row_here 68 (omega arith)

pub role_records_none : (s : List ℕ) (at : ℕ) → length s < at + 68 → role_records (drop at s) ≡ []
unfolding role_records
role_records_none s at h = rows_none 68 (omega arith) (drop at s) (omega (arith, length-drop at s))

pub roles_here : (s : List ℕ) (at : ℕ) → at + 68 ≤ length s → roles_in (drop at s) ≡ role_in (take 68 (drop at s)) ∷ roles_in (drop (at + 68) s)
unfolding roles_in
roles_here s at h = rw (role_records_here s at h)

pub roles_none : (s : List ℕ) (at : ℕ) → length s < at + 68 → roles_in (drop at s) ≡ []
unfolding roles_in
roles_none s at h = rw (role_records_none s at h)

-- ---- `unused_zero`
pub unused_rest : (r : List ℕ) (b : Bool) → length r ≡ 68 → get_or r 3 0 ≡ 0 → b ≡ field_ok (get_or r 0 0) (take 64 (drop 4 r)) → b ≡ unused_zero r
unfolding unused_zero
unused_rest r b l z q = let e = take_all 64 (drop 4 r) (omega (arith, length-drop 4 r)) in rw (← e) (q ∙ rw (eq-eqb _ _ z))

-- ---- `uids_differ`
abbrev first_uid : List ℕ → List ℕ
first_uid r = uid_at r 0

any_uids : (u : List ℕ) (rs : List (List ℕ)) → list_any (λ r. same_bytes u (uid_at r 0)) rs ≡ any (same_bytes u) (map first_uid rs)
any_uids u [] = refl
any_uids u (r ∷ rs) = rw (any_uids u rs)

module _ (rest others : List (List ℕ)) (r u : List ℕ) (all b : Bool) (v : all ≡ differ (map first_uid rest)) (e : rest ≡ r ∷ others) (k : u ≡ uid_at r 0) (q : b ≡ list_any (λ o. same_bytes u (uid_at o 0)) others) where
  others_have : any (same_bytes (uid_at r 0)) (map first_uid others) ≡ b
  others_have = sym (q ∙ (any_uids u others ∙ ap (λ (w : List ℕ). any (same_bytes w) (map first_uid others)) k))

  pub apart_next : b ≡ false → all ≡ differ (map first_uid others)
  unfolding differ
  apart_next t = v ∙ rw (e, others_have, t)

  pub apart_bad : b ≡ true → false ≡ all
  unfolding differ
  apart_bad t = sym (v ∙ rw (e, others_have, t))

pub apart_done : (rs : List (List ℕ)) (all : Bool) → all ≡ differ (map first_uid rs) → length rs ≡ 0 → true ≡ all
unfolding differ
apart_done [] all v h = sym v
apart_done (r ∷ rs) all v h = absurd (omega arith)

-- ---- `roles_ok`
across : (a b c d : Bool) → ((a && b) && (c && d)) ≡ ((a && c) && (b && d))
across true true c d = refl
across true false true d = refl
across true false false d = refl
across false b c d = refl

together : (p c d : Bool) → (p && (c && d)) ≡ ((p && c) && d)
together true c d = refl
together false c d = refl

records_roles : (rs : List (List ℕ)) → all record_ok rs ≡ (all unused_zero rs && all role_ok (map role_in rs))
unfolding record_ok
records_roles [] = refl
records_roles (r ∷ rs) = rw (records_roles rs) (across (unused_zero r) (role_ok (role_in r)) (all unused_zero rs) (all role_ok (map role_in rs)))

sheet_is : (s : List ℕ) → length s % 68 ≡ 0 → (all record_ok (role_records s) && differ (map role_uid (map role_in (role_records s)))) ≡ role_sheet_ok s
unfolding role_sheet_ok roles_ok roles_in
sheet_is s m = rw (eq-eqb _ _ m, records_roles (role_records s)) (sym (together (all unused_zero (role_records s)) (all role_ok (map role_in (role_records s))) (differ (map role_uid (map role_in (role_records s))))))

pub sheet_part : (s : List ℕ) (n : ℕ) (b : Bool) → n ≡ length s % 68 → b ≡ eqb n 0 → b ≡ false → b ≡ role_sheet_ok s
unfolding role_sheet_ok
sheet_part s n b e q t = rw (← e, ← q, t)

-- the UIDs of whole records
uids_are : (n : ℕ) (s : List ℕ) → n * 68 ≤ length s → map first_uid (records 68 n s) ≡ map role_uid (map role_in (records 68 n s))
uids_are zero s h = refl
uids_are (suc n) s h =
    let e : uid_at (take 68 s) 0 ≡ (role_in (take 68 s)).uid = uid_own (take 68 s) (length-take-le 68 s (omega arith)) in
    let i = uids_are n (drop 68 s) (omega (arith, length-drop 68 s)) in
    λ j. e j ∷ i j

-- by the answers of the calls: b of the tests of each, d of the UIDs
module _ (s : List ℕ) (rs : List (List ℕ)) (f : rs ≡ first_chunks 68 (length s / 68) s) (m : length s % 68 ≡ 0) (b : Bool) (q : b ≡ list_all record_ok rs) where
  records_are : rs ≡ role_records s
  unfolding role_records
  records_are = f ∙ chunk_records 68 (length s / 68) s

  each_is : all record_ok (role_records s) ≡ b
  each_is = sym (q ∙ (all_list record_ok rs ∙ ap (all record_ok) records_are))

  pub sheet_bad : b ≡ false → b ≡ role_sheet_ok s
  sheet_bad t = t ∙ (sym (rw (each_is, t)) ∙ sheet_is s m)

  pub sheet_rest : (d : Bool) → b ≡ true → d ≡ differ (map first_uid rs) → d ≡ role_sheet_ok s
  unfolding role_records
  sheet_rest d t e =
      let i : map first_uid rs ≡ map role_uid (map role_in (role_records s)) = ap (map first_uid) records_are ∙ uids_are (length s / 68) s (omega arith) in
      e ∙ (ap differ i ∙ (sym (rw (each_is, t)) ∙ sheet_is s m))
