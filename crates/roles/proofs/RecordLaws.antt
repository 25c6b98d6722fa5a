-- Laws of one record: made of its role, and looked at where it stands in a sheet.
-- Assumes nothing.
use Prim.Native.Nat.{ℕ, ◌+◌, ◌-◌, ◌≤◌, ◌<◌}
use native.Mathlib.Omega.{arith}
use native.Mathlib.Nat.{add-sub_cancel_left, add-zero}
use mathlib.Core.Bool.{Bool, true, false, cond}
use mathlib.Core.List.{List, [], ◌∷◌, ◌++◌, append-nil}
use mathlib.Core.Path.{◌≡◌, sym, ap, ◌∙◌}
use lib.ListN.{length, take, drop, get_or, set, replicate, length-drop}
use lib.Seq.{take_all, drop-drop}
use lib.Dec.{leb}
use borrow.Author.Rules.{rules}
use borrow.Author.Tests.{le-leb, lt-leb}
use Rattle.octets.specs.Put.{Placed}
use Rattle.octets.proofs.PutLaws.{put_out}
use Rattle.octets.proofs.SliceLaws.{place_from}
use Rattle.sheets.specs.Sheet.{field, cap, name_in}
use Rattle.sheets.proofs.RecordLaws.{name_put, cut_fits, cut_short, cut_at, field_length, in_record, byte_here}
use Rattle.roles.specs.Role.{Role}
use Rattle.roles.specs.Sheet.{role_bytes, role_in}
use Rattle.roles.specs.Record.{record_of, uid_at, uid_start}

-- ---- `role_of`: a name put into zeros
pub role_done : (uid n r : List ℕ) (scu scp i : ℕ) → n ≡ take 64 uid → Placed (set (set (set (replicate 68 0) 0 (length n)) 1 scu) 2 scp) 4 n i r → r ≡ record_of uid scu scp
unfolding record_of role_bytes
role_done uid n r scu scp i e p =
    let h : length n ≤ 64 = cut_fits uid n e in
    let l : List ℕ = length n ∷ scu ∷ scp ∷ 0 ∷ [] in
    put_out (l ++ replicate 64 0) 4 n p (omega arith) ∙ (name_put l n 0 h ∙ (append-nil (l ++ field n) ∙ ap (λ (m : List ℕ). length m ∷ scu ∷ scp ∷ 0 ∷ field m) e))

-- its length is a byte
pub cut_byte : (uid n : List ℕ) → n ≡ take 64 uid → length n < 256
cut_byte uid n e = let h = cut_fits uid n e in omega arith

pub ruleset role_laws = (rules, cut_byte, role_done)

-- it takes its room whatever the UID, and for one that fits it is the record of the role
pub record_length : (uid : List ℕ) (scu scp : ℕ) → length (record_of uid scu scp) ≡ 68
unfolding record_of role_bytes
record_length uid scu scp = let f = field_length (take 64 uid) (cut_short uid) in omega arith

pub record_whole : (r : Role) → length r.uid ≤ 64 → record_of r.uid r.scu r.scp ≡ role_bytes r
unfolding record_of
record_whole r h = let e = take_all 64 r.uid h in λ i. role_bytes (record { uid = e i; scu = r.scu; scp = r.scp })

-- ---- `uid_at`

module _ (s : List ℕ) (at : ℕ) where
  -- none stands there
  pub from_none : length s < at + 68 → 0 ≡ uid_start s at
  unfolding uid_start
  from_none h = simp (lt-leb (at + 68) (length s) h)

  pub uid_none : length s < at + 68 → [] ≡ uid_at s at
  unfolding uid_at
  uid_none h = simp (lt-leb (at + 68) (length s) h)

  module _ (h : 68 ≤ length s) (l : at ≤ length s - 68) where
    pub from_here : at + 4 ≡ uid_start s at
    unfolding uid_start
    from_here = simp (le-leb (at + 68) (length s) (omega arith))

    pub uid_found : (n : ℕ) → n ≡ cap (get_or s at 0) → n ≤ 64 → take (at + 4 + n - (at + 4)) (drop (at + 4) s) ≡ uid_at s at
    unfolding uid_at role_in
    uid_found n e k =
        rw (add-sub_cancel_left, le-leb (at + 68) (length s) (omega arith), byte_here 68 s at 0 (omega arith), add-zero, ← e, ← drop-drop 4 at s) (sym (in_record n 4 64 (drop at s) k (omega (arith, length-drop at s))))

pub ruleset uid_laws = (rules, from_none, uid_none, from_here, uid_found, place_from)

-- ---- the role at a place
pub uid_here : (s : List ℕ) (at : ℕ) → at + 68 ≤ length s → uid_at s at ≡ (role_in (take 68 (drop at s))).uid
unfolding uid_at
uid_here s at h = simp (le-leb (at + 68) (length s) h)

pub role_here : (s : List ℕ) (at : ℕ) → at + 68 ≤ length s → role_in (take 68 (drop at s)) ≡ record { uid = uid_at s at; scu = get_or s (at + 1) 0; scp = get_or s (at + 2) 0 }
unfolding role_in
role_here s at h =
    let u = sym (uid_here s at h) in
    let a = byte_here 68 s at 1 (omega arith) in
    let b = byte_here 68 s at 2 (omega arith) in
    λ i. record { uid = u i; scu = a i; scp = b i }

-- a record by itself
pub uid_own : (r : List ℕ) → length r ≡ 68 → uid_at r 0 ≡ (role_in r).uid
uid_own r l = uid_here r 0 (omega arith) ∙ ap (λ (m : List ℕ). (role_in m).uid) (take_all 68 r (omega arith))

pub uid_first : (r : List ℕ) → length r ≡ 68 → uid_at r 0 ≡ name_in 0 4 r
unfolding role_in
uid_first = uid_own

-- a UID that a record gives fits its field
pub uid_most : (r : List ℕ) → length (role_in r).uid ≤ 64
unfolding role_in
uid_most r = cut_at (get_or r 0 0) (drop 4 r)

pub uid_short : (s : List ℕ) (at : ℕ) → length (uid_at s at) ≤ 64
unfolding uid_at
uid_short s at = go (leb (at + 68) (length s))
  where
    go : (d : Bool) → length (cond d (role_in (take 68 (drop at s))).uid []) ≤ 64
    go true = uid_most (take 68 (drop at s))
    go false = omega arith
