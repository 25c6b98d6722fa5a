-- A list cut into n records of k elements: what a loop at the j-th of them has before it; and a sheet, cut into as many as it is long.
-- Assumes nothing.
use Prim.Native.Nat.{ℕ, zero, suc, ◌<◌, ◌≤◌, ◌+◌, ◌-◌, ◌*◌, ◌/◌, ◌%◌}
use mathlib.Core.Path.{◌≡◌, refl, sym, ◌∙◌, ap}
use mathlib.Core.Bool.{Bool, true, ◌&&◌}
use mathlib.Core.List.{List, [], ◌∷◌, ◌++◌}
use lib.ListN.{length, take, drop, get_or, length-append, length-drop, take-append-drop}
use lib.Seq.{drop-drop, take_at, drop_at, length-take-le}
use lib.Dec.{eqb}
use native.Mathlib.Nat.{add_comm, add-sub_cancel_left, add-mul, one-mul, zero-mul, suc-mul, mul-zero, mul-suc, div-eq-sub-div, div-eq_of_lt, div-add-mod, add-mod_left}
use native.Mathlib.Numerals.{add-one}
use native.Mathlib.Omega.{arith}
use borrow.Author.Tests.{eq-eqb, eqb-true}
use Rattle.laws.specs.Lists.{all, records}
use Rattle.laws.proofs.Booleans.{left_of, right_of, both_of}

-- the records from the j-th on: the j-th, and those from the next on
pub records_step : (k n j : ℕ) (l : List ℕ) → j < n → records k (n - j) (drop (j * k) l) ≡ take (j * k + k - j * k) (drop (j * k) l) ∷ records k (n - (j + 1)) (drop ((j + 1) * k) l)
records_step k n j l h =
    let q : n - j ≡ suc (n - (j + 1)) = omega arith in
    let r : (j + 1) * k ≡ j * k + k = add-mul j 1 k ∙ ap (λ (m : ℕ). j * k + m) (one-mul k) in
    rw (q, r, add-sub_cancel_left (j * k) k) (ap (λ (m : List ℕ). take k (drop (j * k) l) ∷ records k (n - (j + 1)) m) (drop-drop k (j * k) l))

-- past the last none
pub records_over : (k n j : ℕ) (l : List ℕ) → n ≤ j → records k (n - j) l ≡ []
records_over k n j l h = let q : n - j ≡ 0 = omega arith in rw q

-- as many records as were asked for
pub records_count : (k n : ℕ) (l : List ℕ) → length (records k n l) ≡ n
records_count k zero l = refl
records_count k (suc n) l = ap suc (records_count k n (drop k l))

-- and the j-th of them
pub records_at : (k n j : ℕ) (l : List ℕ) → j < n → get_or (records k n l) j [] ≡ take k (drop (j * k) l)
records_at k zero j l h = absurd (omega arith)
records_at k (suc n) zero l h = rw (zero-mul k)
records_at k (suc n) (suc j) l h =
    records_at k n j (drop k l) (omega arith) ∙ ap (take k) (drop-drop (j * k) k l ∙ ap (λ (m : ℕ). drop m l) (add_comm k (j * k) ∙ sym (suc-mul j k)))

-- ---- a sheet: as many records of k bytes as it is long
abbrev pub rows : ℕ → List ℕ → List (List ℕ)
rows k s = records k (length s / k) s

module _ (k : ℕ) (p : 0 < k) where
  pub rows_cons : (s : List ℕ) → k ≤ length s → rows k s ≡ take k s ∷ rows k (drop k s)
  rows_cons s h =
      let q : length s / k ≡ suc ((length s - k) / k) = div-eq-sub-div p h ∙ add-one ((length s - k) / k) in
      rw (q, length-drop)

  pub rows_none : (s : List ℕ) → length s < k → rows k s ≡ []
  rows_none s h = let q : length s / k ≡ 0 = div-eq_of_lt h in rw q

  -- the records from a place on
  pub row_here : (s : List ℕ) (at : ℕ) → at + k ≤ length s → rows k (drop at s) ≡ take k (drop at s) ∷ rows k (drop (at + k) s)
  row_here s at h = rw (rows_cons (drop at s) (omega (arith, length-drop at s)), drop-drop)

  -- with one in front
  pub rows_front : (r s : List ℕ) → length r ≡ k → rows k (r ++ s) ≡ r ∷ rows k s
  rows_front r s l = rows_cons (r ++ s) (omega (arith, length-append r s)) ∙ rw (take_at r s k l, drop_at r s k l)

-- records that are the bytes of what each says: all of a sheet's are the sheet
module _ (k : ℕ) {C : Type 0} (form : List ℕ → Bool) (of : List (List ℕ) → List C) (bytes : List C → List ℕ) (none : bytes (of []) ≡ [])
    (one : (r : List ℕ) (rs : List (List ℕ)) → length r ≡ k → form r ≡ true → bytes (of (r ∷ rs)) ≡ r ++ bytes (of rs)) where
  -- n of them
  rows_back : (n : ℕ) (s : List ℕ) → length s ≡ k * n → all form (records k n s) ≡ true → bytes (of (records k n s)) ≡ s
  rows_back zero [] l g = none
  rows_back zero (x ∷ s) l g = let z = l ∙ mul-zero k in absurd (omega arith)
  rows_back (suc n) s l g =
      let q : length s ≡ k * n + k = l ∙ mul-suc k n in
      one (take k s) (records k n (drop k s)) (length-take-le k s (omega arith)) (left_of _ _ g)
      ∙ (ap (λ (m : List ℕ). take k s ++ m) (rows_back n (drop k s) (omega (arith, length-drop k s)) (right_of (form (take k s)) _ g)) ∙ take-append-drop k s)

  pub sheet_back : (s : List ℕ) → length s % k ≡ 0 → all form (rows k s) ≡ true → bytes (of (rows k s)) ≡ s
  sheet_back s m g = let q = div-add-mod (length s) k in rows_back (length s / k) s (omega arith) g

-- what a good sheet has: no part record, a form for each, and what else it must be
pub record Good (k : ℕ) (form : List ℕ → Bool) (ok : Bool) (s : List ℕ) : Type 0 where
  pub whole : length s % k ≡ 0
  pub formed : all form (rows k s) ≡ true
  pub holds : ok ≡ true

pub good : (k : ℕ) (form : List ℕ → Bool) (ok : Bool) (s : List ℕ) → (eqb (length s % k) 0 && (all form (rows k s) && ok)) ≡ true → Good k form ok s
good k form ok s g =
    let r : (all form (rows k s) && ok) ≡ true = right_of (eqb (length s % k) 0) _ g in
    record { whole = eqb-true _ _ (left_of _ (all form (rows k s) && ok) g); formed = left_of _ _ r; holds = right_of (all form (rows k s)) _ r }

-- a sheet whose records have a form, and from which cs are read
pub record Sheeted (k : ℕ) {C : Type 0} (form : List ℕ → Bool) (of : List ℕ → List C) (s : List ℕ) (cs : List C) : Type 0 where
  pub whole : length s % k ≡ 0
  pub formed : all form (rows k s) ≡ true
  pub back : of s ≡ cs

-- with one record in front
pub in_front : (k : ℕ) → 0 < k → {C : Type 0} (form : List ℕ → Bool) (of : List ℕ → List C) (r s : List ℕ) (cs ds : List C) → length r ≡ k → form r ≡ true → of (r ++ s) ≡ ds
    → Sheeted k form of s cs → Sheeted k form of (r ++ s) ds
in_front k p form of r s cs ds l g b w =
    record {
      whole = ap (λ (n : ℕ). n % k) (length-append r s ∙ ap (λ (n : ℕ). n + length s) l) ∙ (add-mod_left k (length s) ∙ w.whole);
      formed = rw (rows_front k p r s l) (both_of _ _ g w.formed);
      back = b;
    }

-- such a sheet is good where what is read is
pub sheeted_good : (k : ℕ) {C : Type 0} (form : List ℕ → Bool) (of : List ℕ → List C) (ok : List C → Bool) (s : List ℕ) (cs : List C) → Sheeted k form of s cs → ok cs ≡ true
    → (eqb (length s % k) 0 && (all form (rows k s) && ok (of s))) ≡ true
sheeted_good k form of ok s cs w g = both_of _ _ (eq-eqb (length s % k) 0 w.whole) (both_of _ _ w.formed (ap ok w.back ∙ g))
