-- What the tests of titles mean: two are equal just where they are one list once trimmed, so that all sixteen characters count; and the check tells the first of our own that is
-- equal to the sought one.
-- Assumes nothing.
use Prim.Native.Nat.{ℕ, ◌<◌, ◌≤◌, ◌/◌, ◌%◌}
use native.Mathlib.Omega.{arith}
use mathlib.Core.Path.{◌≡◌, refl, sym, ap, ◌∙◌}
use mathlib.Core.Bool.{Bool, true, false, not, cond, ◌&&◌}
use mathlib.Core.Logic.{◌↔◌, ◌⊎◌, inl, inr}
use mathlib.Core.List.{List, []}
use lib.Dec.{T, eqb, leb}
use lib.ListN.{length, get_or}
use borrow.Author.Tests.{eqb-true, leb-true, not-false}
use Rattle.laws.specs.Lists.{any, first_place}
use Rattle.laws.proofs.Booleans.{held, holds, not_held, left_of, right_of}
use Rattle.laws.proofs.Found.{any_at, first_there, first_passes, none_before, first_only}
use Rattle.laws.proofs.Records.{records_count, records_at}
use Rattle.laws.proofs.Refusals.{not_due}
use Rattle.laws.proofs.Same.{same_means}
use Rattle.titles.specs.Title.{titles_equal, trim}
use Rattle.titles.specs.Own.{titles, list_ok, title_refusal, known, title_place, Checked, refusal, known_as, place_as}
use Rattle.titles.specs.Meaning.{EqualAt, FirstAt, NoneEqual, Tells, TellsBy}
use Rattle.titles.specs.Own.{Place, Place.At, Place.None, Place.Refused}
use Rattle.titles.specs.Answer.{known_in, place_in, case_of}
use Rattle.std.specs.Prelude.{Option, Option.Some, Option.None, Result, Ok, Err}
use Rattle.numbers.specs.declared.refusals.Refusal.{Refusal}
use Rattle.numbers.specs.Refusals.{refusal_number, refusal_in}
use Rattle.numbers.proofs.NumberLaws.{refusal_some}

-- the list is good, and the sought title has 16 bytes
abbrev Taken : List ℕ → List ℕ → Type 0
Taken own sought = title_refusal own sought ≡ 0

pub titles_equal_means : (a b : List ℕ) → T (titles_equal a b) ↔ (trim a ≡ trim b)
unfolding titles_equal
titles_equal_means a b = same_means (trim a) (trim b)

module _ (own sought : List ℕ) where
  abbrev test : List ℕ → Bool
  test = titles_equal sought

  abbrev passes : ℕ → Bool
  passes k = test (get_or (titles own) k [])

  -- ---- the test at a place says what its words say
  in_list : (k : ℕ) → k < length own / 16 → k < length (titles own)
  in_list k h = rw (records_count 16 (length own / 16) own) h

  from_list : (k : ℕ) → k < length (titles own) → k < length own / 16
  from_list k h = rw (records_count 16 (length own / 16) own) at h

  equal_so : (k : ℕ) → k < length (titles own) → passes k ≡ true → EqualAt own sought k
  equal_so k h e =
      let t = from_list k h in
      record { there = t; same = (titles_equal_means sought _).0 (held _ (ap test (sym (records_at 16 (length own / 16) k own t)) ∙ e)) }

  equal_back : (k : ℕ) → EqualAt own sought k → passes k ≡ true
  equal_back k q = ap test (records_at 16 (length own / 16) k own q.there) ∙ holds _ ((titles_equal_means sought _).1 q.same)

  unequal : (k : ℕ) → k < length (titles own) → (EqualAt own sought k → ⊥) → passes k ≡ false
  unequal k h n = not_held (passes k) (λ e. n (equal_so k h e))

  -- ---- there is a first, and one only; or there is none
  first_so : any test (titles own) ≡ true → FirstAt own sought (first_place test (titles own))
  first_so e =
      let h = first_there test (titles own) e in
      record {
        equal = equal_so _ h (first_passes test [] (titles own) h);
        none_lower = λ j l q. held false (sym (none_before test [] (titles own) j l) ∙ equal_back j q);
      }

  first_is : (k : ℕ) → FirstAt own sought k → first_place test (titles own) ≡ k
  first_is k f =
      let h = in_list k f.equal.there in
      first_only test [] (titles own) k h (equal_back k f.equal) (λ j l. unequal j (omega arith) (f.none_lower j l))

  some_so : (k : ℕ) → EqualAt own sought k → any test (titles own) ≡ true
  some_so k q = any_at test [] (titles own) k (in_list k q.there) (equal_back k q)

  none_so : any test (titles own) ≡ false → NoneEqual own sought
  none_so e k q = held false (sym e ∙ some_so k q)

  -- ---- what is known of an answer
  known_so : known own sought ≡ true → Taken own sought × (any test (titles own) ≡ true)
  unfolding known
  known_so e = (eqb-true _ _ (left_of _ _ e), right_of (eqb (title_refusal own sought) 0) _ e)

  -- a list that is taken has at most 8 titles
  most : Taken own sought → length own / 16 ≤ 8
  unfolding title_refusal list_ok
  most t =
      let g : list_ok own ≡ true = not-false (list_ok own) (not_due (not (list_ok own)) 4 _ (λ e. absurd (omega arith)) t).0 in
      leb-true _ _ (right_of (eqb (length own % 16) 0) _ (left_of (eqb (length own % 16) 0 && leb (length own / 16) 8) _ g))

  unknown_so : known own sought ≡ false → Taken own sought → any test (titles own) ≡ false
  unfolding known
  unknown_so e t = sym (rw t) ∙ e

-- from the number that is told
is_one : (b : Bool) → ◌≡◌ {A = ℕ} 1 (cond b 1 0) → b ≡ true
is_one true e = refl
is_one false e = absurd (omega arith)

is_zero : (b : Bool) → ◌≡◌ {A = ℕ} 0 (cond b 1 0) → b ≡ false
is_zero true e = absurd (omega arith)
is_zero false e = refl

pub place_tells : (own sought : List ℕ) (a : Place) → Checked own sought (refusal a) (known_as a) (place_as a) → Tells own sought a
unfolding title_place
place_tells own sought (At k) c =
    let y = is_one (known own sought) c.yes in
    let s = known_so own sought y in
    let e : k ≡ first_place (titles_equal sought) (titles own) = c.place ∙ rw y in
    let f : FirstAt own sought k = rw e (first_so own sought s.1) in
    let m = most own sought s.0 in
    let l = f.equal.there in
    record {
      refused = (λ q. absurd (omega (arith, ap refusal q)), λ q. absurd (omega (arith, c.refused)));
      none = (λ q. absurd (omega (arith, ap known_as q)), λ t. absurd (t.1 k f.equal));
      at = λ j. (λ q. (s.0, rw (sym (ap place_as q)) f), λ t. ap At (e ∙ first_is own sought j t.1));
      low = λ j q. omega (arith, ap place_as q);
      some_place = (λ q. (k, refl), λ q. y);
    }
place_tells own sought None c =
    let t : Taken own sought = sym c.refused in
    let n = none_so own sought (unknown_so own sought (is_zero (known own sought) c.yes) t) in
    record {
      refused = (λ q. absurd (omega (arith, ap refusal q)), λ q. absurd (omega (arith, c.refused)));
      none = (λ q. (t, n), λ q. refl);
      at = λ j. (λ q. absurd (omega (arith, ap known_as q)), λ q. absurd (n j q.1.equal));
      low = λ j q. absurd (omega (arith, ap known_as q));
      some_place = (λ q. absurd (held false (sym (is_zero (known own sought) c.yes) ∙ q)), λ q. absurd (omega (arith, ap known_as q.1)));
    }
place_tells own sought Refused c =
    record {
      refused = (λ q. sym c.refused, λ q. refl);
      none = (λ q. absurd (omega (arith, ap refusal q)), λ q. absurd (omega (arith, c.refused, q.0)));
      at = λ j. (λ q. absurd (omega (arith, ap refusal q)), λ q. absurd (omega (arith, c.refused, q.0)));
      low = λ j q. absurd (omega (arith, ap refusal q));
      some_place = (λ q. absurd (omega (arith, c.refused, (known_so own sought q).0)), λ q. absurd (omega (arith, ap refusal q.1)));
    }

-- ---- and so do any three numbers that the contract permits
refused_or_not : (own sought : List ℕ) → Taken own sought ⊎ (title_refusal own sought ≡ 4)
unfolding title_refusal
refused_or_not own sought = go (not (list_ok own)) (not (eqb (length sought) 16))
  where
    go : (a b : Bool) → (◌≡◌ {A = ℕ} (cond a 4 (cond b 4 0)) 0) ⊎ (◌≡◌ {A = ℕ} (cond a 4 (cond b 4 0)) 4)
    go true b = inr refl
    go false true = inr refl
    go false false = inl refl

module _ (own sought : List ℕ) (r k p : ℕ) (c : Checked own sought r k p) where
  of_case : (a : Place) → r ≡ refusal a → k ≡ known_as a → p ≡ place_as a → TellsBy own sought r k p
  of_case a x y z =
      record {
        case = a;
        by_refusal = x;
        by_known = y;
        by_place = z;
        tells = place_tells own sought a (record { refused = sym x ∙ c.refused; yes = sym y ∙ c.yes; place = sym z ∙ c.place });
      }

  pub numbers_tell : TellsBy own sought r k p
  unfolding title_place
  numbers_tell = go (known own sought) refl (refused_or_not own sought)
    where
      go : (b : Bool) → known own sought ≡ b → Taken own sought ⊎ (title_refusal own sought ≡ 4) → TellsBy own sought r k p
      go true e w = of_case (At p) (c.refused ∙ (known_so own sought e).0) (c.yes ∙ rw e) refl
      go false e (inl w) = of_case None (c.refused ∙ w) (c.yes ∙ rw e) (c.place ∙ rw e)
      go false e (inr w) = of_case Refused (c.refused ∙ w) (c.yes ∙ rw e) (c.place ∙ rw e)

-- ---- and so does the code's answer
err_four : (own sought : List ℕ) (n : ℕ) → (n ≡ 0 → ⊥) → n ≡ title_refusal own sought → n ≡ 4
err_four own sought n z e = go (refused_or_not own sought)
  where
    go : Taken own sought ⊎ (title_refusal own sought ≡ 4) → n ≡ 4
    go (inl t) = absurd (z (e ∙ t))
    go (inr t) = e ∙ t

pub answer_tells : (own sought : List ℕ) (r : Result (Option ℕ) Refusal) → Checked own sought (refusal_in r) (known_in r) (place_in r) → Tells own sought (case_of r)
answer_tells own sought (Ok (Option.Some k)) c = place_tells own sought (At k) c
answer_tells own sought (Ok Option.None) c = place_tells own sought None c
answer_tells own sought (Err e) c = place_tells own sought Refused (record { refused = sym (err_four own sought (refusal_number e) (refusal_some e) c.refused) ∙ c.refused; yes = c.yes; place = c.place })
