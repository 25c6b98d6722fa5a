-- Laws of our own titles: whether all are good, the place of the first, and each way through the check.
-- Assumes nothing.
use Prim.Native.Nat.{ℕ, suc, ◌≤◌, ◌+◌, ◌/◌, ◌%◌}
use mathlib.Core.Path.{◌≡◌, refl, sym, ap, ◌∙◌}
use mathlib.Core.Bool.{Bool, true, false, cond, not}
use mathlib.Core.List.{List, [], ◌∷◌}
use lib.Dec.{ltb}
use lib.ListN.{length}
use native.Mathlib.Omega.{arith}
use borrow.Author.Tests.{eq-eqb, ne_eqb, le-leb, ltb-true, ltb-false}
use Rattle.laws.specs.Lists.{all, first_place}
use Rattle.laws.proofs.Found.{first_some, first_none}
use Rattle.laws.proofs.Library.{all_list}
use Rattle.laws.proofs.Records.{records_count}
use Rattle.titles.specs.Title.{title_ok, titles_equal}
use Rattle.titles.specs.Own.{titles, list_ok, title_refusal, known, title_place, Checked}
use Rattle.std.specs.List.{list_all, position_or_len}
use Rattle.std.specs.Prelude.{Option, None, Some, Result, Ok, Err, ok_or, IsErrAnd}
use Rattle.numbers.specs.declared.refusals.Refusal.{Refusal}
use Rattle.numbers.specs.Refusals.{refusal_number, refusal_in}
use Rattle.numbers.proofs.NumberLaws.{refusal_some, answer_once}
use Rattle.titles.specs.Answer.{known_in, place_in}

-- ---- whether all are good: ts are the titles, and b is what the code finds of them
module _ (l : List ℕ) (ts : List (List ℕ)) (b : Bool) (e : length l % 16 ≡ 0) (t : ts ≡ titles l) (h : length ts ≤ 8) (q : b ≡ list_all title_ok ts) where
  list_is : list_ok l ≡ b
  unfolding list_ok
  list_is =
      let n : length l / 16 ≤ 8 = rw (ap length t, records_count 16 (length l / 16) l) at h in
      let a : all title_ok (titles l) ≡ b = sym (q ∙ (all_list title_ok ts ∙ ap (all title_ok) t)) in
      simp (eq-eqb _ _ e, le-leb _ _ n, a)

  pub list_taken : b ≡ true → list_ok l ≡ true
  list_taken g = list_is ∙ g

-- ---- which is the first: the library's place is ours
pub position_first : {A : Type 0} (p : A → Bool) (xs : List A) → position_or_len p xs ≡ first_place p xs
position_first p [] = refl
position_first p (x ∷ xs) = go (p x) (position_first p xs)
  where
    go : (b : Bool) → position_or_len p xs ≡ first_place p xs → cond (not b) (1 + position_or_len p xs) 0 ≡ cond b 0 (suc (first_place p xs))
    go true e = refl
    go false e = omega (arith, e)

-- ---- the answer
refused_so : (l t : List ℕ) → title_refusal l t ≡ 4 → Checked l t 4 0 0
unfolding known title_place
refused_so l t e = record { refused = sym e; yes = simp e; place = simp e }

either : (b : Bool) → ◌≡◌ {A = ℕ} (cond b 4 4) 4
either true = refl
either false = refl

pub place_other : (l t : List ℕ) → (length t ≡ 16 → ⊥) → Checked l t 4 0 0
unfolding title_refusal
place_other l t n = refused_so l t (simp (ne_eqb _ _ n) (either (not (list_ok l))))

place_bad : (l t : List ℕ) → list_ok l ≡ false → Checked l t 4 0 0
unfolding title_refusal
place_bad l t e = refused_so l t (simp e)

-- o is what the code finds of the list, e the refusal of a bad one, and r the answer that carries it on
pub place_refused : {T : Type 0} (l t : List ℕ) (o : Option T) (e : Refusal) (r : Result (Option ℕ) Refusal) → list_ok l ≡ false → Err e ≡ ok_or o Refusal.BadContents → IsErrAnd r (λ x. x ≡ e)
    → Checked l t (refusal_in r) (known_in r) (place_in r)
place_refused l t None e (Err x) f q h =
    let n : refusal_number x ≡ 4 = ap refusal_number h ∙ ap refusal_in q in
    rw n (place_bad l t f)
place_refused l t (Some ts) e r f q h = absurd (refusal_some e (ap refusal_in q))
place_refused l t None e (Ok x) f q h = absurd h

module _ (l t : List ℕ) (ts : List (List ℕ)) (r : Option ℕ) (m : ts ≡ titles l) (h : length t ≡ 16) (e : list_ok l ≡ true) where
  not_refused : title_refusal l t ≡ 0
  unfolding title_refusal
  not_refused = simp (eq-eqb _ _ h, e)

  abbrev place : ℕ
  place = first_place (titles_equal t) (titles l)

  by_place : (b : Bool) → ltb place (length (titles l)) ≡ b → Checked l t 0 (known_in (Ok (cond b (Some place) None))) (place_in (Ok (cond b (Some place) None)))
  unfolding known title_place
  by_place true q =
      let y = first_some (titles_equal t) [] (titles l) (ltb-true _ _ q) in
      record { refused = sym not_refused; yes = simp (not_refused, y); place = simp (not_refused, y) }
  by_place false q =
      let y = first_none (titles_equal t) (titles l) (ltb-false _ _ q) in
      record { refused = sym not_refused; yes = simp (not_refused, y); place = simp (not_refused, y) }

  pub place_told : r ≡ cond (ltb (position_or_len (titles_equal t) ts) (length ts)) (Some (position_or_len (titles_equal t) ts)) None → Checked l t 0 (known_in (Ok r)) (place_in (Ok r))
  place_told q = rw (q, m, position_first (titles_equal t) (titles l)) (by_place _ refl)

-- the three numbers determine the answer
same_found : (x y : Option ℕ) → known_in (Ok x) ≡ known_in (Ok y) → place_in (Ok x) ≡ place_in (Ok y) → x ≡ y
same_found None None q e = refl
same_found None (Some k) q e = absurd (omega (arith, q))
same_found (Some j) None q e = absurd (omega (arith, q))
same_found (Some j) (Some k) q e = ap Some e

pub same_place : (a b : Result (Option ℕ) Refusal) → refusal_in a ≡ refusal_in b → known_in a ≡ known_in b → place_in a ≡ place_in b → a ≡ b
same_place a b p q r =
    answer_once a b p (λ x y e f. same_found x y (sym (ap known_in e) ∙ (q ∙ ap known_in f)) (sym (ap place_in e) ∙ (r ∙ ap place_in f)))
