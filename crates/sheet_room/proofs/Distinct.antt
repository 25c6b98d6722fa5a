-- How many numbers a list can have in which none comes twice: no more than there are to choose from; n where they are odd and below 2 n.
-- Assumes nothing.
use Prim.Native.Nat.{ℕ, zero, suc, ◌+◌, ◌*◌, ◌%◌, ◌≤◌, ◌<◌}
use native.Mathlib.Omega.{arith}
use mathlib.Core.Bool.{Bool, true, false, not, ◌&&◌, ◌||◌, cond}
use mathlib.Core.List.{List, [], ◌∷◌, map}
use mathlib.Core.Path.{◌≡◌, refl, sym, ◌∙◌}
use lib.ListN.{length, length-map}
use lib.Dec.{leb, ltb, eqb}
use borrow.Author.Tests.{eqb-true, eqb-false, ne_eqb, not-true, ltb-true}
use Rattle.laws.specs.Lists.{all, among, distinct}
use Rattle.laws.proofs.Booleans.{held, left_of, right_of, both_of, all_mapped}
use Rattle.octets.specs.Octets.{odd}

-- ---- the numbers without the first that is x
unfoldable without : ℕ → List ℕ → List ℕ
without x [] = []
without x (y ∷ ys) = cond (eqb x y) ys (y ∷ without x ys)

one_less : (x : ℕ) (ys : List ℕ) → among x ys ≡ true → length ys ≡ suc (length (without x ys))
unfolding without among
one_less x [] h = absurd (held false h)
one_less x (y ∷ ys) h = go (eqb x y) h (one_less x ys)
  where
    go : (d : Bool) → (d || among x ys) ≡ true → (among x ys ≡ true → length ys ≡ suc (length (without x ys))) → suc (length ys) ≡ suc (length (cond d ys (y ∷ without x ys)))
    go true e r = refl
    go false e r = rw (r e)

others_stay : (x z : ℕ) (ys : List ℕ) → eqb z x ≡ false → among z (without x ys) ≡ among z ys
unfolding without among
others_stay x z [] h = refl
others_stay x z (y ∷ ys) h = go (eqb x y) refl (others_stay x z ys h)
  where
    go : (d : Bool) → eqb x y ≡ d → among z (without x ys) ≡ among z ys → among z (cond d ys (y ∷ without x ys)) ≡ (eqb z y || among z ys)
    go true e r = rw (← eqb-true x y e, h)
    go false e r = rw r

all_stay : (x : ℕ) (xs ys : List ℕ) → among x xs ≡ false → all (λ z. among z ys) xs ≡ true → all (λ z. among z (without x ys)) xs ≡ true
unfolding among
all_stay x [] ys n h = refl
all_stay x (z ∷ xs) ys n h = go (eqb x z) refl n (λ m. all_stay x xs ys m (right_of (among z ys) _ h))
  where
    go : (d : Bool) → eqb x z ≡ d → (d || among x xs) ≡ false → (among x xs ≡ false → all (λ z. among z (without x ys)) xs ≡ true) → all (λ z. among z (without x ys)) (z ∷ xs) ≡ true
    go true e m r = absurd (held false (sym m))
    go false e m r = both_of _ _ (others_stay x z ys (ne_eqb z x (λ q. eqb-false x z e (sym q))) ∙ left_of _ _ h) (r m)

pub no_more : (xs ys : List ℕ) → distinct xs ≡ true → all (λ z. among z ys) xs ≡ true → length xs ≤ length ys
unfolding distinct
no_more [] ys d h = omega arith
no_more (x ∷ xs) ys d h =
    let l = one_less x ys (left_of _ _ h) in
    let r = no_more xs (without x ys) (right_of (not (among x xs)) _ d) (all_stay x xs ys (not-true (among x xs) (left_of _ _ d)) (right_of (among x ys) _ h)) in
    omega arith

-- ---- the odd numbers below 2 n
unfoldable odds : ℕ → List ℕ
odds zero = []
odds (suc n) = (1 + 2 * n) ∷ odds n

odds_count : (n : ℕ) → length (odds n) ≡ n
unfolding odds
odds_count zero = refl
odds_count (suc n) = rw (odds_count n)

odds_all : (n x : ℕ) → odd x ≡ true → x < 2 * n → among x (odds n) ≡ true
unfolding odds among
odds_all zero x o h = absurd (omega arith)
odds_all (suc n) x o h = go (eqb x (1 + 2 * n)) refl (odds_all n x o)
  where
    go : (d : Bool) → eqb x (1 + 2 * n) ≡ d → (x < 2 * n → among x (odds n) ≡ true) → (d || among x (odds n)) ≡ true
    go true e r = refl
    go false e r =
        let m : x % 2 ≡ 1 = eqb-true _ _ o in
        let k : (x ≡ 1 + 2 * n → ⊥) = eqb-false x (1 + 2 * n) e in
        r (omega arith)

pub odds_most : (n : ℕ) (xs : List ℕ) → distinct xs ≡ true → all odd xs ≡ true → all (λ x. ltb x (2 * n)) xs ≡ true → length xs ≤ n
odds_most n xs d o h = let l = no_more xs (odds n) d (chosen xs o h) in let c = odds_count n in omega arith
  where
    chosen : (xs : List ℕ) → all odd xs ≡ true → all (λ x. ltb x (2 * n)) xs ≡ true → all (λ z. among z (odds n)) xs ≡ true
    chosen [] o h = refl
    chosen (x ∷ xs) o h = both_of _ _ (odds_all n x (left_of _ _ o) (ltb-true _ _ (left_of _ _ h))) (chosen xs (right_of (odd x) _ o) (right_of (ltb x (2 * n)) _ h))

-- contexts or answers, each good and with an odd ID that is a byte, no ID twice: at most 128
pub ids_most : {C : Type 0} (ok : C → Bool) (id : C → ℕ) → ((c : C) → ok c ≡ true → odd (id c) ≡ true) → (cs : List C) → (leb 1 (length cs) && (all ok cs && distinct (map id cs))) ≡ true
    → all (λ x. ltb x 256) (map id cs) ≡ true → length cs ≤ 128
ids_most ok id o cs g b =
    let r : (all ok cs && distinct (map id cs)) ≡ true = right_of (leb 1 (length cs)) _ g in
    let n = odds_most 128 (map id cs) (right_of (all ok cs) _ r) (all_mapped ok odd id o cs (left_of _ _ r)) b in
    let l = length-map cs id in
    omega arith
