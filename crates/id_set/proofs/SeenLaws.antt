-- The search for a number that comes twice, in one pass: those seen so far are in a set. One marking serves every search for a repeated ID.
-- Assumes nothing.
use Prim.Native.Nat.{ℕ}
use mathlib.Core.Bool.{Bool, true, false, not, ◌&&◌, ◌||◌}
use mathlib.Core.List.{List, [], ◌∷◌}
use mathlib.Core.Path.{◌≡◌, refl, sym}
use lib.Dec.{eqb}
use borrow.Author.Tests.{eq-eqb, ne_eqb, eqb-true, eqb-false}
use Rattle.laws.specs.Lists.{all, among, distinct}
use Rattle.id_set.specs.IdSet.{is_in, Empty, With}

-- none of the numbers was seen, and none comes twice
unfoldable pub fresh : List ℕ → List ℕ → Bool
fresh seen xs = all (λ n. not (is_in n seen)) xs && distinct xs

all_unseen : (m : List ℕ) → Empty m → (xs : List ℕ) → all (λ n. not (is_in n m)) xs ≡ true
all_unseen m e [] = refl
all_unseen m e (x ∷ xs) = rw (e.none x) (all_unseen m e xs)

pub fresh_start : (m : List ℕ) → Empty m → (xs : List ℕ) → distinct xs ≡ fresh m xs
unfolding fresh
fresh_start m e xs = rw (all_unseen m e xs)

pub fresh_none : (m : List ℕ) → fresh m [] ≡ true
unfolding fresh distinct
fresh_none m = refl

pub fresh_seen : (m : List ℕ) (x : ℕ) (xs : List ℕ) → is_in x m ≡ true → fresh m (x ∷ xs) ≡ false
unfolding fresh
fresh_seen m x xs e = rw e

turned : (a b : ℕ) → eqb a b ≡ eqb b a
turned a b = go (eqb b a) refl
  where
    go : (t : Bool) → eqb b a ≡ t → eqb a b ≡ t
    go true q = eq-eqb a b (sym (eqb-true b a q))
    go false q = ne_eqb a b (λ e. eqb-false b a q (sym e))

apart : (p q s t : Bool) → (not (p || s) && (not q && t)) ≡ (not (p || q) && (not s && t))
apart true q s t = refl
apart false true true t = refl
apart false true false t = refl
apart false false true t = refl
apart false false false t = refl

moved : (a b c : Bool) → (b && (a && c)) ≡ ((a && b) && c)
moved true true c = refl
moved true false c = refl
moved false true c = refl
moved false false c = refl

-- those that are not in the set with x are not x and not in the set
all_with : (m r : List ℕ) (x : ℕ) → With m x r → (xs : List ℕ) → all (λ n. not (is_in n r)) xs ≡ (not (among x xs) && all (λ n. not (is_in n m)) xs)
unfolding among
all_with m r x w [] = refl
all_with m r x w (y ∷ ys) = rw (w.ids y, turned y x, all_with m r x w ys) (apart (eqb x y) (among x ys) (is_in y m) (all (λ n. not (is_in n m)) ys))

pub fresh_new : (m r : List ℕ) (x : ℕ) (xs : List ℕ) → is_in x m ≡ false → With m x r → fresh m (x ∷ xs) ≡ fresh r xs
unfolding fresh distinct
fresh_new m r x xs e w = rw (e, all_with m r x w xs) (moved (not (among x xs)) (all (λ n. not (is_in n m)) xs) (distinct xs))
