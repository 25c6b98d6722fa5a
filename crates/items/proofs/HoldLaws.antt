-- What a holder has that `holds` the known items in their order: it is filled, each known type comes as often as in the order, and its bodies are good.
-- Assumes nothing.
use Prim.Native.Nat.{ℕ, zero, suc, ◌+◌, ◌≤◌}
use native.Mathlib.Omega.{arith}
use mathlib.Core.Bool.{Bool, true, false, ◌&&◌, ◌||◌, cond, and-false}
use mathlib.Core.List.{List, [], ◌∷◌, ◌++◌}
use mathlib.Core.Path.{◌≡◌, refl, sym, ap, ◌∙◌}
use lib.ListN.{length, replicate}
use lib.Dec.{eqb}
use borrow.Author.Tests.{eqb-true, eq-eqb}
use Rattle.laws.specs.Lists.{all, among, same_bytes}
use Rattle.laws.proofs.Booleans.{held, left_of, right_of}
use Rattle.laws.proofs.Same.{same_equal}
use Rattle.items.specs.Items.{Walk, done, broken, item, filled, bodies, first, types, only, good_bodies, holds}

-- ---- how often a type comes
unfoldable pub times : ℕ → List ℕ → ℕ
times t [] = 0
times t (u ∷ ts) = cond (eqb u t) (suc (times t ts)) (times t ts)

pub times_types : (t : ℕ) (w : Walk) → times t (types w) ≡ length (bodies t w)
unfolding times types bodies
times_types t done = refl
times_types t broken = refl
times_types t (item u b w) = go (eqb u t) (times_types t w)
  where
    go : (d : Bool) → times t (types w) ≡ length (bodies t w) → cond d (suc (times t (types w))) (times t (types w)) ≡ length (cond d (b ∷ bodies t w) (bodies t w))
    go true e = ap suc e
    go false e = e

pub times_only : (t : ℕ) (known ts : List ℕ) → among t known ≡ true → times t (only known ts) ≡ times t ts
unfolding times only
times_only t known [] h = refl
times_only t known (u ∷ ts) h = go (among u known) refl (eqb u t) refl (times_only t known ts h)
  where
    go : (a : Bool) → among u known ≡ a → (d : Bool) → eqb u t ≡ d → times t (only known ts) ≡ times t ts
        → times t (cond a (u ∷ only known ts) (only known ts)) ≡ cond d (suc (times t ts)) (times t ts)
    go true p d q e = rw (q, e)
    go false p true q e = absurd (held false (sym p ∙ (ap (λ (x : ℕ). among x known) (eqb-true u t q) ∙ h)))
    go false p false q e = e

pub times_same : (t n : ℕ) (ts : List ℕ) → times t (replicate n t ++ ts) ≡ n + times t ts
unfolding times
times_same t zero ts = omega arith
times_same t (suc n) ts = rw (eq-eqb t t refl, times_same t n ts) (omega arith)

pub times_other : (t u n : ℕ) (ts : List ℕ) → eqb u t ≡ false → times t (replicate n u ++ ts) ≡ times t ts
unfolding times
times_other t u zero ts h = refl
times_other t u (suc n) ts h = rw (h, times_other t u n ts h)

-- ---- the bodies of a known type
pub good_each : (known : List ℕ) (good : ℕ → List ℕ → Bool) (t : ℕ) (w : Walk) → among t known ≡ true → good_bodies known good w ≡ true → all (good t) (bodies t w) ≡ true
unfolding among good_bodies
good_each [] good t w i h = absurd (held false i)
good_each (u ∷ known) good t w i h = go (eqb t u) refl i (λ j. good_each known good t w j (right_of (all (good u) (bodies u w)) _ h))
  where
    go : (d : Bool) → eqb t u ≡ d → (d || among t known) ≡ true → (among t known ≡ true → all (good t) (bodies t w) ≡ true) → all (good t) (bodies t w) ≡ true
    go true e j r = rw (eqb-true t u e) (left_of _ _ h)
    go false e j r = r j

-- one item more, and none
hit : (m g a r : Bool) → ((g && a) && (cond m g true && r)) ≡ (g && (a && r))
hit m false a r = refl
hit m true false r = refl
hit true true true r = refl
hit false true true r = refl

pub pass : (g a r : Bool) → (a && (g && r)) ≡ (g && (a && r))
pass g true r = refl
pass g false r = sym (and-false g)

pub goods_more : (known : List ℕ) (good : ℕ → List ℕ → Bool) (t : ℕ) (b : List ℕ) (w : Walk)
    → good_bodies known good (item t b w) ≡ (cond (among t known) (good t b) true && good_bodies known good w)
unfolding good_bodies bodies among
goods_more [] good t b w = refl
goods_more (u ∷ known) good t b w = rw (goods_more known good t b w) (go (eqb t u) refl)
  where
    go : (d : Bool) → eqb t u ≡ d
        → (all (good u) (cond d (b ∷ bodies u w) (bodies u w)) && (cond (among t known) (good t b) true && all (λ v. all (good v) (bodies v w)) known))
        ≡ (cond (d || among t known) (good t b) true && (all (good u) (bodies u w) && all (λ v. all (good v) (bodies v w)) known))
    go true e = rw (eqb-true t u e) (hit (among u known) (good u b) (all (good u) (bodies u w)) (all (λ v. all (good v) (bodies v w)) known))
    go false e = pass (cond (among t known) (good t b) true) (all (good u) (bodies u w)) (all (λ v. all (good v) (bodies v w)) known)

pub goods_done : (known : List ℕ) (good : ℕ → List ℕ → Bool) → good_bodies known good done ≡ true
unfolding good_bodies bodies
goods_done [] good = refl
goods_done (t ∷ known) good = goods_done known good

-- the first of good bodies, where there is one
pub first_good : (p : List ℕ → Bool) (bs : List (List ℕ)) → 1 ≤ length bs → all p bs ≡ true → p (first bs) ≡ true
first_good p [] n k = absurd (omega arith)
first_good p (b ∷ bs) n k = left_of _ _ k

-- ---- the parts
module _ (known : List ℕ) (good : ℕ → List ℕ → Bool) (order : List ℕ) (w : Walk) (h : holds known good order w ≡ true) where
  pub held_filled : filled w ≡ true
  unfolding holds
  held_filled = left_of _ _ h

  held_rest : (same_bytes (only known (types w)) order && good_bodies known good w) ≡ true
  unfolding holds
  held_rest = right_of (filled w) _ h

  pub held_order : only known (types w) ≡ order
  held_order = same_equal (only known (types w)) order (held (same_bytes (only known (types w)) order) (left_of _ _ held_rest))

  pub held_good : (t : ℕ) → among t known ≡ true → all (good t) (bodies t w) ≡ true
  held_good t i = good_each known good t w i (right_of (same_bytes (only known (types w)) order) _ held_rest)

  pub held_count : (t : ℕ) → among t known ≡ true → length (bodies t w) ≡ times t order
  held_count t i = sym (times_types t w) ∙ (sym (times_only t known (types w) i) ∙ ap (times t) held_order)
