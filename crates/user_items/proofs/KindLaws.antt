-- The walk over sub-items, their filling and that nothing comes twice, for any list of kinds: the one pass comes to what the kinds say one by one.
-- Assumes nothing.
use Prim.Native.Nat.{ℕ}
use mathlib.Core.Bool.{Bool, true, false, not, ◌&&◌, ◌||◌, cond, and-true}
use mathlib.Core.List.{List, [], ◌∷◌, map}
use mathlib.Core.Path.{◌≡◌, refl, sym, ap, ◌∙◌}
use lib.Dec.{eqb}
use borrow.Author.Tests.{eqb-true, not-true}
use Rattle.laws.specs.Lists.{all, any, among, distinct, differ, same_bytes}
use Rattle.laws.proofs.Booleans.{left_of, right_of, or_left, or_right}
use Rattle.items.specs.Items.{Walk, done, broken, item, filled, bodies}
use Rattle.items.proofs.HoldLaws.{pass}
use Rattle.user_items.specs.Kinds.{Kind, kept}
use Rattle.user_items.specs.Private.OnePass.{type_of, known_in, good_in, once_in, comes, sub_ok, passes}

-- ---- one kind, one sub-item more
-- a sub-item, if it is of this kind, with those behind it
abbrev fits : ℕ → List ℕ → Walk → Kind → Bool
fits t b w k = cond (eqb t k.type) (k.good b && not (comes k.once k.type (k.once b) w)) true

weave : (a b c d : Bool) → ((a && b) && (c && d)) ≡ ((a && c) && (b && d))
weave true b true d = refl
weave true true false d = refl
weave true false false d = refl
weave false b c d = refl

kept_more : (t : ℕ) (b : List ℕ) (w : Walk) (k : Kind) → kept (item t b w) k ≡ (fits t b w k && kept w k)
unfolding kept bodies differ comes
kept_more t b w k = go (eqb t k.type)
  where
    bs : List (List ℕ)
    bs = bodies k.type w

    go : (d : Bool) → (all k.good (cond d (b ∷ bs) bs) && differ (map k.once (cond d (b ∷ bs) bs)))
        ≡ (cond d (k.good b && not (any (same_bytes (k.once b)) (map k.once bs))) true && (all k.good bs && differ (map k.once bs)))
    go true = weave (k.good b) (all k.good bs) (not (any (same_bytes (k.once b)) (map k.once bs))) (differ (map k.once bs))
    go false = refl

-- ---- all kinds
all_more : (t : ℕ) (b : List ℕ) (w : Walk) (ks : List Kind) → all (kept (item t b w)) ks ≡ (all (fits t b w) ks && all (kept w) ks)
all_more t b w [] = refl
all_more t b w (k ∷ ks) = rw (kept_more t b w k, all_more t b w ks) (weave (fits t b w k) (kept w k) (all (fits t b w) ks) (all (kept w) ks))

all_done : (ks : List Kind) → all (kept done) ks ≡ true
unfolding kept bodies differ
all_done [] = refl
all_done (k ∷ ks) = all_done ks

-- where kinds have different types, one of them at most decides
none_fits : (t : ℕ) (b : List ℕ) (w : Walk) (ks : List Kind) → among t (map type_of ks) ≡ false → all (fits t b w) ks ≡ true
unfolding among
none_fits t b w [] h = refl
none_fits t b w (k ∷ ks) h = rw (or_left (eqb t k.type) _ h) (none_fits t b w ks (or_right (eqb t k.type) _ h))

all_fit : (t : ℕ) (b : List ℕ) (w : Walk) (ks : List Kind) → distinct (map type_of ks) ≡ true → all (fits t b w) ks ≡ sub_ok ks t b w
unfolding sub_ok known_in good_in once_in among distinct
all_fit t b w [] h = refl
all_fit t b w (k ∷ ks) h = go (eqb t k.type) refl (all_fit t b w ks (right_of (not (among k.type (map type_of ks))) _ h))
  where
    go : (d : Bool) → eqb t k.type ≡ d → all (fits t b w) ks ≡ cond (among t (map type_of ks)) (good_in ks t b && not (comes (once_in ks t) t (once_in ks t b) w)) true
        → (cond d (k.good b && not (comes k.once k.type (k.once b) w)) true && all (fits t b w) ks)
        ≡ cond (d || among t (map type_of ks)) (cond d (k.good b) (good_in ks t b) && not (comes (cond d k.once (once_in ks t)) t (cond d k.once (once_in ks t) b) w)) true
    go true e r =
        let n : among t (map type_of ks) ≡ false = ap (λ (u : ℕ). among u (map type_of ks)) (eqb-true t k.type e) ∙ not-true _ (left_of _ _ h) in
        rw (none_fits t b w ks n, and-true, eqb-true t k.type e)
    go false e r = r

pub passes_is : (ks : List Kind) → distinct (map type_of ks) ≡ true → (w : Walk) → passes ks w ≡ (filled w && all (kept w) ks)
unfolding passes filled
passes_is ks h done = sym (all_done ks)
passes_is ks h broken = refl
passes_is ks h (item t b w) =
    rw (all_more t b w ks, all_fit t b w ks h, passes_is ks h w) (sym (pass (sub_ok ks t b w) (filled w) (all (kept w) ks)))
