-- The bytes of items behind those of others that fill their holder: the items of both.
-- Assumes nothing.
use Prim.Native.Nat.{ℕ, zero, suc, ◌+◌, ◌≤◌}
use native.Mathlib.Omega.{arith}
use mathlib.Core.Bool.{Bool, true, false, cond}
use mathlib.Core.List.{List, [], ◌∷◌, ◌++◌}
use mathlib.Core.Path.{◌≡◌, refl, ap, ◌∙◌}
use lib.ListN.{length, take, drop, length-append, length-drop, get_or-append}
use lib.Seq.{take-append-le, drop-append-le}
use lib.Dec.{leb, eqb}
use borrow.Author.Tests.{leb-true, le-leb}
use Rattle.laws.proofs.Booleans.{held}
use Rattle.octets.specs.Octets.{be16}
use Rattle.items.specs.Items.{Walk, done, broken, item, step, walk, filled, bodies, types}
use Rattle.items.proofs.WalkLaws.{walk_step, walk_nil}

-- the items of w, and then those of v
unfoldable pub join : Walk → Walk → Walk
join done v = v
join broken v = broken
join (item t b w) v = item t b (join w v)

be16_front : (s r : List ℕ) (at : ℕ) → at + 2 ≤ length s → be16 (s ++ r) at ≡ be16 s at
unfolding be16
be16_front s r at h = rw (get_or-append s r 0 at (omega arith), get_or-append s r 0 (at + 1) (omega arith))

-- a byte stands there: its item is that of both, and the rest goes on as it does
one_more : (x : ℕ) (s r : List ℕ) → filled (walk (x ∷ s)) ≡ true
    → (filled (walk (drop (4 + be16 (x ∷ s) 2) (x ∷ s))) ≡ true → walk (drop (4 + be16 (x ∷ s) 2) (x ∷ s) ++ r) ≡ join (walk (drop (4 + be16 (x ∷ s) 2) (x ∷ s))) (walk r))
    → walk (x ∷ (s ++ r)) ≡ join (walk (x ∷ s)) (walk r)
unfolding step filled join
one_more x s r f more = go (leb (4 + be16 (x ∷ s) 2) (length (x ∷ s))) refl
  where
    go : (d : Bool) → leb (4 + be16 (x ∷ s) 2) (length (x ∷ s)) ≡ d → walk (x ∷ (s ++ r)) ≡ join (walk (x ∷ s)) (walk r)
    go false e = let w : walk (x ∷ s) ≡ broken = walk_step (x ∷ s) ∙ rw e in absurd (held false (rw w at f))
    go true e =
        let k : 4 + be16 (x ∷ s) 2 ≤ length (x ∷ s) = leb-true _ _ e in
        let w : walk (x ∷ s) ≡ item x (take (be16 (x ∷ s) 2) (drop 4 (x ∷ s))) (walk (drop (4 + be16 (x ∷ s) 2) (x ∷ s))) = walk_step (x ∷ s) ∙ rw e in
        let a = length-append (x ∷ s) r in
        let m : leb (4 + be16 (x ∷ s) 2) (length (x ∷ (s ++ r))) ≡ true = le-leb (4 + be16 (x ∷ s) 2) (length (x ∷ (s ++ r))) (omega arith) in
        let d = length-drop 4 (x ∷ s) in
        let c : take (be16 (x ∷ s) 2) (drop 4 (x ∷ (s ++ r))) ≡ take (be16 (x ∷ s) 2) (drop 4 (x ∷ s))
        = ap (take (be16 (x ∷ s) 2)) (drop-append-le 4 (x ∷ s) r (omega arith)) ∙ take-append-le (be16 (x ∷ s) 2) (drop 4 (x ∷ s)) r (omega arith) in
        let v : walk (x ∷ (s ++ r)) ≡ item x (take (be16 (x ∷ s) 2) (drop 4 (x ∷ s))) (walk (drop (4 + be16 (x ∷ s) 2) (x ∷ s) ++ r))
        = walk_step (x ∷ (s ++ r)) ∙ rw (be16_front (x ∷ s) r 2 (omega arith), m, c, drop-append-le (4 + be16 (x ∷ s) 2) (x ∷ s) r k) in
        v ∙ rw (more (rw w at f), w)

walk_front : (n : ℕ) (s r : List ℕ) → length s ≤ n → filled (walk s) ≡ true → walk (s ++ r) ≡ join (walk s) (walk r)
unfolding join
walk_front zero s r h f = go s h
  where
    go : (s : List ℕ) → length s ≤ 0 → walk (s ++ r) ≡ join (walk s) (walk r)
    go [] h = rw walk_nil
    go (x ∷ s) h = absurd (omega arith)
walk_front (suc n) s r h f = go s h f (λ t. walk_front n t r)
  where
    go : (s : List ℕ) → length s ≤ suc n → filled (walk s) ≡ true → ((t : List ℕ) → length t ≤ n → filled (walk t) ≡ true → walk (t ++ r) ≡ join (walk t) (walk r)) → walk (s ++ r) ≡ join (walk s) (walk r)
    go [] h f more = rw walk_nil
    go (x ∷ s) h f more = one_more x s r f (more (drop (4 + be16 (x ∷ s) 2) (x ∷ s)) (omega (arith, length-drop (4 + be16 (x ∷ s) 2) (x ∷ s))))

pub walk_join : (s r : List ℕ) → filled (walk s) ≡ true → walk (s ++ r) ≡ join (walk s) (walk r)
walk_join s r f = walk_front (length s) s r (omega arith) f

-- ---- what they have
module _ (v : Walk) where
  pub join_filled : (u : Walk) → filled u ≡ true → filled (join u v) ≡ filled v
  unfolding join filled
  join_filled done f = refl
  join_filled broken f = absurd (held false f)
  join_filled (item t b u) f = join_filled u f

  pub join_types : (u : Walk) → filled u ≡ true → types (join u v) ≡ types u ++ types v
  unfolding join types filled
  join_types done f = refl
  join_types broken f = absurd (held false f)
  join_types (item t b u) f = ap (λ (l : List ℕ). t ∷ l) (join_types u f)

  pub join_bodies : (k : ℕ) (u : Walk) → filled u ≡ true → bodies k (join u v) ≡ bodies k u ++ bodies k v
  unfolding join bodies filled
  join_bodies k done f = refl
  join_bodies k broken f = absurd (held false f)
  join_bodies k (item t b u) f = go (eqb t k) (join_bodies k u f)
    where
      go : (d : Bool) → bodies k (join u v) ≡ bodies k u ++ bodies k v → cond d (b ∷ bodies k (join u v)) (bodies k (join u v)) ≡ cond d (b ∷ bodies k u) (bodies k u) ++ bodies k v
      go true e = ap (λ (l : List (List ℕ)). b ∷ l) e
      go false e = e
