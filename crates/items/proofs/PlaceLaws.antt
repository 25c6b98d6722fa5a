-- Where the first item of a type stands, and how many items there can be.
-- Assumes nothing.
use Prim.Native.Nat.{ℕ, zero, suc, ◌+◌, ◌≤◌}
use native.Mathlib.Omega.{arith}
use mathlib.Core.Bool.{Bool, true, false, cond}
use mathlib.Core.List.{List, ◌∷◌}
use mathlib.Core.Path.{◌≡◌, refl, sym, ap, ◌∙◌}
use lib.ListN.{length, take, drop, get_or, length-drop}
use lib.Seq.{drop-drop, length-take-le}
use lib.Dec.{leb, eqb}
use borrow.Author.Tests.{leb-true}
use Rattle.laws.specs.Lists.{empty}
use Rattle.octets.specs.Octets.{be16}
use Rattle.items.specs.Items.{Walk, done, broken, item, step, walk_in, walk, bodies, first, place}

-- the first body of a type is what stands at its place, within the bytes, and there are at most as many as bytes
pub record Stands (t : ℕ) (s : List ℕ) (w : Walk) : Type 0 where
  pub part : take (length (first (bodies t w))) (drop (place t w) s) ≡ first (bodies t w)
  pub within : place t w + length (first (bodies t w)) ≤ length s
  pub few : length (bodies t w) ≤ length s

none : (t : ℕ) (s : List ℕ) (d : Bool) → Stands t s (cond d done broken)
unfolding bodies place
none t s true = record { part = refl; within = omega arith; few = omega arith }
none t s false = record { part = refl; within = omega arith; few = omega arith }

-- an item of n bytes, and those behind it
module _ (t u n : ℕ) (s : List ℕ) (w : Walk) (h : 4 + n ≤ length s) (r : Stands t (drop (4 + n) s) w) where
  long : length (take n (drop 4 s)) ≡ n
  long = let l = length-drop 4 s in length-take-le n (drop 4 s) (omega arith)

  behind : (d : Bool) → eqb u t ≡ d → Stands t s (item u (take n (drop 4 s)) w)
  unfolding bodies place
  behind true q =
      let l = long in
      let f = r.few in
      let k = length-drop (4 + n) s in
      let b : bodies t (item u (take n (drop 4 s)) w) ≡ take n (drop 4 s) ∷ bodies t w = rw q in
      let p : place t (item u (take n (drop 4 s)) w) ≡ 4 = rw q in
      record { part = rw (b, p, l); within = rw (b, p) (omega arith); few = rw b (omega arith) }
  behind false q =
      let l = long in
      let f = r.few in
      let i = r.within in
      let k = length-drop (4 + n) s in
      let b : bodies t (item u (take n (drop 4 s)) w) ≡ bodies t w = rw q in
      let p : place t (item u (take n (drop 4 s)) w) ≡ 4 + n + place t w = rw (q, l) in
      record { part = rw (b, p) (ap (take (length (first (bodies t w)))) (sym (drop-drop (place t w) (4 + n) s)) ∙ r.part); within = rw (b, p) (omega arith); few = rw b (omega arith) }

stand : (t n : ℕ) (s : List ℕ) → Stands t s (walk_in n s)
unfolding walk_in step
stand t zero s = none t s (empty s)
stand t (suc n) s = go (empty s) (leb (4 + be16 s 2) (length s)) refl (stand t n (drop (4 + be16 s 2) s))
  where
    go : (a b : Bool) → leb (4 + be16 s 2) (length s) ≡ b → Stands t (drop (4 + be16 s 2) s) (walk_in n (drop (4 + be16 s 2) s))
        → Stands t s (cond a done (cond b (item (get_or s 0 0) (take (be16 s 2) (drop 4 s)) (walk_in n (drop (4 + be16 s 2) s))) broken))
    go true b q r = none t s true
    go false false q r = none t s false
    go false true q r = behind t (get_or s 0 0) (be16 s 2) s (walk_in n (drop (4 + be16 s 2) s)) (leb-true _ _ q) r (eqb (get_or s 0 0) t) refl

pub stands : (t : ℕ) (s : List ℕ) → Stands t s (walk s)
unfolding walk
stands t s = stand t (length s) s

-- behind a head, where there is one
pub place_head : (t : ℕ) (w : Walk) → 1 ≤ length (bodies t w) → 4 ≤ place t w
unfolding bodies place
place_head t done h = absurd (omega arith)
place_head t broken h = absurd (omega arith)
place_head t (item u b w) h = go (eqb u t)
  where
    go : (d : Bool) → 4 ≤ cond d 4 (4 + length b + place t w)
    go true = omega arith
    go false = omega arith
