-- How many bytes items take: those of some types together no more than there are, and all of them just as many where they fill their holder.
-- Assumes nothing.
use Prim.Native.Nat.{ℕ, zero, suc, ◌+◌, ◌≤◌}
use native.Mathlib.Omega.{arith}
use mathlib.Core.Bool.{Bool, true, false, not, ◌||◌, cond}
use mathlib.Core.List.{List, [], ◌∷◌}
use mathlib.Core.Path.{◌≡◌, refl, sym}
use lib.ListN.{length, take, drop, get_or, length-drop}
use lib.Seq.{length-take-le}
use lib.Dec.{leb, eqb}
use borrow.Author.Tests.{leb-true, eqb-true, not-true}
use Rattle.laws.specs.Lists.{empty, among, distinct}
use Rattle.laws.proofs.Booleans.{held, left_of, right_of}
use Rattle.octets.specs.Octets.{be16}
use Rattle.items.specs.Items.{Walk, done, broken, item, step, walk_in, walk, filled, bodies}

-- ---- an item takes four bytes and those of its body: all items, those with these bodies, and those of these types
unfoldable pub walk_size : Walk → ℕ
walk_size done = 0
walk_size broken = 0
walk_size (item t b w) = 4 + length b + walk_size w

unfoldable pub sizes : List (List ℕ) → ℕ
sizes [] = 0
sizes (b ∷ bs) = 4 + length b + sizes bs

unfoldable pub sizes_of : List ℕ → Walk → ℕ
sizes_of [] w = 0
sizes_of (t ∷ ts) w = sizes (bodies t w) + sizes_of ts w

-- ---- one item in front
module _ (u : ℕ) (b : List ℕ) (w : Walk) where
  past : (ts : List ℕ) → among u ts ≡ false → sizes_of ts (item u b w) ≡ sizes_of ts w
  unfolding sizes_of bodies among
  past [] h = refl
  past (t ∷ ts) h = go (eqb u t) h (past ts)
    where
      go : (d : Bool) → (d || among u ts) ≡ false → (among u ts ≡ false → sizes_of ts (item u b w) ≡ sizes_of ts w)
          → sizes (cond d (b ∷ bodies t w) (bodies t w)) + sizes_of ts (item u b w) ≡ sizes (bodies t w) + sizes_of ts w
      go true e r = absurd (held false (sym e))
      go false e r = rw (r e)

  more : (ts : List ℕ) → distinct ts ≡ true → sizes_of ts (item u b w) ≤ 4 + length b + sizes_of ts w
  unfolding sizes sizes_of bodies distinct
  more [] h = omega arith
  more (t ∷ ts) h = go (eqb u t) refl (more ts (right_of (not (among t ts)) _ h))
    where
      go : (d : Bool) → eqb u t ≡ d → sizes_of ts (item u b w) ≤ 4 + length b + sizes_of ts w
          → sizes (cond d (b ∷ bodies t w) (bodies t w)) + sizes_of ts (item u b w) ≤ 4 + length b + (sizes (bodies t w) + sizes_of ts w)
      go true e r =
          let n : among t ts ≡ false = not-true (among t ts) (left_of _ _ h) in
          let p = past ts (rw (eqb-true u t e) n) in
          omega arith
      go false e r = omega arith

none : (w : Walk) → ((t : ℕ) → bodies t w ≡ []) → (ts : List ℕ) → sizes_of ts w ≡ 0
unfolding sizes sizes_of
none w h [] = refl
none w h (t ∷ ts) = rw (h t, none w h ts)

pub sizes_most : (ts : List ℕ) → distinct ts ≡ true → (w : Walk) → sizes_of ts w ≤ walk_size w
unfolding walk_size bodies
sizes_most ts h done = let z = none done (λ t. refl) ts in omega arith
sizes_most ts h broken = let z = none broken (λ t. refl) ts in omega arith
sizes_most ts h (item u b w) = let m = more u b w ts h in let r = sizes_most ts h w in omega arith

-- ---- what holds at the end of a holder, where no whole item stands, and with an item in front where it holds of those behind it, holds of its items
module _ (P : List ℕ → Walk → Type 0) (ended : P [] done) (broke : (s : List ℕ) → P s broken)
    (front : (s : List ℕ) (n : ℕ) (w : Walk) → 4 + n ≤ length s → P (drop (4 + n) s) w → P s (item (get_or s 0 0) (take n (drop 4 s)) w)) where
  last : (s : List ℕ) → P s (cond (empty s) done broken)
  last [] = ended
  last (x ∷ s) = broke (x ∷ s)

  each_step : (n : ℕ) (s : List ℕ) → P s (walk_in n s)
  unfolding walk_in step
  each_step zero s = last s
  each_step (suc n) s = go s (leb (4 + be16 s 2) (length s)) refl (each_step n (drop (4 + be16 s 2) s))
    where
      go : (s : List ℕ) (b : Bool) → leb (4 + be16 s 2) (length s) ≡ b → P (drop (4 + be16 s 2) s) (walk_in n (drop (4 + be16 s 2) s))
          → P s (cond (empty s) done (cond b (item (get_or s 0 0) (take (be16 s 2) (drop 4 s)) (walk_in n (drop (4 + be16 s 2) s))) broken))
      go [] b q r = ended
      go (x ∷ s) true q r = front (x ∷ s) (be16 (x ∷ s) 2) (walk_in n (drop (4 + be16 (x ∷ s) 2) (x ∷ s))) (leb-true _ _ q) r
      go (x ∷ s) false q r = broke (x ∷ s)

  pub by_items : (s : List ℕ) → P s (walk s)
  unfolding walk
  by_items s = each_step (length s) s

-- ---- items that fill their holder take all of it
pub size_filled : (s : List ℕ) → filled (walk s) ≡ true → walk_size (walk s) ≡ length s
unfolding filled walk_size
size_filled =
    by_items (λ s w. filled w ≡ true → walk_size w ≡ length s) (λ f. refl) (λ s f. absurd (held false f)) (λ s n w h r f.
    let m = r f in
    let d = length-drop (4 + n) s in
    let e = length-drop 4 s in
    let l : length (take n (drop 4 s)) ≡ n = length-take-le n (drop 4 s) (omega arith) in
    omega arith)
