-- What the items of a type are from a place on.
-- Assumes nothing.
use Prim.Native.Nat.{ℕ, ◌+◌, ◌-◌, ◌≤◌, ◌<◌}
use native.Mathlib.Omega.{arith}
use mathlib.Core.List.{List, [], ◌∷◌}
use mathlib.Core.Path.{◌≡◌}
use lib.ListN.{length, take, drop, get_or, length-drop}
use lib.Seq.{length-take-le}
use borrow.Author.Tests.{eq-eqb, ne_eqb}
use Rattle.items.specs.Items.{walk, bodies, item_end}
use Rattle.items.proofs.WalkLaws.{Item, stop, over}

-- the body of the item that stands at a place and ends at e
abbrev pub body_at : List ℕ → ℕ → ℕ → List ℕ
body_at s at e = take (e - (at + 4)) (drop (at + 4) s)

pub body_length : {s : List ℕ} {at e : ℕ} → Item s at e → length (body_at s at e) ≡ e - (at + 4)
body_length {s} {at} {e} i = let l = length-drop (at + 4) s in length-take-le (e - (at + 4)) (drop (at + 4) s) (omega arith)

-- ---- the bodies of a type from a place on
module _ (t : ℕ) {s : List ℕ} {at e : ℕ} where
  pub bodies_more : Item s at e → get_or s at 0 ≡ t → bodies t (walk (drop at s)) ≡ body_at s at e ∷ bodies t (walk (drop e s))
  unfolding bodies
  bodies_more i h = rw (i.eq, eq-eqb (get_or s at 0) t h)

  pub bodies_skip : Item s at e → (get_or s at 0 ≡ t → ⊥) → bodies t (walk (drop at s)) ≡ bodies t (walk (drop e s))
  unfolding bodies
  bodies_skip i h = rw (i.eq, ne_eqb (get_or s at 0) t h)

pub bodies_stop : (t : ℕ) (s : List ℕ) (at e : ℕ) → e ≡ item_end s at → e ≡ 0 → at < length s → bodies t (walk (drop at s)) ≡ []
unfolding bodies
bodies_stop t s at e p z l = rw (stop s at e p z l)

pub bodies_over : (t : ℕ) (s : List ℕ) (at : ℕ) → length s ≤ at → bodies t (walk (drop at s)) ≡ []
unfolding bodies
bodies_over t s at h = rw (over s at h)
