-- The laws of the walk: the equation that it is, and one step of it at a place of the bytes.
-- Assumes nothing.
use Prim.Native.Nat.{ℕ, ◌+◌, ◌-◌, ◌≤◌, ◌<◌}
use native.Mathlib.Omega.{arith}
use mathlib.Core.Bool.{true, false, cond}
use mathlib.Core.List.{List, [], ◌∷◌}
use mathlib.Core.Path.{◌≡◌, refl, ◌∙◌}
use lib.ListN.{length, take, drop, get_or, length-drop, drop_of_length-le}
use lib.Seq.{drop-drop, get_or-drop}
use lib.Dec.{leb}
use Rattle.laws.specs.Lists.{empty}
use Rattle.laws.proofs.Booleans.{right_of}
use Rattle.laws.proofs.Parts.{stepped, part_there, part_stands, part_not, any_length}
use Rattle.octets.specs.Octets.{be16}
use Rattle.octets.proofs.OctetLaws.{be16_drop}
use Rattle.items.specs.Items.{done, broken, item, step, walk_in, walk, item_end}

-- ---- the equation without a count of steps
pub walk_step : (s : List ℕ) → walk s ≡ step walk s
unfolding walk walk_in step
walk_step s =
    stepped step (λ r. cond (empty r) done broken) (λ go. refl) (λ f g r h. rw (h (drop (4 + be16 r 2) r) (let l = length-drop (4 + be16 r 2) r in omega arith))) s

pub walk_nil : walk [] ≡ done
unfolding walk walk_in
walk_nil = refl

-- ---- the equation at a place
-- an item stands at a place, ends at e, and the walk goes on there
pub record Item (s : List ℕ) (at e : ℕ) : Type 0 where
  pub from : at + 4 ≤ e
  pub to : e ≤ length s
  pub eq : walk (drop at s) ≡ item (get_or s at 0) (take (e - (at + 4)) (drop (at + 4) s)) (walk (drop e s))

-- some byte stands at a place
some : (s : List ℕ) (at : ℕ) → at < length s → empty (drop at s) ≡ false
some s at h = go (drop at s) (length-drop at s)
  where
    go : (l : List ℕ) → length l ≡ length s - at → empty l ≡ false
    go [] q = absurd (omega arith)
    go (x ∷ l) q = refl

-- what the walk gives where a byte stands
here : (s : List ℕ) (at : ℕ) → at < length s
    → walk (drop at s)
    ≡ cond (leb (4 + be16 s (at + 2)) (length s - at)) (item (get_or s at 0) (take (be16 s (at + 2)) (drop (at + 4) s)) (walk (drop (at + (4 + be16 s (at + 2))) s)))
    broken
unfolding step
here s at h =
    let z : at + 0 ≡ at = omega arith in
    walk_step (drop at s) ∙ rw (some s at h, be16_drop s at 2, length-drop at s, get_or-drop at s 0 0, z, drop-drop 4 at s, drop-drop (4 + be16 s (at + 2)) at s)

-- what `item_end` finds: a whole item, or none
module _ (s : List ℕ) (at e : ℕ) (p : e ≡ item_end s at) where
  pub more : (e ≡ 0 → ⊥) → Item s at e
  more ne =
      let i = part_there 0 s at (be16 s (at + 2)) e p ne in
      let f : leb (4 + be16 s (at + 2)) (length s - at) ≡ true = right_of (leb 0 (be16 s (at + 2))) _ (part_stands 0 s at (be16 s (at + 2)) e p ne) in
      let b : be16 s (at + 2) ≡ e - (at + 4) = omega arith in
      let n : at + (4 + be16 s (at + 2)) ≡ e = omega arith in
      record { from = omega arith; to = i.to; eq = here s at (omega arith) ∙ (simp f (rw (n, b))) }

  pub stop : e ≡ 0 → at < length s → walk (drop at s) ≡ broken
  stop z l =
      let f : leb (4 + be16 s (at + 2)) (length s - at) ≡ false = simp (any_length (be16 s (at + 2))) at (part_not 0 s at (be16 s (at + 2)) e p z) in
      here s at l ∙ simp f

pub over : (s : List ℕ) (at : ℕ) → length s ≤ at → walk (drop at s) ≡ done
over s at h = rw (drop_of_length-le s h, walk_nil)
