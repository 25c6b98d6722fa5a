-- Laws of parts that are put one behind the other where all have room, and of an item.
-- Assumes nothing.
use Prim.Native.Nat.{ℕ, ◌+◌, ◌/◌, ◌%◌, ◌≤◌, ◌<◌}
use native.Mathlib.Numerals.{add-one}
use mathlib.Core.Path.{◌≡◌, ap, ◌∙◌}
use lib.Seq.{drop-cons}
use native.Mathlib.Omega.{arith}
use mathlib.Core.List.{List, [], ◌∷◌, ◌++◌}
use lib.ListN.{length, drop, get_or, length-append}
use borrow.Author.Rules.{rules}
use Rattle.octets.specs.Octets.{two}
use Rattle.octets.specs.Put.{Placed}
use Rattle.octets.specs.Private.Put.{Put}
use Rattle.octets.proofs.PutLaws.{Putting, putting_start, putting_next, putting_done, placed_next, next_room, next_put}
use Rattle.items.specs.Wire.{item_bytes}
use Rattle.items.proofs.WireLaws.{item_length}

-- ---- `put_item`
pub item_put : (o body l o₁ o₂ : List ℕ) (at kind m r : ℕ) → at + 4 + length body ≤ length o → l ≡ two (length body) → Placed o at (kind ∷ 0 ∷ get_or l 0 0 ∷ get_or l 1 0 ∷ []) m o₁ → Placed o₁ m body r o₂ → Put o at (item_bytes kind body) r o₂
unfolding item_bytes
item_put o body l o₁ o₂ at kind m r h e p q =
    placed_next o at (kind ∷ 0 ∷ length body / 256 ∷ length body % 256 ∷ []) body o₁ m (omega arith) (rw e at p) q

pub ruleset item_laws = (rules, item_put)

-- ---- a part, and the rest behind it
module _ (o part rest : List ℕ) (at : ℕ) (h : at + length (part ++ rest) ≤ length o) where
  both : at + (length part + length rest) ≤ length o
  both = omega (arith, length-append part rest)

  pub part_room : at + length part ≤ length o
  part_room = omega (arith, length-append part rest)

  module _ (o₁ : List ℕ) (i : ℕ) (p : Put o at part i o₁) where
    pub rest_room : i + length rest ≤ length o₁
    rest_room = next_room o at part rest o₁ i both p

    pub both_put : (o₂ : List ℕ) (r : ℕ) → Put o₁ i rest r o₂ → Put o at (part ++ rest) r o₂
    both_put o₂ r q = next_put o at part rest o₁ i both p q

-- the room of an item, as `put_item` wants it
pub item_room : (o body : List ℕ) (at kind : ℕ) → at + length (item_bytes kind body) ≤ length o → at + 4 + length body ≤ length o
item_room o body at kind h = omega (arith, item_length kind body)

-- ---- a loop that puts parts one behind the other: all that comes before place n is there, and the rest has room
pub record Writing (o₀ : List ℕ) (from : ℕ) (all o : List ℕ) (n : ℕ) (rest : List ℕ) : Type 0 where
  pub putting : Putting o₀ from all o n rest
  pub room : n + length rest ≤ length o

pub writing_start : (o : List ℕ) (from : ℕ) (all : List ℕ) → from + length all ≤ length o → Writing o from all o from all
writing_start o from all h = record { putting = putting_start o from all; room = h }

module _ (o₀ all o rest : List ℕ) (from n : ℕ) (w : Writing o₀ from all o n rest) where
  pub writing_room : (a rest' : List ℕ) → rest ≡ a ++ rest' → n + length a ≤ length o
  writing_room a rest' e = let l = ap length e ∙ length-append a rest' in let r = w.room in omega arith

  pub writing_next : (a rest' : List ℕ) → rest ≡ a ++ rest' → (o' : List ℕ) (n' : ℕ) → Put o n a n' o' → Writing o₀ from all o' n' rest'
  writing_next a rest' e o' n' q =
      let l = ap length e ∙ length-append a rest' in
      let r = w.room in
      let j = q.behind in
      let f = putting_next o₀ all o rest from n w.putting a rest' o' n' e (writing_room a rest' e) q in
      let i = f.long in
      let k = w.putting.long in
      record { putting = f; room = omega arith }

  pub writing_done : rest ≡ [] → Put o₀ from all n o
  writing_done e = putting_done o₀ all o rest from n w.putting e

-- ---- a list gone over from place i on
pub drop_step : {A : Type 0} (xs : List A) (i : ℕ) (d : A) → i < length xs → drop i xs ≡ get_or xs i d ∷ drop (i + 1) xs
drop_step xs i d h = rw add-one (drop-cons xs i d h)
