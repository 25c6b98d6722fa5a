-- A step of the iterator: what `item_end` tells of the item that stands first.
-- Assumes nothing.
use Prim.Native.Nat.{ℕ, zero, suc, ◌+◌, ◌-◌, ◌≤◌, ◌<◌}
use native.Mathlib.Omega.{arith}
use mathlib.Core.List.{List, [], ◌∷◌}
use mathlib.Core.Path.{◌≡◌, refl, sym, ap, ◌∙◌}
use lib.ListN.{length, take, drop, get_or, length-drop}
use lib.Seq.{length-take-le, take_all}
use borrow.Author.Rules.{rules}
use borrow.Author.Tests.{le-leb, lt-leb}
use Rattle.std.specs.Prelude.{Some, None}
use Rattle.laws.specs.Parts.{part_end}
use Rattle.laws.proofs.Parts.{any_length}
use Rattle.octets.specs.Octets.{be16}
use Rattle.items.specs.Items.{walk, done, broken, item, item_end}
use Rattle.items.specs.Steps.{place_or_none}
use Rattle.items.proofs.WalkLaws.{walk_nil, more, stop}

-- ---- `item_end`
some_place : (n : ℕ) → 0 < n → place_or_none n ≡ Some n
some_place zero h = absurd (omega arith)
some_place (suc n) h = refl

module _ (s : List ℕ) (at : ℕ) where
  pub no_end : length s < at + 4 + be16 s (at + 2) → place_or_none (item_end s at) ≡ None
  unfolding part_end
  no_end h = rw (any_length (be16 s (at + 2)), lt-leb (at + 4 + be16 s (at + 2)) (length s) h)

  pub its_end : (n : ℕ) → n ≡ be16 s (at + 2) → at + 4 + n ≤ length s → place_or_none (item_end s at) ≡ Some (at + 4 + n)
  unfolding part_end
  its_end n p h = rw (← p, any_length n, le-leb (at + 4 + n) (length s) h) (some_place (at + 4 + n) (omega arith))

pub ruleset end_rules = (no_end, its_end)

-- ---- the item that stands first
-- the bytes from a place on, as the code has them
abbrev pub behind : List ℕ → ℕ → List ℕ
behind s e = take (length s - e) (drop e s)

behind_is : (s : List ℕ) (e : ℕ) → behind s e ≡ drop e s
behind_is s e = let l = length-drop e s in take_all (length s - e) (drop e s) (omega arith)

-- it ends at e
pub record First (s : List ℕ) (e : ℕ) : Type 0 where
  pub from : 4 ≤ e
  pub to : e ≤ length s
  pub eq : walk s ≡ item (get_or s 0 0) (take (e - 4) (drop 4 s)) (walk (behind s e))
  pub size : 4 + length (take (e - 4) (drop 4 s)) ≡ e
  pub more : length (behind s e) ≡ length s - e
  pub rest : behind s e ≡ drop (4 + length (take (e - 4) (drop 4 s))) s

place_is : (m e : ℕ) → Some e ≡ place_or_none m → (e ≡ m) × (e ≡ 0 → ⊥)
place_is zero e p = absurd (cc)
place_is (suc m) e p = (cc, λ z. (cc))

pub there : (s : List ℕ) (e : ℕ) → Some e ≡ place_or_none (item_end s 0) → First s e
there s e p =
    let q = place_is (item_end s 0) e p in
    let i = more s 0 e q.0 q.1 in
    let f : 4 ≤ e = let f = i.from in omega arith in
    let d = length-drop 4 s in
    let l : length (take (e - 4) (drop 4 s)) ≡ e - 4 = length-take-le (e - 4) (drop 4 s) (let t = i.to in omega arith) in
    let z : 4 + length (take (e - 4) (drop 4 s)) ≡ e = omega arith in
    record { from = f; to = i.to; eq = rw (behind_is s e) i.eq; size = z; more = rw (behind_is s e) (length-drop e s); rest = rw z (behind_is s e) }

none_is : (m : ℕ) → None ≡ place_or_none m → m ≡ 0
none_is zero p = refl
none_is (suc m) p = absurd (cc)

pub broken_there : (s : List ℕ) → None ≡ place_or_none (item_end s 0) → 0 < length s → walk s ≡ broken
broken_there s p l = stop s 0 0 (sym (none_is (item_end s 0) p)) refl l

pub none_left : (s : List ℕ) → length s ≡ 0 → s ≡ []
none_left [] l = refl
none_left (x ∷ s) l = absurd (omega arith)

pub done_there : (s : List ℕ) → length s ≡ 0 → walk s ≡ done
done_there s l = ap walk (none_left s l) ∙ walk_nil

-- in the forms that a step's goals have
module _ (s : List ℕ) (e : ℕ) (p : Some e ≡ place_or_none (item_end s 0)) where
  pub there_from : 4 ≤ e
  there_from = (there s e p).from

  pub there_to : e ≤ length s
  there_to = (there s e p).to

pub ruleset step_rules = (there_from, there_to, rules)
