-- The search for an ID that comes twice: what one item adds to the IDs.
-- Assumes nothing.
use Prim.Native.Nat.{ℕ}
use mathlib.Core.Bool.{true, false}
use mathlib.Core.List.{List}
use mathlib.Core.Path.{◌≡◌}
use lib.ListN.{get_or}
use borrow.Author.Tests.{eq-eqb, ne_eqb}
use Rattle.laws.specs.Lists.{distinct}
use Rattle.id_set.specs.IdSet.{is_in, Empty, With}
use Rattle.id_set.proofs.SeenLaws.{fresh, fresh_start, fresh_none, fresh_seen, fresh_new}
use Rattle.items.specs.Items.{Walk, done, broken, item, bodies}
use Rattle.contents.specs.Contents.{ids}

pub start : (k : ℕ) (w : Walk) (seen : List ℕ) → Empty seen → distinct (ids k w) ≡ fresh seen (ids k w)
start k w seen e = fresh_start seen e (ids k w)

module _ (k : ℕ) (seen : List ℕ) where
  pub at_done : fresh seen (ids k done) ≡ true
  unfolding ids bodies
  at_done = fresh_none seen

  pub at_broken : fresh seen (ids k broken) ≡ true
  unfolding ids bodies
  at_broken = fresh_none seen

  module _ (t : ℕ) (b : List ℕ) (w : Walk) where
    pub another : (t ≡ k → ⊥) → fresh seen (ids k (item t b w)) ≡ fresh seen (ids k w)
    unfolding ids bodies
    another n = rw (ne_eqb t k n)

    pub seen_before : t ≡ k → is_in (get_or b 0 0) seen ≡ true → fresh seen (ids k (item t b w)) ≡ false
    unfolding ids bodies
    seen_before e i = rw (eq-eqb t k e) (fresh_seen seen (get_or b 0 0) (ids k w) i)

    pub new_one : (r : List ℕ) → t ≡ k → is_in (get_or b 0 0) seen ≡ false → With seen (get_or b 0 0) r → fresh seen (ids k (item t b w)) ≡ fresh r (ids k w)
    unfolding ids bodies
    new_one r e i x = rw (eq-eqb t k e) (fresh_new seen r (get_or b 0 0) (ids k w) i x)

pub ruleset seeking = (start, at_done, at_broken, another, seen_before, new_one)
