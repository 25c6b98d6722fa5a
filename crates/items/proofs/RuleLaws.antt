-- Rules: what a holder has that keeps one.
-- Assumes nothing.
use Prim.Native.Nat.{ℕ}
use mathlib.Core.Bool.{Bool, true, false, ◌&&◌, cond, and-true}
use mathlib.Core.List.{List, [], ◌∷◌}
use mathlib.Core.Path.{◌≡◌, refl, sym, ap, ◌∙◌}
use lib.Dec.{eqb}
use Rattle.laws.specs.Lists.{among}
use Rattle.items.specs.Items.{Walk, done, broken, item, filled, types, only, good_bodies}
use Rattle.items.specs.Private.Rules.{Rule, keeps}
use Rattle.items.proofs.HoldLaws.{pass, goods_more, goods_done}

-- ---- A rule, told apart: the items fill the holder, the known types lead to the last state, and every known body is good
-- the state after items of these types
unfoldable pub state_after : Rule → ℕ → List ℕ → ℕ
state_after R st [] = st
state_after R st (t ∷ ts) = state_after R (R.next st t) ts

module _ (R : Rule) (known : List ℕ) (good : ℕ → List ℕ → Bool) (bodied : (t : ℕ) (b : List ℕ) → R.good t b ≡ cond (among t known) (good t b) true)
    (skips : (st t : ℕ) → among t known ≡ false → R.next st t ≡ st) where
  pub keeps_is : (st : ℕ) (w : Walk) → keeps R st w ≡ (filled w && (eqb (state_after R st (only known (types w))) R.last && good_bodies known good w))
  unfolding keeps filled types only state_after
  keeps_is st done = rw (goods_done known good) (sym (and-true (eqb st R.last)))
  keeps_is st broken = refl
  keeps_is st (item t b w) = rw (bodied t b, goods_more known good t b w, keeps_is (R.next st t) w) (go (among t known) refl)
    where
      go : (d : Bool) → among t known ≡ d
          → (cond d (good t b) true && (filled w && (eqb (state_after R (R.next st t) (only known (types w))) R.last && good_bodies known good w)))
          ≡ (filled w && (eqb (state_after R st (cond d (t ∷ only known (types w)) (only known (types w)))) R.last && (cond d (good t b) true && good_bodies known good w)))
      go true e =
          let s : Bool = eqb (state_after R (R.next st t) (only known (types w))) R.last in
          pass (filled w) (good t b) (s && good_bodies known good w) ∙ ap (λ (x : Bool). filled w && x) (pass s (good t b) (good_bodies known good w))
      go false e = rw (skips st t e)
