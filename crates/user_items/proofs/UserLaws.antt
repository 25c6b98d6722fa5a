-- The pass over the sub-items of a 50H, for any kinds: what one sub-item adds, and what the pass comes to.
-- Assumes nothing.
use Prim.Native.Nat.{ℕ}
use mathlib.Core.Bool.{Bool, true, false, ◌&&◌, ◌||◌, cond}
use mathlib.Core.List.{List, ◌∷◌, map}
use mathlib.Core.Path.{◌≡◌, refl, sym, ap, ◌∙◌}
use lib.ListN.{length}
use lib.Dec.{eqb, leb}
use Rattle.laws.specs.Lists.{all, any, among, distinct, same_bytes}
use Rattle.items.specs.Items.{Walk, done, broken, item, walk, filled, bodies}
use Rattle.items.proofs.HoldLaws.{pass}
use Rattle.user_items.specs.Kinds.{user_kinds, kept, sub_items_ok, good_50h}
use Rattle.user_items.specs.Private.OnePass.{comes, passes}
use Rattle.user_items.proofs.KindLaws.{passes_is}

-- ---- `comes`
module _ (once : List ℕ → List ℕ) (t : ℕ) (x : List ℕ) where
  pub comes_done : comes once t x done ≡ false
  unfolding comes bodies
  comes_done = refl

  pub comes_broken : comes once t x broken ≡ false
  unfolding comes bodies
  comes_broken = refl

  pub comes_item : (u : ℕ) (b : List ℕ) (w : Walk) → comes once t x (item u b w) ≡ ((eqb u t && same_bytes x (once b)) || comes once t x w)
  unfolding comes bodies
  comes_item u b w = go (eqb u t)
    where
      go : (d : Bool) → any (same_bytes x) (map once (cond d (b ∷ bodies t w) (bodies t w))) ≡ ((d && same_bytes x (once b)) || any (same_bytes x) (map once (bodies t w)))
      go true = refl
      go false = refl

pub ruleset comes_laws = (comes_done, comes_broken, comes_item)

-- ---- `user_ok`
module _ (b : List ℕ) where
  pub user_is : good_50h b ≡ (leb 1 (length (bodies 0x51 (walk b))) && passes user_kinds (walk b))
  unfolding good_50h sub_items_ok distinct among
  user_is =
      pass (leb 1 (length (bodies 0x51 (walk b)))) (filled (walk b)) (all (kept (walk b)) user_kinds)
      ∙ ap (λ (x : Bool). leb 1 (length (bodies 0x51 (walk b))) && x) (sym (passes_is user_kinds refl (walk b)))
