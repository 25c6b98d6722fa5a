-- The place behind a PDV item, as `pdv_end` answers it: from its tests, and what callers know of it.
-- Assumes nothing.
use Prim.Native.Nat.{ℕ, ◌+◌, ◌-◌, ◌<◌, ◌≤◌}
use native.Mathlib.Omega.{arith}
use native.Mathlib.Decide.{dec_lt}
use mathlib.Core.Bool.{Bool, true, false, cond, and-false}
use mathlib.Core.List.{List, [], ◌∷◌}
use mathlib.Core.Path.{◌≡◌, refl, sym, ◌∙◌}
use lib.ListN.{length, take, drop, get_or}
use lib.Dec.{eqb}
use borrow.Author.Tests.{le-leb, lt-leb, eqb-true, eqb-false, ne_eqb}
use Rattle.std.specs.Prelude.{None, Some}
use Rattle.laws.specs.Parts.{part_end}
use Rattle.laws.proofs.Places.{part_tail}
use Rattle.octets.specs.Octets.{be32}
use Rattle.pdvs.specs.Data.{pdvs, pdv_end, item_end}
use Rattle.pdvs.proofs.DataLaws.{pdv_more, pdv_stop}

module _ (s : List ℕ) (at n : ℕ) (p : n ≡ be32 s at) where
  pub no_room : length s < at + (4 + n) → None ≡ item_end s at
  unfolding part_end
  no_room l = rw (← p, lt-leb (at + 4 + n) (length s) (omega arith), and-false)

  pub none_there : n < 2 → None ≡ item_end s at
  unfolding part_end
  none_there l = rw (← p, lt-leb 2 n l)

  pub one_there : 2 ≤ n → at + (4 + n) ≤ length s → Some (at + (4 + n)) ≡ item_end s at
  unfolding part_end
  one_there m l =
      let e : at + (4 + n) ≡ at + 4 + n = omega arith in
      rw (← p, le-leb 2 n m, le-leb (at + 4 + n) (length s) (omega arith), ne_eqb (at + 4 + n) 0 (λ z. omega arith), e)

  -- fewer than six bytes hold no item
  pub no_head : length s < at + 6 → None ≡ item_end s at
  no_head l = go (dec_lt n 2)
    where
      go : Dec (n < 2) → None ≡ item_end s at
      go (yes m) = none_there m
      go (no m) = no_room (omega arith)

-- ---- what callers know of the answer
pub item_there : (s : List ℕ) (at e : ℕ) → Some e ≡ item_end s at → (e ≡ pdv_end s at) × (e ≡ 0 → ⊥)
item_there s at e p = go (eqb (pdv_end s at) 0) refl p
  where
    go : (b : Bool) → eqb (pdv_end s at) 0 ≡ b → Some e ≡ cond b None (Some (pdv_end s at)) → (e ≡ pdv_end s at) × (e ≡ 0 → ⊥)
    go true q r = absurd (cc)
    go false q r = let i : e ≡ pdv_end s at = cc in (i, λ z. eqb-false (pdv_end s at) 0 q (sym i ∙ z))

pub item_none : (s : List ℕ) (at : ℕ) → None ≡ item_end s at → pdv_end s at ≡ 0
item_none s at p = go (eqb (pdv_end s at) 0) refl p
  where
    go : (b : Bool) → eqb (pdv_end s at) 0 ≡ b → None ≡ cond b None (Some (pdv_end s at)) → pdv_end s at ≡ 0
    go true q r = eqb-true _ _ q
    go false q r = absurd (cc)

-- ---- the first PDV of a body, as it is read
pub first_item : (s : List ℕ) (e : ℕ) → Some e ≡ item_end s 0 → pdvs s ≡ record { id = get_or s 4 0; control = get_or s 5 0; fragment = take (e - 6) (drop 6 s) } ∷ pdvs (take (length s - e) (drop e s))
first_item s e p = let t = item_there s 0 e p in rw (part_tail e s) (pdv_more s 0 e t.0 t.1).eq

pub no_item : (s : List ℕ) → None ≡ item_end s 0 → pdvs s ≡ []
no_item s p = pdv_stop s 0 (pdv_end s 0) refl (item_none s 0 p)
