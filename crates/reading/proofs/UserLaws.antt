-- The fields that the user information gives: each way through the code.
-- Assumes nothing.
use Prim.Native.Nat.{ℕ, ◌+◌, ◌-◌, ◌≤◌}
use native.Mathlib.Omega.{arith}
use mathlib.Core.Bool.{true, false}
use mathlib.Core.List.{List, [], ◌∷◌}
use mathlib.Core.Path.{◌≡◌, refl, sym, ap, ◌∙◌}
use lib.ListN.{length, drop, length-drop}
use Rattle.std.specs.Prelude.{Option, None, Some}
use mir.Val.{Fits}
use mir.Syntax.{w64}
use Rattle.laws.specs.Lists.{empty}
use Rattle.octets.specs.Octets.{be16}
use Rattle.items.specs.Items.{walk, bodies, first, place}
use Rattle.items.proofs.PlaceLaws.{stands}
use Rattle.user_items.specs.Said.{count_said}
use Rattle.reading.specs.Associate.{sub_items_of, sub_items_at}
use Rattle.reading.specs.Private.Records.{part_at, sub_part}
use Rattle.reading.specs.declared.user.Part.{Part}

-- ---- whether there is an item of a type, by their number
none_there : (bs : List (List ℕ)) → length bs ≡ 0 → empty bs ≡ true
none_there [] e = refl
none_there (b ∷ bs) e = absurd (omega arith)

some_there : (bs : List (List ℕ)) → (length bs ≡ 0 → ⊥) → empty bs ≡ false
some_there [] e = absurd (e refl)
some_there (b ∷ bs) e = refl

module _ (t : ℕ) (u : List ℕ) (n : ℕ) (p : n ≡ length (bodies t (walk u))) where
  none : n ≡ 0 → empty (bodies t (walk u)) ≡ true
  none e = none_there (bodies t (walk u)) (sym p ∙ e)

  some : (n ≡ 0 → ⊥) → empty (bodies t (walk u)) ≡ false
  some e = some_there (bodies t (walk u)) (λ z. e (p ∙ z))

-- ---- `part_at`
module _ (t : ℕ) (u : List ℕ) (n from : ℕ) (p : n ≡ length (bodies t (walk u))) where
  pub at_none : n ≡ 0 → None ≡ part_at t from (walk u)
  unfolding part_at
  at_none e = rw (none t u n p e)

  pub at_is : (n ≡ 0 → ⊥) → (q : ℕ) (b : List ℕ) → q ≡ place t (walk u) → b ≡ first (bodies t (walk u)) → ◌≡◌ {A = Option Part} (Some (record { at = from + q; len = length b })) (part_at t from (walk u))
  unfolding part_at
  at_is e q b i j = rw (some t u n p e, i, j)

pub at_fits : (t : ℕ) (u : List ℕ) (from q : ℕ) → Fits w64 (from + length u) → q ≡ place t (walk u) → Fits w64 (from + q)
at_fits t u from q h i = let w = (stands t u).within in omega arith

pub ruleset at_laws = (at_none, at_is, at_fits)

-- ---- `count_in`
module _ (u : List ℕ) (n at : ℕ) (p : n ≡ length (bodies 0x53 (walk u))) where
  pub count_none : n ≡ 0 → 1 ≡ count_said at (walk u)
  unfolding count_said
  count_none e = rw (none 0x53 u n p e)

  pub count_is : (n ≡ 0 → ⊥) → (b : List ℕ) (r : ℕ) → b ≡ first (bodies 0x53 (walk u)) → r ≡ be16 b at → r ≡ count_said at (walk u)
  unfolding count_said
  count_is e b r i j = rw (some 0x53 u n p e) (j ∙ rw i)

pub ruleset count_laws = (count_none, count_is)

-- ---- s stands behind the fixed fields, u is the body of its 50H, and t the place of that
module _ (x s u : List ℕ) (t : ℕ) (b : s ≡ drop 74 x) (p : u ≡ first (bodies 0x50 (walk s))) (q : t ≡ place 0x50 (walk s)) where
  pub part_is : (y : ℕ) → part_at y (74 + t) (walk u) ≡ sub_part y x
  unfolding sub_items_at sub_items_of
  part_is y = rw (p, q, b)

  pub said_is : (i : ℕ) → count_said i (walk u) ≡ count_said i (sub_items_of x)
  unfolding sub_items_of
  said_is i = rw (p, b)

  -- it lies within the PDU
  pub user_within : 74 ≤ length x → 74 + t + length u ≤ length x
  user_within h =
      let l : length s ≡ length x - 74 = ap length b ∙ length-drop 74 x in
      let w = (stands 0x50 s).within in
      let z = ap length p in
      omega arith

pub ruleset user_laws = (part_is, said_is, user_within)
