-- The three numbers that the title check hands out determine which case its answer is: at a place, none, or refused.
-- Assumes nothing.
use Prim.Native.Nat.{ℕ}
use mathlib.Core.Path.{◌≡◌, refl, ap}
use native.Mathlib.Omega.{arith}
use Rattle.titles.specs.Own.{Place, Place.At, Place.None, Place.Refused, refusal, known_as, place_as}

pub same_place : (a b : Place) → refusal a ≡ refusal b → known_as a ≡ known_as b → place_as a ≡ place_as b → a ≡ b
same_place (At j) (At k) p q e = ap At e
same_place (At j) None p q e = absurd (omega (arith, q))
same_place (At j) Refused p q e = absurd (omega (arith, p))
same_place None (At k) p q e = absurd (omega (arith, q))
same_place None None p q e = refl
same_place None Refused p q e = absurd (omega (arith, p))
same_place Refused (At k) p q e = absurd (omega (arith, p))
same_place Refused None p q e = absurd (omega (arith, p))
same_place Refused Refused p q e = refl
