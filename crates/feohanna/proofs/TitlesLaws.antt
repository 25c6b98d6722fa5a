-- The three numbers of each answer of the title check.
-- Assumes nothing.
use Prim.Native.Nat.{ℕ}
use mathlib.Core.Path.{◌≡◌, refl}
use mathlib.Core.List.{List}
use borrow.Author.Rules.{rules}
use native.Mathlib.Omega.{arith}
use mir.Syntax.{w8}
use mir.Val.{Fits}
use Rattle.std.specs.Prelude.{Option, None, Some, Result, Ok, Err}
use Rattle.numbers.specs.declared.refusals.Refusal.{Refusal}
use Rattle.numbers.specs.Refusals.{refusal_number, refusal_in}
use Rattle.titles.specs.Own.{Place.At, Checked}
use Rattle.titles.specs.Answer.{known_in, place_in}
use Rattle.titles.proofs.Meaning.{place_tells}

module _ (own sought : List ℕ) (a : Result (Option ℕ) Refusal) (c : Checked own sought (refusal_in a) (known_in a) (place_in a)) where
  pub told_at : (k : ℕ) → a ≡ Ok (Some k) → Checked own sought 0 1 k
  told_at k q = rw q at c

  pub told_none : a ≡ Ok None → Checked own sought 0 0 0
  told_none q = rw q at c

  pub told_refused : (e : Refusal) (n : ℕ) → a ≡ Err e → n ≡ refusal_number e → Checked own sought n 0 0
  told_refused e n q m = rw m (rw q at c)

  -- a place is below 8, and so fits a byte
  pub place_fits : (k : ℕ) → a ≡ Ok (Some k) → Fits w8 k
  place_fits k q = let l = (place_tells own sought (At k) (told_at k q)).low k refl in omega (arith, l)

pub ruleset telling = (told_at, told_none, told_refused, place_fits, rules)
