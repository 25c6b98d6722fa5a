-- A chain of alternatives, one step: what `search` follows where a definition is built by `||` and the code returns at the first that holds.
-- Assumes nothing.
use mathlib.Core.Path.{◌≡◌}
use mathlib.Core.Bool.{Bool, true, false, ◌||◌}
use Rattle.laws.proofs.Tests.{decide}

pub or_here : (x y : Bool) → x ≡ true → true ≡ (x || y)
or_here x y t = rw t

pub or_next : (r x y : Bool) → x ≡ false → r ≡ y → r ≡ (x || y)
or_next r x y t q = rw t q

pub or_last : (r x : Bool) → r ≡ x → r ≡ (x || false)
or_last r true q = q
or_last r false q = q

pub ruleset either = (decide, or_here, or_next, or_last)
