-- 6's test of L where the header isn't there yet.
-- Assumes nothing.
use Prim.Native.Nat.{ℕ, ◌<◌}
use mathlib.Core.Path.{◌≡◌}
use mathlib.Core.Bool.{false}
use mathlib.Core.List.{List}
use borrow.Author.Tests.{lt-leb}
use Rattle.association.specs.Record.{bad_length}

module _ (c : ℕ) (g : List ℕ) where
  pub few_gathered : c < 6 → false ≡ bad_length c g
  unfolding bad_length
  few_gathered h = rw (lt-leb 6 c h)
