-- What a good title has.
-- Assumes nothing.
use mathlib.Core.Path.{◌≡◌}
use mathlib.Core.Bool.{true, ◌&&◌}
use mathlib.Core.List.{List}
use Prim.Native.Nat.{ℕ}
use lib.Dec.{eqb}
use lib.ListN.{length}
use borrow.Author.Tests.{eqb-true}
use Rattle.laws.specs.Lists.{all}
use Rattle.titles.specs.Title.{title_byte, title_ok}
use Rattle.laws.proofs.Booleans.{left_of}

-- sixteen bytes
pub title_sixteen : (t : List ℕ) → title_ok t ≡ true → length t ≡ 16
unfolding title_ok
title_sixteen t e = eqb-true (length t) 16 (left_of (eqb (length t) 16) (all title_byte t) (left_of (eqb (length t) 16 && all title_byte t) _ e))
