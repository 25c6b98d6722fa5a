-- The fresh association in bytes.
-- Assumes nothing.
use Prim.Native.Nat.{ℕ}
use mathlib.Core.Path.{◌≡◌}
use mathlib.Core.List.{List}
use borrow.Author.Rules.{rules}
use Rattle.association.specs.declared.Assoc.{Assoc}
use Rattle.assoc_bytes.specs.Bytes.{bytes_of}

pub fresh_stored : (a b : Assoc) (s : List ℕ) → a ≡ b → s ≡ bytes_of a → s ≡ bytes_of b
fresh_stored a b s p q = rw (← p) q

pub ruleset freshly = (fresh_stored, rules)
