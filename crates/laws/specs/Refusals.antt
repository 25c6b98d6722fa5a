-- Refusals as document 01 lists them: tests with their numbers, "tested in this order".
use Rattle.std.specs.Prelude.{ℕ, Bool, cond, List, [], ◌∷◌}

-- the number of the first test that holds, 0 where none does
abbrev pub first_due : List (Bool × ℕ) → ℕ
first_due [] = 0
first_due (t ∷ ts) = cond t.0 t.1 (first_due ts)
