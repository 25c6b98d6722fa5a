-- The window on a piece of the input.
use Rattle.std.specs.Prelude.{List, ℕ, ◌-◌, take, drop}
use Rattle.listen.specs.declared.window.Window.{Window}

-- what was read and is not used yet: the piece's bytes from `at` to `end`
abbrev pub rest_of : Window → List ℕ
rest_of w = take (w.end - w.at) (drop w.at w.piece)
