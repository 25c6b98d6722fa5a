-- "Local events use the gather buffer only for the test of L." For any engine.
use Rattle.std.specs.Prelude.{ℕ, ◌≡◌, List}
use Rattle.association.specs.declared.Assoc.{Assoc}
use Rattle.association.specs.Events.{Local}
use Rattle.association.specs.Calls.{call}
use Rattle.demand_2.specs.Cells.{Engine}

-- two gather buffers, g and h, at which the refusal is the same: the answer and the output are the same, and the buffer is left as it was
abbrev pub GatherOnlyTested : Engine → Type 0
GatherOnlyTested x =
    (a : Assoc) (g h o : List ℕ) (e : Local) → (x.local a g o e).answer.told.refusal ≡ (x.local a h o e).answer.told.refusal
    → x.local a h o e ≡ call (x.local a g o e).answer h (x.local a g o e).out
