-- What an RJ and an ABORT may say.
use Rattle.std.specs.Prelude.{ℕ, Bool, ◌&&◌, ◌||◌, cond, List, [], ◌∷◌, eqb}
use Rattle.laws.specs.Lists.{among}

-- "source/reason pairs 1: 1, 2, 3, 7; 2: 1, 2; 3: 1, 2"
unfoldable pub reject_reasons : ℕ → List ℕ
reject_reasons source =
    cond (eqb source 1) (1 ∷ 2 ∷ 3 ∷ 7 ∷ [])
    (cond (eqb source 2) (1 ∷ 2 ∷ [])
    (cond (eqb source 3) (1 ∷ 2 ∷ [])
    []))

-- "result 1 or 2"
unfoldable pub reject_ok : ℕ → ℕ → ℕ → Bool
reject_ok result source reason = among result (1 ∷ 2 ∷ []) && among reason (reject_reasons source)

-- "source 0 (reason not tested) or 2 with reason 0, 1, 2, 4, 5, 6"
unfoldable pub abort_ok : ℕ → ℕ → Bool
abort_ok source reason = eqb source 0 || (eqb source 2 && among reason (0 ∷ 1 ∷ 2 ∷ 4 ∷ 5 ∷ 6 ∷ []))
