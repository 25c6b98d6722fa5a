-- Two lists of steps, one behind the other.
-- Assumes nothing.
use mathlib.Core.Path.{◌≡◌, refl, ap, ◌∙◌}
use mathlib.Core.List.{List, [], ◌∷◌, ◌++◌, append_assoc, append-nil}
use Rattle.framing.specs.Runs.{Ran, following, runs}

module _ {I T S : Type 0} (step : I → S → Ran T S) where
  pub runs_append : (is js : List I) (s : S) → runs step (is ++ js) s ≡ following (runs step is s).trace (runs step js (runs step is s).end)
  unfolding runs
  runs_append [] js s = refl
  runs_append (i ∷ is) js s =
      let x = step i s in
      ap (following x.trace) (runs_append is js x.end)
      ∙ rw (append_assoc x.trace (runs step is x.end).trace (runs step js (runs step is x.end).end).trace)

  pub runs_one : (i : I) (s : S) → runs step (i ∷ []) s ≡ step i s
  unfolding runs
  runs_one i s = rw (append-nil (step i s).trace)
