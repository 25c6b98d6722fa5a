-- Runs: steps taken one after the other, with all that is seen on the way and where they led.
use Rattle.std.specs.Prelude.{List, [], ◌∷◌, ◌++◌}

-- what was seen, in order, and the state at the end
pub record Ran (T S : Type 0) : Type 0 where
  pub trace : List T
  pub end : S

abbrev pub stop : {T S : Type 0} → S → Ran T S
stop s = record { trace = []; end = s }

abbrev pub following : {T S : Type 0} → List T → Ran T S → Ran T S
following l x = record { trace = l ++ x.trace; end = x.end }

-- the steps of a list, each from where the one before it led
unfoldable pub runs : {I T S : Type 0} → (I → S → Ran T S) → List I → S → Ran T S
runs step [] s = stop s
runs step (i ∷ is) s = let x = step i s in following x.trace (runs step is x.end)

-- what the steps of a list give to a part of the whole, each by where it is taken
unfoldable pub givens : {I J T S : Type 0} → (I → S → Ran T S) → (I → S → List J) → List I → S → List J
givens step given [] s = []
givens step given (i ∷ is) s = given i s ++ givens step given is (step i s).end
