-- At every moment each end did what its engine does with the items given to it.
-- Assumes nothing.
use Prim.Native.Nat.{ℕ}
use mathlib.Core.Path.{◌≡◌, refl}
use mathlib.Core.Bool.{true}
use mathlib.Core.List.{List, [], ◌++◌}
use native.Mathlib.Omega.{arith}
use Rattle.framing.specs.Runs.{Ran, runs}
use Rattle.framing.specs.Host as host
use Rattle.framing.specs.Host.{Calls, One}
use Rattle.framing.specs.Slots.{At, own_of}
use Rattle.framing.specs.Line as line
use Rattle.framing.specs.Line.{Side, Side.left, Side.right, same_side, Line, Move}
use Rattle.framing.proofs.Sim.{View, Same, simulates}
use Rattle.framing.proofs.Slots.{seen_at, from, held}

side_self : (k : Side) → same_side k k ≡ true
side_self left = refl
side_self right = refl

side_is : (k d : Side) → same_side k d ≡ true → k ≡ d
side_is left left e = refl
side_is left right e = let z : ◌≡◌ {A = ℕ} 0 1 = cc in absurd (omega arith)
side_is right left e = let z : ◌≡◌ {A = ℕ} 0 1 = cc in absurd (omega arith)
side_is right right e = refl

module _ {E T : Type 0} (D : Calls One E T) (bytes : T → List ℕ) where
  -- ---- each end by itself

  abbrev Stands : Side → List T → Line D bytes → D.S → Type 0
  Stands k rest w z = w.ends k ≡ z

  abbrev look : Side → View (At Side T) T
  look k = seen_at same_side side_self side_is D k

  each : (k : Side) (m : Move D bytes) (w : Line D bytes) (z : D.S) (rest : List T)
      → Stands k ((runs (host.item D) (line.giving D bytes k m w) z).trace ++ rest) w z
      → Same (look k) (Stands k) rest (line.move D bytes m w) (runs (host.item D) (line.giving D bytes k m w) z)
  each k m w z rest r =
      let j = line.side_of D bytes m in
      let i = line.item_of D bytes m w in
      let y = line.move D bytes m w in
      let h = from same_side side_self side_is D k j i w.ends z (record { trace = y.trace; end = y.end.ends }) rest r
      (record { trace = refl; end = held same_side side_self side_is D j w.ends w.ends (host.item D i (w.ends j)).end (λ d e. refl) }) in
      record { trace = h.trace; end = h.end }

  abbrev pub at_end : Side → Ran (At Side T) (Line D bytes) → Ran T D.S
  at_end k x = record { trace = own_of same_side k x.trace; end = x.end.ends k }

  -- EACH END BY ITSELF
  pub each_end : (k : Side) (ms : List (Move D bytes)) (w : Line D bytes)
      → at_end k (line.talk D bytes ms w) ≡ host.script D (line.given_at D bytes k ms w) (w.ends k)
  each_end k ms w =
      let h = simulates (look k) (Stands k) (line.move D bytes) (host.item D) (line.giving D bytes k) (each k) ms w (w.ends k) [] refl in
      λ d. record { trace = h.trace d; end = h.end d }
