-- Cut independence for a second engine, as is one that also refuses.
-- Assumes nothing.
use mathlib.Core.List.{List}
use Rattle.framing.specs.Runs.{Ran}
use Rattle.framing.specs.Host as host
use Rattle.framing.specs.Host.{Entry, One, Item, Calls, HostedScript}
use Rattle.framing.specs.Reference as ref
use Rattle.framing.specs.Reference.{Machine}
use Rattle.framing.specs.Engine as eng
use Rattle.framing.specs.Engine.{EngineState}
use Rattle.framing.proofs.Ready.{Laws, Ready}
use Rattle.framing.proofs.Call.{Done}
use Rattle.framing.proofs.Cuts.{hosts, advances, cuts}
use Rattle.framing.proofs.Second.{Answers, ran_by, same_scripts, same_hosts}

module _ (M : Machine) (L : Laws M) where
  open M use {R, E, A, limit}

  -- ---- calls that answer as the engine's do wherever it is ready, their state seen through `of`
  module _ (Y : Calls One E (Entry A)) (of : Y.S → EngineState M) (ans : Answers (eng.engine_calls M) (Ready M L) Y of) where
    pub second_cuts : (is : List (Item One E)) (z : Y.S) → Ready M L (of z) → Done M L (ran_by of (host.script Y is z)) (ref.reference M is (eng.engine_box M (of z)))
    second_cuts is z ok = rw (same_scripts (eng.engine_calls M) (Ready M L) (advances M L) Y of ans is z ok) (cuts M L is (of z) ok)

    pub second_hosts : {is : List (Item One E)} {z : Y.S} {y : Ran (Entry A) Y.S} → Ready M L (of z) → HostedScript Y z is y
        → Done M L (ran_by of y) (ref.reference M is (eng.engine_box M (of z)))
    second_hosts ok w = hosts M L ok (same_hosts (eng.engine_calls M) (Ready M L) (advances M L) Y of ans ok w)
