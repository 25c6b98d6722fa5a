-- DEMAND 3, for the machine of Table 9-10. However each run of bytes is cut, and whatever host gives it, the trace and the end are the reference's, which frames
-- each run at once and leaves refused events out.
-- Assumes nothing.
use Prim.Native.Nat.{ℕ, ◌≤◌}
use mathlib.Core.Path.{◌≡◌, refl, sym, ap, ◌∙◌}
use mathlib.Core.List.{List, map}
use lib.ListN.{length, take}
use lib.Seq.{length-take-le}
use Rattle.framing.specs.Runs.{Ran}
use Rattle.framing.specs.Host as host
use Rattle.framing.specs.Host.{Entry, One, Item, HostedScript}
use Rattle.framing.specs.Reference as ref
use Rattle.framing.proofs.Call.{Done}
use Rattle.framing.proofs.Instances.{second_cuts, second_hosts}
use Rattle.association.specs.Record.{standing, with_gathered, idle}
use Rattle.association.specs.Events.{Local}
use Rattle.association.specs.Machine.{Seen, upper}
use Rattle.demand_2.proofs.Unbroken.{fine_idle}
use Rattle.demand_2.proofs.Kept.{upper_laws}
use Rattle.demand_2.proofs.Ready.{ready_of}
use Rattle.demand_3.specs.Calls.{Lent, fresh, machine, box_of, fresh_box, boxed, wanted, Demand3}
use Rattle.demand_3.proofs.Same.{engine, At, same_calls}

-- a fresh association, with two buffers of 16,390 bytes or more
pub at_fresh : (g o : List ℕ) → 16390 ≤ length g → 16390 ≤ length o → At (fresh g o)
at_fresh g o hg ho = ready_of idle g o (fine_idle g 16390 hg) ho

pub start : (g o : List ℕ) → box_of (fresh g o) ≡ fresh_box
unfolding idle
start g o = refl

-- ---- the host that cuts

done : (g o : List ℕ) → 16390 ≤ length g → 16390 ≤ length o → (is : List (Item One Local))
    → Done upper upper_laws (record { trace = (host.script machine is (fresh g o)).trace; end = engine (host.script machine is (fresh g o)).end }) (wanted is)
done g o hg ho is = rw (start g o) at (second_cuts upper upper_laws machine engine same_calls is (fresh g o) (at_fresh g o hg ho))

-- EVERY SCRIPT, EVERY CUT
pub demand_3 : (g o : List ℕ) → 16390 ≤ length g → 16390 ≤ length o → Demand3 machine (fresh g o) box_of
demand_3 g o hg ho is = (done g o hg ho is).same

-- ---- any host

module _ (is : List (Item One Local)) (g o : List ℕ) (hg : 16390 ≤ length g) (ho : 16390 ≤ length o) {y : Ran (Entry Seen) Lent} (w : HostedScript machine (fresh g o) is y) where
  hosted : Done upper upper_laws (record { trace = y.trace; end = engine y.end }) (wanted is)
  hosted = rw (start g o) at (second_hosts upper upper_laws machine engine same_calls (at_fresh g o hg ho) w)

  -- EVERY SCRIPT, EVERY HOST that gives each run's bytes in order, in any pieces, and all of them before the next item
  pub any_host : boxed y ≡ wanted is
  any_host = hosted.same

  -- what holds between calls holds at the end
  pub reached : At y.end
  reached = hosted.ready

  -- the record that it leads to is the reference's, with the count of the bytes gathered
  pub end_record : y.end.assoc ≡ with_gathered (wanted is).end.state (length (wanted is).end.got)
  end_record =
      let e : box_of y.end ≡ (wanted is).end = ap (λ (x : Ran (Entry Seen) (ref.Box upper)). x.end) any_host in
      let n : length (take y.end.assoc.gathered y.end.gather) ≡ y.end.assoc.gathered = length-take-le y.end.assoc.gathered y.end.gather reached.within in
      ap (with_gathered (standing y.end.assoc)) (sym n) ∙ ap (λ (b : ref.Box upper). with_gathered b.state (length b.got)) e

  -- whatever is read from what is seen, by any reading call, is the same on both
  pub readers_alike : {X : Type 0} (read : Entry Seen → X) → map read y.trace ≡ map read (wanted is).trace
  readers_alike read = ap (λ (x : Ran (Entry Seen) (ref.Box upper)). map read x.trace) any_host
