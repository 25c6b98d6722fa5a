-- Where refusals 6, 3 and 2 do not come, the engine of framing is ready, and back: its record is not broken over the gather buffer, and both buffers have room.
-- Assumes nothing.
use Prim.Native.Nat.{ℕ, ◌≤◌}
use mathlib.Core.Path.{◌≡◌}
use mathlib.Core.List.{List}
use native.Mathlib.Omega.{arith}
use lib.ListN.{length, take}
use lib.Seq.{length-take-le}
use borrow.Author.Tests.{le-ltb}
use Rattle.framing.specs.Framing.{frame, Frame.short}
use Rattle.framing.specs.Engine as eng
use Rattle.framing.proofs.Framing.{no_event_fits}
use Rattle.framing.proofs.Ready.{Ready}
use Rattle.association.specs.declared.Assoc.{Assoc}
use Rattle.association.specs.Record.{with_gathered}
use Rattle.association.specs.Refusals.{record_refusal}
use Rattle.association.specs.Machine.{upper}
use Rattle.association.specs.Calls.{lent_of, receive_refusal}
use Rattle.association.proofs.OrderLaws.{receive_steps, receive_passed}
use Rattle.demand_2.proofs.Unbroken.{Fine, fine, not_refused, quiet_of, good_length}
use Rattle.demand_2.proofs.Kept.{upper_laws}

-- ---- when receiving
pub record Receives (a : Assoc) (g o : List ℕ) : Type 0 where
  pub fine_record : Fine a g 16390
  pub within : a.gathered ≤ length g
  pub quiet : frame 16384 (take a.gathered g) ≡ short
  pub out_room : 10 ≤ length o

receives_by : (a : Assoc) (g o : List ℕ) → Fine a g 16390 → 10 ≤ length o → Receives a g o
receives_by a g o F h =
    let w : a.gathered ≤ length g = omega (arith, F.whole.few, F.room) in
    record { fine_record = F; within = w; quiet = quiet_of a.gathered g w F.length_good; out_room = h }

pub receives_of : (a : Assoc) (g o : List ℕ) → receive_refusal a g o ≡ 0 → Receives a g o
receives_of a g o h = let p = receive_passed a g o h in receives_by a g o (fine a g 16390 p.0) p.1

-- ---- what holds between calls from a fresh association on

abbrev pub ReadyAt : Assoc → List ℕ → List ℕ → Type 0
ReadyAt a g o = Ready upper upper_laws (lent_of a g o)

pub ready_of : (a : Assoc) (g o : List ℕ) → Fine a g 16390 → 16390 ≤ length o → ReadyAt a g o
ready_of a g o F ho =
    let v = receives_by a g o F (omega arith) in
    record {
      sound = F.whole.sound;
      room = F.room;
      within = v.within;
      quiet = v.quiet;
      dropped = F.whole.dropped;
      output = ho;
    }

-- a state of the engine, as a record with its count
pub fine_lent : (x : eng.EngineState upper) → Ready upper upper_laws x → Fine (with_gathered x.state x.count) x.gather 16390
fine_lent x r =
    let n : length (take x.count x.gather) ≡ x.count = length-take-le x.count x.gather r.within in
    record {
      whole = record { sound = r.sound; few = omega (arith, n, no_event_fits 16384 (take x.count x.gather) r.quiet); dropped = r.dropped };
      room = r.room;
      length_good = good_length x.count x.gather r.within r.quiet;
    }

pub fine_ready : (a : Assoc) (g o : List ℕ) → ReadyAt a g o → Fine a g 16390
fine_ready a g o r = fine_lent (lent_of a g o) r

-- at a local event the gather buffer need only hold what is gathered
pub fine_given : (a : Assoc) (g : List ℕ) → Fine a g 16390 → Fine a g a.gathered
fine_given a g F = record { whole = F.whole; room = omega (arith, F.whole.few, F.room); length_good = F.length_good }

-- refusals 6, 3 and 2 do not come
pub receive_answered : (a : Assoc) (g o : List ℕ) → ReadyAt a g o → receive_refusal a g o ≡ 0
receive_answered a g o r =
    let z : record_refusal a g 16390 ≡ 0 = not_refused a g 16390 (fine_ready a g o r) in
    rw (receive_steps a g o, z, le-ltb (length o) 10 (omega (arith, r.output)))
