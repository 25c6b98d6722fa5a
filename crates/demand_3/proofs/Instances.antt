-- Demand 3 for what is built around the machine: a second engine, a log whose room can run out, one association among several, and each end of a line.
-- Assumes nothing.
use Prim.Native.Nat.{ℕ, ◌+◌, ◌<◌}
use mathlib.Core.Path.{◌≡◌, ap, ◌∙◌}
use mathlib.Core.Bool.{Bool, true}
use mathlib.Core.List.{List}
use lib.ListN.{length}
use Rattle.framing.specs.Runs.{Ran}
use Rattle.framing.specs.Host as host
use Rattle.framing.specs.Host.{Entry, One, Item, Calls}
use Rattle.framing.specs.Reference as ref
use Rattle.framing.specs.Log as log
use Rattle.framing.specs.Slots.{given_to, slots, at_slot}
use Rattle.framing.specs.Line as line
use Rattle.framing.specs.Line.{Side, Line, Move}
use Rattle.framing.proofs.Second.{Answers, ran_by, same_scripts}
use Rattle.framing.proofs.Log.{all_logged}
use Rattle.framing.proofs.Slots.{alone}
use Rattle.framing.proofs.Line.{at_end, each_end}
use Rattle.framing.proofs.Instances.{second_cuts}
use Rattle.association.specs.Events.{Local}
use Rattle.association.specs.Machine.{Seen, upper}
use Rattle.demand_2.proofs.Kept.{upper_laws}
use Rattle.demand_3.specs.Calls.{Lent, machine, seen_of, box_of, boxed}
use Rattle.demand_3.proofs.Same.{engine, At, same_calls}
use Rattle.demand_3.proofs.Every.{advances}

-- from wherever it is ready, as it is from a fresh association on
pub from_ready : (is : List (Item One Local)) (s : Lent) → At s → boxed (host.script machine is s) ≡ ref.reference upper is (box_of s)
from_ready is s r = (second_cuts upper upper_laws machine engine same_calls is s r).same

-- calls that answer as the machine's do wherever it is ready, their state seen through `of`
pub second_engine : (Y : Calls One Local (Entry Seen)) (of : Y.S → Lent) → Answers machine At Y of
    → (is : List (Item One Local)) (z : Y.S) → At (of z) → boxed (ran_by of (host.script Y is z)) ≡ ref.reference upper is (box_of (of z))
second_engine Y of ans is z r = ap boxed (same_scripts machine At (advances (λ m. seen_of m.call)) Y of ans is z r) ∙ from_ready is (of z) r

-- a log beside it, with room for one record more than are made: the same trace and end, and a record for each action
pub with_log : {L : Type 0} (note : Entry Seen → L) (room : ℕ) (is : List (Item One Local)) (s : Lent) (kept : List L) → At s
    → length kept + length (ref.reference upper is (box_of s)).trace < room
    → host.script (log.logged machine note room) is (record { own = s; log = kept })
    ≡ record {
      trace = (ref.reference upper is (box_of s)).trace;
      end = log.noting machine note room (host.script machine is s).end kept (ref.reference upper is (box_of s)).trace;
    }
with_log note room is s kept r h =
    let q : (host.script machine is s).trace ≡ (ref.reference upper is (box_of s)).trace = ap (λ (x : Ran (Entry Seen) (ref.Box upper)). x.trace) (from_ready is s r) in
    all_logged machine note room is s kept (rw q h) ∙ rw q

-- one of several associations, each on its channel, sees only what is given to it
pub each_slot : {C : Type 0} (same : C → C → Bool) → ((c : C) → same c c ≡ true) → ((c d : C) → same c d ≡ true → c ≡ d)
    → (k : C) (is : List (Item C Local)) (f : C → Lent) → At (f k)
    → boxed (at_slot same machine k (host.script (slots same machine) is f)) ≡ ref.reference upper (given_to same k is) (box_of (f k))
each_slot same self apart k is f r = ap boxed (alone same self apart machine k is f) ∙ from_ready (given_to same k is) (f k) r

-- each end of a line
pub each_side : (k : Side) (ms : List (Move machine (λ x. x.sent))) (w : Line machine (λ x. x.sent)) → At (w.ends k)
    → boxed (at_end machine (λ x. x.sent) k (line.talk machine (λ x. x.sent) ms w))
    ≡ ref.reference upper (line.given_at machine (λ x. x.sent) k ms w) (box_of (w.ends k))
each_side k ms w r =
    ap boxed (each_end machine (λ x. x.sent) k ms w) ∙ from_ready (line.given_at machine (λ x. x.sent) k ms w) (w.ends k) r
