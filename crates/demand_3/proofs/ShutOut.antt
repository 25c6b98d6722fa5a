-- The engines of ShutOut do not meet demand 3: none of the two classes does, whatever it keeps in its state and whatever is taken for where it stands; nor does the
-- machine when it reports k bytes more than it used, for any k but 0.
-- Assumes nothing.
use Prim.Native.Nat.{ℕ, ◌≤◌}
use mathlib.Core.Path.{◌≡◌, refl, sym, ap, ◌∙◌}
use mathlib.Core.Bool.{Bool, true, false, cond}
use mathlib.Core.List.{List, [], ◌∷◌, ◌++◌}
use native.Mathlib.Omega.{arith}
use lib.Dec.{eqb}
use lib.ListN.{length}
use Rattle.laws.specs.Lists.{joined}
use Rattle.octets.specs.Octets.{be16, be32}
use Rattle.octets.specs.Put.{put, front}
use Rattle.framing.specs.Runs.{Ran, runs, following}
use Rattle.framing.specs.Framing.{length_field, frame, Frame, Brought.pdu}
use Rattle.framing.specs.Host as host
use Rattle.framing.specs.Host.{Entry, Item, One, Calls, Heard, one, event, run}
use Rattle.framing.specs.Reference as ref
use Rattle.framing.specs.Reference.{Reaction}
use Rattle.framing.specs.Engine as eng
use Rattle.framing.specs.ShutOut as out
use Rattle.framing.specs.ShutOut.{SeesOnePdu, SeesOnePiece}
use Rattle.framing.proofs.Runs.{runs_one}
use Rattle.framing.proofs.Reference.{framed_step, framed_dropped, framed_short}
use Rattle.framing.proofs.Second.{heard_by}
use Rattle.framing.proofs.ShutOut.{one_pdu_more, one_piece_more, first_pdu_sees, first_piece_sees, reported_behind}
use Rattle.reasons.specs.Values.{abort_ok}
use Rattle.judging.specs.Pdu.{whole, release_ok, abort_pdu_ok, valid_as, kind_of}
use Rattle.writing.specs.Ten.{tens, ten_of}
use Rattle.table.specs.ActionNames.{AE-5, AA-1, AA-2}
use Rattle.table.specs.EventNames.{RELEASE-RQ-RECEIVED, ABORT-RECEIVED}
use Rattle.table.proofs.Unfolded.{table_unfolded}
use Rattle.association.specs.Record.{Standing, standing, with_gathered, moved, idle, dropping}
use Rattle.association.specs.Events.{Local, event_of_kind, event_of, carries, transport_indication}
use Rattle.association.specs.Performing.{brings_nothing, accepts_at, peer_at, requestor_after, entering, after as left, ten_by}
use Rattle.association.specs.Machine.{Seen, upper, doing, on_event, local_cell, local_action, plain_form, form_at, request_refusal, on_local}
use Rattle.association.specs.Calls.{Call}
use Rattle.demand_3.specs.Calls.{Lent, fresh, machine, entry_of, seen_of, box_of, fresh_box, boxed_by, wanted, Demand3}
use Rattle.demand_3.specs.ShutOut.{machine_first_pdu, machine_first_piece, machine_over_reporting}
use Rattle.demand_3.proofs.Same.{engine, At, hears, does}
use Rattle.demand_3.proofs.Demand.{at_fresh, demand_3}
use Rattle.demand_3.proofs.Every.{at_given}

-- ---- the scripts, and what is wanted of them

-- a RELEASE-RQ, an ABORT, and a RELEASE-RQ with a byte behind it
abbrev release_rq : List ℕ
release_rq = 5 ∷ 0 ∷ 0 ∷ 0 ∷ 0 ∷ 4 ∷ 0 ∷ 0 ∷ 0 ∷ 0 ∷ []

abbrev abort : List ℕ
abort = 7 ∷ 0 ∷ 0 ∷ 0 ∷ 0 ∷ 4 ∷ 0 ∷ 0 ∷ 0 ∷ 0 ∷ []

abbrev one_more : List ℕ
one_more = release_rq ++ 7 ∷ []

-- transport indication, and a run behind it
abbrev opening : List (Item One Local)
opening = event one transport_indication ∷ []

abbrev script : List (List ℕ) → List (Item One Local)
script pieces = opening ++ run one pieces ∷ []

abbrev saw : ℕ → ℕ → List ℕ → Entry Seen
saw action state sent = record { told = record { action = action; state = state }; shown = []; sent = sent }

-- a fresh association that was moved to a state in which the timer runs
abbrev timing : ℕ → Standing
timing state = moved state true false (brings_nothing (standing idle))

-- the engine of framing in Sta2
abbrev open_2 : List ℕ → List ℕ → eng.EngineState upper
open_2 g o = record { state = timing 2; count = 0; gather = g; out = o }

-- an action that shows nothing
abbrev acted : ℕ → Standing → List ℕ → Reaction Standing Seen
acted action s sent = record { next = s; told = record { action = action; state = s.state }; sends = sent; shows = false }

-- ---- computed: what is asked at transport indication; the two PDUs' events; the three actions, and what leads to them; where bytes are dropped

record Asked : Type 0 where
  free : request_refusal (standing idle) transport_indication 16390 ≡ 0
  action : local_action (standing idle) transport_indication ≡ AE-5
  sent : (form_at (standing idle) transport_indication).pdu ≡ []

asked : Asked
unfolding table_unfolded idle request_refusal local_cell plain_form carries ten_by ten_of tens
asked = record { free = refl; action = refl; sent = refl }

record Events : Type 0 where
  release : (s : Standing) → event_of s release_rq ≡ RELEASE-RQ-RECEIVED
  aborts : (s : Standing) → event_of s abort ≡ ABORT-RECEIVED

events : Events
unfolding event_of event_of_kind kind_of whole valid_as release_ok abort_pdu_ok abort_ok be32 be16
events = record { release = λ s. refl; aborts = λ s. refl }

record Acts : Type 0 where
  AE-5-acts : doing AE-5 (standing idle) (brings_nothing (standing idle)) [] ≡ acted AE-5 (timing 2) []
  AA-1-acts : doing AA-1 (timing 2) (brings_nothing (timing 2)) abort ≡ acted AA-1 (timing 13) abort
  AA-2-acts : doing AA-2 (timing 13) (brings_nothing (timing 13)) [] ≡ acted AA-2 (standing idle) []

acts : Acts
unfolding table_unfolded idle doing left entering requestor_after
acts = record { AE-5-acts = refl; AA-1-acts = refl; AA-2-acts = refl }

record Leads : Type 0 where
  releases : on_event RELEASE-RQ-RECEIVED (timing 2) (pdu release_rq) ≡ doing AA-1 (timing 2) (brings_nothing (timing 2)) abort
  aborts : on_event ABORT-RECEIVED (timing 13) (pdu abort) ≡ doing AA-2 (timing 13) (brings_nothing (timing 13)) []

leads : Leads
unfolding table_unfolded idle on_event accepts_at peer_at ten_by ten_of tens
leads = record { releases = refl; aborts = refl }

opens : on_local (standing idle) transport_indication ≡ acted AE-5 (timing 2) []
unfolding on_local
opens = rw (asked.sent, asked.action) acts.AE-5-acts

releases : on_event RELEASE-RQ-RECEIVED (timing 2) (pdu release_rq) ≡ acted AA-1 (timing 13) abort
releases = leads.releases ∙ acts.AA-1-acts

aborts : on_event ABORT-RECEIVED (timing 13) (pdu abort) ≡ acted AA-2 (standing idle) []
aborts = leads.aborts ∙ acts.AA-2-acts

record Hearing : Type 0 where
  in_2 : dropping (timing 2) ≡ false
  in_13 : dropping (timing 13) ≡ false
  in_1 : dropping (standing idle) ≡ true

hearing : Hearing
unfolding idle dropping
hearing = record { in_2 = refl; in_13 = refl; in_1 = refl }

-- ---- the reference, a step at a time

opened : ref.ref_item upper (event one transport_indication) fresh_box ≡ record { trace = saw AE-5 2 [] ∷ []; end = ref.box upper (timing 2) [] }
opened = rw (asked.free, opens, hearing.in_2)

wanted_run : (ps : List (List ℕ)) → wanted (script ps) ≡ following (saw AE-5 2 [] ∷ []) (ref.framed upper (timing 2) (joined ps))
unfolding runs
wanted_run ps =
    ap (λ (x : Ran (Entry Seen) (ref.Box upper)). following x.trace (runs (ref.ref_item upper) (run one ps ∷ []) x.end)) opened
    ∙ ap (following (saw AE-5 2 [] ∷ [])) (runs_one (ref.ref_item upper) (run one ps) (ref.box upper (timing 2) []))

framed_release : (t : List ℕ) → frame 16384 (release_rq ++ t) ≡ Frame.whole 10
    → ref.framed upper (timing 2) (release_rq ++ t) ≡ following (saw AA-1 13 abort ∷ []) (ref.framed upper (timing 13) t)
framed_release t e = framed_step upper (timing 2) (release_rq ++ t) ∙ rw (hearing.in_2, e, events.release (timing 2), releases)

framed_abort : frame 16384 abort ≡ Frame.whole 10 → ref.framed upper (timing 13) abort ≡ following (saw AA-2 idle.state [] ∷ []) (ref.framed upper (standing idle) [])
framed_abort e = framed_step upper (timing 13) abort ∙ rw (hearing.in_13, e, events.aborts (timing 13), aborts)

-- ---- what is wanted
abbrev gives : List (Entry Seen) → Standing → List ℕ → Ran (Entry Seen) (ref.Box upper)
gives trace s got = record { trace = saw AE-5 2 [] ∷ trace; end = ref.box upper s got }

record Wants : Type 0 where
  opens : wanted opening ≡ gives [] (timing 2) []
  -- document 01's case 12, but for the closing: AE-5 2 0, AA-1 13 10, AA-2 1 0
  both : wanted (script ((release_rq ++ abort) ∷ [])) ≡ gives (saw AA-1 13 abort ∷ saw AA-2 idle.state [] ∷ []) (standing idle) []
  -- the first piece of a RELEASE-RQ
  its_first : wanted (script ((5 ∷ 0 ∷ 0 ∷ []) ∷ [])) ≡ gives [] (timing 2) (5 ∷ 0 ∷ 0 ∷ [])
  -- a RELEASE-RQ; the byte behind it is gathered, and brings nothing
  whole : wanted (script (release_rq ∷ [])) ≡ gives (saw AA-1 13 abort ∷ []) (timing 13) []
  more : wanted (script (one_more ∷ [])) ≡ gives (saw AA-1 13 abort ∷ []) (timing 13) (7 ∷ [])

wants : Wants
unfolding runs frame length_field be32 be16
wants =
    record {
      opens = runs_one (ref.ref_item upper) (event one transport_indication) fresh_box ∙ opened;
      both = wanted_run ((release_rq ++ abort) ∷ []) ∙ rw (framed_release abort refl, framed_abort refl, framed_dropped upper (standing idle) [] hearing.in_1);
      its_first = wanted_run ((5 ∷ 0 ∷ 0 ∷ []) ∷ []) ∙ rw (framed_short upper (timing 2) (5 ∷ 0 ∷ 0 ∷ []) refl, hearing.in_2);
      whole = wanted_run (release_rq ∷ []) ∙ rw (framed_release [] refl, framed_short upper (timing 13) [] refl, hearing.in_13);
      more = wanted_run (one_more ∷ []) ∙ rw (framed_release (7 ∷ []) refl, framed_short upper (timing 13) (7 ∷ []) refl, hearing.in_13);
    }

-- ---- what the engine of framing does
record Does (g o : List ℕ) : Type 0 where
  leads_to_2 : ((eng.engine_calls upper).on_event (engine (fresh g o)) one transport_indication).end ≡ open_2 g o
  sees : ((eng.engine_calls upper).receive (open_2 g o) one release_rq).seen ≡ saw AA-1 13 abort ∷ []
  uses : ((eng.engine_calls upper).receive (open_2 g o) one release_rq).used ≡ 10
  same : (eng.engine_calls upper).receive (open_2 g o) one one_more ≡ (eng.engine_calls upper).receive (open_2 g o) one release_rq

does_so : (g o : List ℕ) → Does g o
unfolding idle frame length_field be32 be16 eng.local eng.receive put front
does_so g o =
    record {
      leads_to_2 = rw (asked.free, opens, hearing.in_2);
      sees = rw (hearing.in_2, events.release, releases);
      uses = rw hearing.in_2;
      same = rw (hearing.in_2, events.release, releases);
    }

-- ---- THE TWO CLASSES

module _ (D : Calls One Local (Entry Seen)) (start : D.S) (stands : D.S → ref.Box upper) (d : Demand3 D start stands) where
  trace_of : (is : List (Item One Local)) {w : Ran (Entry Seen) (ref.Box upper)} → wanted is ≡ w → (host.script D is start).trace ≡ w.trace
  trace_of is e = ap (λ (x : Ran (Entry Seen) (ref.Box upper)). x.trace) (d is ∙ e)

  -- RELEASE-RQ and ABORT in one piece: two events more, and not one
  pub sees_one_pdu : SeesOnePdu D start → ⊥
  sees_one_pdu h =
      let l : length (host.script D opening start).trace ≡ 1 = ap length (trace_of opening wants.opens) in
      let m : length (host.script D (script ((release_rq ++ abort) ∷ [])) start).trace ≡ 3 = ap length (trace_of (script ((release_rq ++ abort) ∷ [])) wants.both) in
      omega (arith, l, m, one_pdu_more D start opening one h (release_rq ++ abort))

  -- RELEASE-RQ in two pieces: an event in the second
  pub sees_one_piece : SeesOnePiece D start → ⊥
  unfolding runs
  sees_one_piece h =
      let ps : List (List ℕ) = (0 ∷ 0 ∷ 4 ∷ 0 ∷ 0 ∷ 0 ∷ 0 ∷ []) ∷ [] in
      let l : length (host.script D (script ((5 ∷ 0 ∷ 0 ∷ []) ∷ [])) start).trace ≡ 1 = ap length (trace_of (script ((5 ∷ 0 ∷ 0 ∷ []) ∷ [])) wants.its_first) in
      let m : length (host.script D (script ((5 ∷ 0 ∷ 0 ∷ []) ∷ ps)) start).trace ≡ 2 = ap length (trace_of (script ((5 ∷ 0 ∷ 0 ∷ []) ∷ ps)) wants.whole) in
      omega (arith, l, m, ap length (one_piece_more D start opening one h 5 (0 ∷ 0 ∷ []) ps))

-- the paper's two engines are of them, and so the classes are not empty
few : (c : Call) → length (seen_of c) ≤ 1
unfolding seen_of
few c = by (eqb c.answer.told.action 0)
  where
    by : (b : Bool) → length (cond b [] (entry_of c ∷ [])) ≤ 1
    by true = omega arith
    by false = omega arith

pub first_pdu : (g o : List ℕ) (stands : out.MayStop machine → ref.Box upper) → Demand3 machine_first_pdu (out.working machine (fresh g o)) stands → ⊥
first_pdu g o stands d =
    sees_one_pdu machine_first_pdu (out.working machine (fresh g o)) stands d (first_pdu_sees machine (λ s c p. few _) (out.working machine (fresh g o)))

pub first_piece : (g o : List ℕ) (stands : out.MayStop machine → ref.Box upper) → Demand3 machine_first_piece (out.working machine (fresh g o)) stands → ⊥
first_piece g o stands d =
    sees_one_piece machine_first_piece (out.working machine (fresh g o)) stands d (first_piece_sees machine (out.working machine (fresh g o)))

-- ---- THE FAMILY

-- the state, from the engine's of framing
abbrev lent_by : eng.EngineState upper → Lent
lent_by l = record { assoc = with_gathered l.state l.count; gather = l.gather; out = l.out }

module _ (k : ℕ) (h : 1 ≤ k) (g o : List ℕ) (hg : 16390 ≤ length g) (ho : 16390 ≤ length o) where
  -- after transport indication
  abbrev s : Lent
  s = (machine.on_event (fresh g o) one transport_indication).end

  heard : (p : List ℕ) → heard_by engine (machine.receive s one p) ≡ (eng.engine_calls upper).receive (open_2 g o) one p
  heard p =
      let r : At s = at_given (fresh g o) (at_fresh g o hg ho) transport_indication in
      let e : engine s ≡ open_2 g o = ap (λ (x : Ran (Entry Seen) (eng.EngineState upper)). x.end) (does (fresh g o) one transport_indication (at_fresh g o hg ho)) ∙ (does_so g o).leads_to_2 in
      hears s one p r ∙ ap (λ (l : eng.EngineState upper). (eng.engine_calls upper).receive l one p) e

  -- with the byte behind it or not, one call does the same
  alike : machine.receive s one one_more ≡ machine.receive s one release_rq
  alike = ap (heard_by lent_by) (heard one_more ∙ ((does_so g o).same ∙ sym (heard release_rq)))

  ten : (machine.receive s one release_rq).used ≡ 10
  ten = ap (λ (x : Heard (Entry Seen) (eng.EngineState upper)). x.used) (heard release_rq) ∙ (does_so g o).uses

  abbrev ran : List (List ℕ) → Ran (Entry Seen) Lent
  ran ps = host.script (machine_over_reporting k) (script ps) (fresh g o)

  abbrev after_opening : Heard (Entry Seen) Lent → Ran (Entry Seen) Lent
  after_opening a = following (host.script (machine_over_reporting k) opening (fresh g o)).trace (record { trace = a.seen; end = a.next })

  -- all is reported used
  ran_more : ran (one_more ∷ []) ≡ after_opening (machine.receive s one release_rq)
  unfolding runs
  ran_more =
      let n : (machine.receive s one one_more).used ≡ 10 = ap (λ (x : Heard (Entry Seen) Lent). x.used) alike ∙ ten in
      reported_behind machine k one opening (fresh g o) 5 (0 ∷ 0 ∷ 0 ∷ 0 ∷ 4 ∷ 0 ∷ 0 ∷ 0 ∷ 0 ∷ 7 ∷ []) (omega (arith, n)) ∙ ap after_opening alike

  -- and the byte is lost
  lost : ran (one_more ∷ []) ≡ ran (release_rq ∷ [])
  unfolding runs
  lost = ran_more ∙ sym (reported_behind machine k one opening (fresh g o) 5 (0 ∷ 0 ∷ 0 ∷ 0 ∷ 4 ∷ 0 ∷ 0 ∷ 0 ∷ 0 ∷ []) (omega (arith, ten)))

  -- whatever is taken for where it stands
  pub over_reporting : (stands : Lent → ref.Box upper) → Demand3 (machine_over_reporting k) (fresh g o) stands → ⊥
  over_reporting stands d =
      let e : wanted (script (one_more ∷ [])) ≡ wanted (script (release_rq ∷ [])) = sym (d (script (one_more ∷ []))) ∙ (ap (boxed_by stands) lost ∙ d (script (release_rq ∷ []))) in
      let z : ◌≡◌ {A = ℕ} 1 0 = ap (λ (x : Ran (Entry Seen) (ref.Box upper)). length x.end.got) (sym wants.more ∙ (e ∙ wants.whole)) in
      omega arith

  -- the trace alone does not show it
  pub over_reporting_trace : (ran (one_more ∷ [])).trace ≡ (wanted (script (one_more ∷ []))).trace
  unfolding runs
  over_reporting_trace =
      let l : (host.script machine opening (fresh g o)).trace ≡ saw AE-5 2 [] ∷ [] = trace_of machine (fresh g o) box_of (demand_3 g o hg ho) opening wants.opens in
      let m : (machine.receive s one release_rq).seen ≡ saw AA-1 13 abort ∷ [] = ap (λ (x : Heard (Entry Seen) (eng.EngineState upper)). x.seen) (heard release_rq) ∙ (does_so g o).sees in
      ap (λ (x : Ran (Entry Seen) Lent). x.trace) ran_more ∙ (rw (l, m) (sym (ap (λ (x : Ran (Entry Seen) (ref.Box upper)). x.trace) wants.more)))
