-- Call by call, wherever it is ready, the machine answers as the engine of framing does: so refusals 6, 3 and 2 do not come, and what is refused with 1, 4 or 5 is
-- what the reference leaves out.
-- Assumes nothing.
use Prim.Native.Nat.{ℕ, ◌-◌, ◌<◌}
use mathlib.Core.Path.{◌≡◌, refl, sym, ap, ◌∙◌}
use mathlib.Core.Bool.{Bool, true, false, cond}
use mathlib.Core.Option.{none, some}
use mathlib.Core.List.{List, [], ◌++◌}
use native.Mathlib.Omega.{arith}
use lib.Dec.{eqb}
use lib.ListN.{length, take}
use borrow.Author.Tests.{ne_eqb, eqb-true, eqb-false}
use Rattle.octets.specs.Put.{front}
use Rattle.framing.specs.Runs.{Ran}
use Rattle.framing.specs.Framing.{Frame, frame, Frame.short, Frame.long, Frame.whole, Brought, Brought.pdu, Brought.over_length}
use Rattle.framing.specs.Host.{Entry, One, Heard}
use Rattle.framing.specs.Engine as eng
use Rattle.framing.proofs.Ready.{Ready}
use Rattle.framing.proofs.Second.{Answers, heard_by, ran_by}
use Rattle.table.specs.EventNames.{INVALID-RECEIVED}
use Rattle.table.specs.Table.{cell_of}
use Rattle.table.specs.Actions.{shows_of}
use Rattle.judging.specs.Pdu.{kind_of}
use Rattle.association.specs.declared.Assoc.{Assoc}
use Rattle.association.specs.Record.{Standing, standing, dropping}
use Rattle.association.specs.Refusals.{refused_with}
use Rattle.association.specs.Events.{Local, event_of}
use Rattle.association.specs.Performing.{leaving}
use Rattle.association.specs.Machine.{Seen, upper, local_action, doing, on_event, on_local, request_refusal}
use Rattle.association.specs.Calls.{Call, call, lent_of, heard, local_refusal, local_of}
use Rattle.association.proofs.OrderLaws.{local_steps}
use Rattle.demand_2.proofs.Unbroken.{Sound, Fine, not_refused}
use Rattle.demand_2.proofs.Sound.{brought_filled, long_filled}
use Rattle.demand_2.proofs.Given.{acts, request_roomy}
use Rattle.demand_2.proofs.Kept.{upper_laws}
use Rattle.demand_2.proofs.Ready.{fine_ready, fine_given, receive_answered}
use Rattle.demand_2.proofs.Moved.{local_left}
use Rattle.demand_2.proofs.Answered.{received, local_refused, local_done, done_local}
use Rattle.demand_3.specs.Calls.{Lent, leaves, seen_of, machine}

-- what is lent, as the engine of framing has it
abbrev pub engine : Lent → eng.EngineState upper
engine s = lent_of s.assoc s.gather s.out

-- what holds between calls
abbrev pub At : Lent → Type 0
At s = Ready upper upper_laws (engine s)

-- ---- receiving

-- an action is seen, with the state after it
event_seen : (u event : ℕ) (s : Standing) (v : Brought) (n k : ℕ) (l : eng.EngineState upper) → 0 < cell_of event s.state
    → eng.seen upper (eng.acts upper u (on_event event s v) n k l) ≡ seen_of (heard (eng.acts upper u (on_event event s v) n k l))
unfolding seen_of heard on_event doing
event_seen u event s v n k l h = sym (rw (ne_eqb (cell_of event s.state) 0 (λ z. omega arith)))

quiet_seen : (u : ℕ) (l : eng.EngineState upper) → eng.seen upper (eng.quiet upper u l) ≡ seen_of (heard (eng.quiet upper u l))
unfolding seen_of heard
quiet_seen u l = refl

seen_by : (l : eng.EngineState upper) (p : List ℕ) → Sound l.state → (b : Bool) → dropping l.state ≡ b → (f : Frame)
    → eng.seen upper (eng.receive_by upper b f l p) ≡ seen_of (heard (eng.receive_by upper b f l p))
unfolding event_of
seen_by l p S true e f = quiet_seen (length p) l
seen_by l p S false e short = quiet_seen _ _
seen_by l p S false e long = event_seen _ INVALID-RECEIVED l.state over_length 0 0 (eng.gathering upper l (take (6 - l.count) p)) (long_filled l.state S e)
seen_by l p S false e (whole n) =
    let k = eng.gathering upper l (take (n - l.count) p) in
    event_seen _ (event_of l.state (take n k.gather)) l.state (pdu (take n k.gather)) n 0 k (brought_filled l.state S e (kind_of (take n k.gather)))

seen_same : (l : eng.EngineState upper) (p : List ℕ) → Sound l.state → eng.seen upper (eng.receive upper l p) ≡ seen_of (heard (eng.receive upper l p))
unfolding eng.receive
seen_same l p S = seen_by l p S (dropping l.state) refl (frame 16384 (take l.count l.gather ++ p))

abbrev as_heard : Call → Heard (Entry Seen) (eng.EngineState upper)
as_heard x = record { used = x.answer.told.used; seen = seen_of x; next = engine (leaves x) }

heard_same : (x : eng.EngineAnswer upper) → eng.seen upper x ≡ seen_of (heard x) → as_heard (heard x) ≡ record { used = x.used; seen = eng.seen upper x; next = x.next }
unfolding heard
heard_same x e = λ i. record { used = x.used; seen = sym e i; next = x.next }

pub hears : (s : Lent) (c : One) (p : List ℕ) → At s → heard_by engine (machine.receive s c p) ≡ (eng.engine_calls upper).receive (engine s) c p
hears s c p r =
    ap as_heard (received s.assoc s.gather p s.out (receive_answered s.assoc s.gather s.out r))
    ∙ heard_same (eng.receive upper (engine s) p) (seen_same (engine s) p r.sound)

-- ---- local events

none_shown : (b : Bool) (l : List ℕ) → take (cond b 0 0) l ≡ []
none_shown true l = refl
none_shown false l = refl

abbrev as_ran : Call → Ran (Entry Seen) (eng.EngineState upper)
as_ran x = record { trace = seen_of x; end = engine (leaves x) }

module _ (s : Lent) (r : At s) (e : Local) where
  F : Fine s.assoc s.gather s.assoc.gathered
  F = fine_given s.assoc s.gather (fine_ready s.assoc s.gather s.out r)

  -- the refusal is the reference's
  pub refused_same : local_refusal s.assoc s.gather s.out e ≡ request_refusal (standing s.assoc) e 16390
  refused_same =
      rw (local_steps s.assoc s.gather s.out e, not_refused s.assoc s.gather s.assoc.gathered F)
      (request_roomy (standing s.assoc) e (length s.out) r.output)

  refused_ran : (n : ℕ) → as_ran (call (refused_with n s.assoc) s.gather s.out) ≡ record { trace = []; end = engine s }
  unfolding seen_of refused_with
  refused_ran n = refl

  -- what the engine does
  abbrev acted : eng.EngineAnswer upper
  acted = eng.engine_local upper (some (on_local (standing s.assoc) e)) (engine s)

  module _ (h : request_refusal (standing s.assoc) e 16390 ≡ 0) where
    done_end : engine (leaves (done_local s.assoc s.gather s.out e)) ≡ acted.next
    done_end = ap (λ (a : Assoc). lent_of a s.gather (front s.out (on_local (standing s.assoc) e).sends)) (sym (local_left s.assoc e 16390 F.whole h))

    done_trace : seen_of (done_local s.assoc s.gather s.out e) ≡ eng.seen upper acted
    unfolding seen_of on_local doing leaving
    done_trace =
        rw (ne_eqb (local_action (standing s.assoc) e) 0 (acts (standing s.assoc) e 16390 h), none_shown (shows_of (local_action (standing s.assoc) e) false) s.gather)

  does_by : (b : Bool) → eqb (request_refusal (standing s.assoc) e 16390) 0 ≡ b
      → as_ran (local_of s.assoc s.gather s.out e)
      ≡ (let a = eng.engine_local upper (cond b (some (on_local (standing s.assoc) e)) none) (engine s) in record { trace = eng.seen upper a; end = a.next })
  does_by true q =
      let z = eqb-true _ _ q in
      ap as_ran (local_done s.assoc s.gather s.out e (refused_same ∙ z)) ∙ (λ i. record { trace = done_trace z i; end = done_end z i })
  does_by false q =
      let n : local_refusal s.assoc s.gather s.out e ≡ 0 → ⊥ = λ z. eqb-false _ _ q (sym refused_same ∙ z) in
      ap as_ran (local_refused s.assoc s.gather s.out e n) ∙ refused_ran (local_refusal s.assoc s.gather s.out e)

pub does : (s : Lent) (c : One) (e : Local) → At s → ran_by engine (machine.on_event s c e) ≡ (eng.engine_calls upper).on_event (engine s) c e
unfolding eng.local
does s c e r = does_by s r e (eqb (request_refusal (standing s.assoc) e 16390) 0) refl

-- THE SAME, call by call
pub same_calls : Answers (eng.engine_calls upper) (Ready upper upper_laws) machine engine
same_calls = record { hears = hears; does = does }
