-- The engine: what the calls of a machine do, one piece at a time, over a gather buffer and an output that are lent.
use Rattle.std.specs.Prelude.{ℕ, ◌+◌, ◌-◌, Bool, true, false, cond, List, [], ◌∷◌, ◌++◌, length, take}
use Rattle.std.proofs.Math.Option.{Option, none, some}
use Rattle.octets.specs.Put.{put, front}
use Rattle.framing.specs.Framing.{Frame, frame, Frame.short, Frame.long, Frame.whole}
use Rattle.framing.specs.Runs.{Ran}
use Rattle.framing.specs.Host.{Entry, One, Calls}
use Rattle.framing.specs.Reference as ref
use Rattle.framing.specs.Reference.{Machine, Reaction}

module _ (M : Machine) where
  open M use {R, E, A, limit, drops, on_pdu, on_long, on_local}

  -- what is lent from call to call: the record and the count gathered, the gather buffer, the output
  pub record EngineState : Type 0 where
    pub state : R
    pub count : ℕ
    pub gather : List ℕ
    pub out : List ℕ

  -- "The answer gives action (0 for none), state after, counts used and sent and .. the length of the PDU now in the gather buffer (else 0)"
  pub record EngineAnswer : Type 0 where
    pub used : ℕ
    pub told : Option A
    pub shown : ℕ
    pub sent : ℕ
    pub next : EngineState

  -- no event came, and u bytes were used
  abbrev pub quiet : ℕ → EngineState → EngineAnswer
  quiet u l = record { used = u; told = none; shown = 0; sent = 0; next = l }

  -- u bytes were used and an event came, with a PDU of n bytes in the gather buffer and k bytes gathered from now on
  abbrev pub acts : ℕ → Reaction R A → ℕ → ℕ → EngineState → EngineAnswer
  acts u x n k l =
      record {
        used = u;
        told = some x.told;
        shown = cond x.shows n 0;
        sent = length x.sends;
        next = record { state = x.next; count = k; gather = l.gather; out = front l.out x.sends };
      }

  -- "Each call uses bytes through the one that brings an event, else the whole piece": so many, with c gathered before them
  abbrev pub through : Frame → ℕ → List ℕ → ℕ
  through short c p = length p
  through long c p = 6 - c
  through (whole n) c p = n - c

  -- "A used byte that isn't dropped goes to the gather buffer behind those gathered; nothing else there changes."
  abbrev pub gathering : EngineState → List ℕ → EngineState
  gathering l bs = record { state = l.state; count = l.count + length bs; gather = put l.gather l.count bs; out = l.out }

  -- what they bring, u bytes of the piece being gathered: "At either the count gathered returns to 0."
  abbrev pub at_frame : Frame → ℕ → EngineState → EngineAnswer
  at_frame short u l = quiet u l
  at_frame long u l = acts u (on_long l.state) 0 0 l
  at_frame (whole n) u l = acts u (on_pdu l.state (take n l.gather)) n 0 l

  abbrev pub receive_by : Bool → Frame → EngineState → List ℕ → EngineAnswer
  receive_by true f l p = quiet (length p) l
  receive_by false f l p = let u = through f l.count p in at_frame f u (gathering l (take u p))

  unfoldable pub receive : EngineState → List ℕ → EngineAnswer
  receive l p = receive_by (drops l.state) (frame limit (take l.count l.gather ++ p)) l p

  -- a local event uses no bytes, and nothing comes of a refused one; where bytes are dropped from now on, none are gathered
  abbrev pub engine_local : Option (Reaction R A) → EngineState → EngineAnswer
  engine_local none l = quiet 0 l
  engine_local (some x) l = acts 0 x 0 (cond (drops x.next) 0 l.count) l

  unfoldable pub local : EngineState → E → EngineAnswer
  local l e = engine_local (on_local l.state e) l

  -- what the host sees of an answer: it reads the PDU shown and the bytes sent from the two buffers
  abbrev pub seen_by : Option A → EngineAnswer → List (Entry A)
  seen_by none a = []
  seen_by (some t) a = record { told = t; shown = take a.shown a.next.gather; sent = take a.sent a.next.out } ∷ []

  abbrev pub seen : EngineAnswer → List (Entry A)
  seen a = seen_by a.told a

  abbrev pub engine_calls : Calls One E (Entry A)
  engine_calls =
      record {
        S = EngineState;
        receive = λ l c p. let a = receive l p in record { used = a.used; seen = seen a; next = a.next };
        on_event = λ l c e. let a = local l e in record { trace = seen a; end = a.next };
      }

  -- ---- from the engine to the reference

  abbrev pub engine_box : EngineState → ref.Box M
  engine_box l = ref.box M l.state (take l.count l.gather)

  abbrev pub engine_boxed : Ran (Entry A) EngineState → Ran (Entry A) (ref.Box M)
  engine_boxed x = record { trace = x.trace; end = engine_box x.end }

  -- a record with nothing gathered, and two buffers, whatever they hold
  abbrev pub engine_fresh : R → List ℕ → List ℕ → EngineState
  engine_fresh r g o = record { state = r; count = 0; gather = g; out = o }
