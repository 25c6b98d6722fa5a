-- Demand 2: "Each event that gets no refusal of document 01 takes the action and next state of its cell; at a blank cell a local event is refused, and received
-- bytes are dropped." For any engine, so that it can also be said of one that does not.
use Rattle.std.specs.Prelude.{ℕ, ◌≤◌, ◌<◌, ◌≡◌, true, false, List, [], ◌++◌, length, take}
use Rattle.numbers.specs.Refusals.{NOT-REFUSED, BLANK-CELL}
use Rattle.numbers.specs.Lengths.{LONGEST}
use Rattle.framing.specs.Framing.{Frame, frame}
use Rattle.framing.specs.Framing.{Frame.short, Frame.long, Frame.whole}
use Rattle.table.specs.EventNames.{INVALID-RECEIVED}
use Rattle.table.specs.Table.{cell_of, is_received}
use Rattle.table.specs.Actions.{next_of}
use Rattle.association.specs.declared.Assoc.{Assoc}
use Rattle.association.specs.Record.{Standing, standing}
use Rattle.association.specs.Refusals.{record_refusal, refused_with}
use Rattle.association.specs.Events.{Local, event_of, number_of}
use Rattle.association.specs.Performing.{accepts_at}
use Rattle.association.specs.Calls.{Call, call, receive_refusal, receive_of, local_refusal, local_of}

-- an engine by its calls: what each answers, and how it leaves the two buffers lent to it
pub record Engine : Type 0 where
  pub receive : Assoc → List ℕ → List ℕ → List ℕ → Call  -- the record, the gather buffer, the piece, the output
  pub local : Assoc → List ℕ → List ℕ → Local → Call  -- the record, the gather buffer, the output, the local event

-- the calls as the contracts of the code have them
abbrev pub calls : Engine
calls = record { receive = receive_of; local = local_of }

-- ---- the event that a piece brings, behind the bytes gathered

abbrev pub gathered_with : Assoc → List ℕ → List ℕ → List ℕ
gathered_with a g p = take a.gathered g ++ p

abbrev pub event_by : Standing → Frame → List ℕ → ℕ
event_by s short bytes = 0
event_by s long bytes = INVALID-RECEIVED
event_by s (whole n) bytes = event_of s (take n bytes)

abbrev pub pdu_by : Frame → List ℕ → List ℕ
pdu_by short bytes = []
pdu_by long bytes = []
pdu_by (whole n) bytes = take n bytes

-- its number, or 0 for none
unfoldable pub event_in : Assoc → List ℕ → List ℕ → ℕ
event_in a g p = event_by (standing a) (frame LONGEST (gathered_with a g p)) (gathered_with a g p)

-- the PDU that came whole; none where the event is a length above 16,384
unfoldable pub pdu_in : Assoc → List ℕ → List ℕ → List ℕ
pdu_in a g p = pdu_by (frame LONGEST (gathered_with a g p)) (gathered_with a g p)

-- ---- what a cell asks

-- a call was answered with this action, and this state after it
pub record Did (c : Call) (act next : ℕ) : Type 0 where
  pub answered : c.answer.told.refusal ≡ NOT-REFUSED
  pub action : c.answer.told.action ≡ act
  pub state : c.answer.assoc.state ≡ next

-- a call used all bytes of the piece, and did nothing else
abbrev pub uses_all : Assoc → List ℕ → List ℕ → List ℕ → Call
uses_all a g p o = call (record { told = record { refusal = NOT-REFUSED; action = 0; used = length p; sent = 0; shown = 0 }; assoc = a }) g o

-- the cell of an event in a state
pub record Cell (x : Engine) (event state : ℕ) : Type 0 where
  -- filled, and bytes bring the event, to an association that hears them: the cell's action, and that action's next state
  pub brought : (a : Assoc) (g p o : List ℕ) → a.state ≡ state → receive_refusal a g o ≡ NOT-REFUSED → a.deaf ≡ false → event_in a g p ≡ event → 0 < cell_of event state
      → Did (x.receive a g p o) (cell_of event state) (next_of (cell_of event state) (accepts_at (cell_of event state) (pdu_in a g p)) a.requestor)
  -- blank, and bytes bring the event: they are dropped
  pub dropped : (a : Assoc) (g p o : List ℕ) → a.state ≡ state → receive_refusal a g o ≡ NOT-REFUSED → is_received event ≡ true → event_in a g p ≡ event → cell_of event state ≡ 0
      → x.receive a g p o ≡ uses_all a g p o
  -- the host gives the event, and no refusal is due: the cell's action, and that action's next state
  pub given : (a : Assoc) (g o : List ℕ) (e : Local) → a.state ≡ state → local_refusal a g o e ≡ NOT-REFUSED → number_of e ≡ event
      → Did (x.local a g o e) (cell_of event state) (next_of (cell_of event state) false a.requestor)
  -- blank, and the host gives the event: 1, unless 6 or 3 is due
  pub refused : (a : Assoc) (g o : List ℕ) (e : Local) → a.state ≡ state → record_refusal a g a.gathered ≡ NOT-REFUSED → number_of e ≡ event → cell_of event state ≡ 0
      → x.local a g o e ≡ call (refused_with BLANK-CELL a) g o

-- DEMAND 2
pub record Demand2 (x : Engine) : Type 0 where
  -- the 19 events by the 13 states
  pub cells : (event state : ℕ) → 1 ≤ event → event ≤ 19 → 1 ≤ state → state ≤ 13 → Cell x event state
  -- whatever they bring to a deaf association: "later bytes are used and dropped until Sta1"
  pub deaf : (a : Assoc) (g p o : List ℕ) → receive_refusal a g o ≡ NOT-REFUSED → a.deaf ≡ true → x.receive a g p o ≡ uses_all a g p o
