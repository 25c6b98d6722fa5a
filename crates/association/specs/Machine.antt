-- The machine: at each event the action of its cell of Table 9-10, and what that action does. Buffers, counts and cuts are the engine's (framing).
use Rattle.std.specs.Prelude.{ℕ, Bool, false, cond, List, [], ◌∷◌, eqb}
use Rattle.std.proofs.Math.Option.{none, some}
use Rattle.laws.specs.Refusals.{first_due}
use Rattle.numbers.specs.Refusals.{BLANK-CELL}
use Rattle.numbers.specs.Lengths.{LONGEST, BUFFER}
use Rattle.framing.specs.Framing.{Brought, Brought.pdu, Brought.over_length}
use Rattle.framing.specs.Reference.{Machine, Reaction}
use Rattle.table.specs.Actions.{shows_of}
use Rattle.table.specs.EventNames.{INVALID-RECEIVED}
use Rattle.table.specs.Table.{cell_of, is_received}
use Rattle.writing.specs.Form.{Form, good_form, form_tests, rq_form, ac_form, reject_form, data_form}
use Rattle.writing.specs.Ten.{ten_of, NO-TEN}
use Rattle.association.specs.declared.Brings.{Brings}
use Rattle.association.specs.Record.{Standing, dropping}
use Rattle.association.specs.Events.{Local, event_of, number_of, carries}
use Rattle.association.specs.Events.{Local.plain, Local.confirm, Local.accept, Local.reject, Local.send}
use Rattle.association.specs.Performing.{brings_nothing, brings, after, abort_by, ten_by}

-- what a host is told of an event: the action, and the state after
pub record Seen : Type 0 where
  pub action : ℕ
  pub state : ℕ

-- an action, with what its event brings and the bytes that are sent
unfoldable pub doing : ℕ → Standing → Brings → List ℕ → Reaction Standing Seen
doing action s b bytes =
    let next = after action s b in
    record {
      next = next;
      told = record { action = action; state = next.state };
      sends = bytes;
      shows = shows_of action b.accepts;
    }

-- ---- an event that bytes bring: the action of its cell, which sends a ten-byte PDU or nothing
unfoldable pub on_event : ℕ → Standing → Brought → Reaction Standing Seen
on_event event s v =
    let action = cell_of event s.state in
    let b = brings action s v in
    doing action s b (ten_of (ten_by action b.accepts (abort_by event v)))

-- ---- a local event

-- the action at a number in a state: 0 where its cell is blank. A number by which bytes bring an event is no local event's
unfoldable pub local_cell : ℕ → ℕ → ℕ
local_cell number state = cond (is_received number) 0 (cell_of number state)

abbrev pub local_action : Standing → Local → ℕ
local_action s e = local_cell (number_of e) s.state

-- by its number alone it sends what its action sends by itself; where it would have contents, they are bad
unfoldable pub plain_form : ℕ → ℕ → Form
plain_form number action =
    cond (carries number)
    (record { good = false; most = 0; pdu = [] })
    (good_form (ten_of (ten_by action false NO-TEN)))

-- the form of what it sends
abbrev pub form_at : Standing → Local → Form
form_at s (plain n) = plain_form n (local_cell n s.state)
form_at s (confirm f) = rq_form f
form_at s (accept f) = ac_form f
form_at s (reject f) = reject_form f
form_at s (send f) = data_form s.peer f

-- 1: "local event at a blank cell of Table 9-10"; then 4, 5 and 2 for what it sends into an output of so many bytes
abbrev pub request_tests : Standing → Local → ℕ → List (Bool × ℕ)
request_tests s e room = (eqb (local_action s e) 0, BLANK-CELL) ∷ form_tests (form_at s e) room

unfoldable pub request_refusal : Standing → Local → ℕ → ℕ
request_refusal s e room = first_due (request_tests s e room)

unfoldable pub on_local : Standing → Local → Reaction Standing Seen
on_local s e = doing (local_action s e) s (brings_nothing s) (form_at s e).pdu

-- ---- the machine of the reference. Its output has the room of any PDU, so that 2 never comes
abbrev pub upper : Machine
upper =
    record {
      R = Standing;
      E = Local;
      A = Seen;
      limit = LONGEST;
      drops = dropping;
      on_pdu = λ s p. on_event (event_of s p) s (pdu p);
      on_long = λ s. on_event INVALID-RECEIVED s over_length;
      on_local = λ s e. cond (eqb (request_refusal s e BUFFER) 0) (some (on_local s e)) none;
    }
