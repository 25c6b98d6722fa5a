-- What an answered call sends: nothing, or one whole valid PDU of the kind that its action names; and "What we send .. reads back as the same fields" (demand 2). For
-- any engine, so that it can also be said of one that does not.
use Rattle.std.specs.Prelude.{ℕ, ◌≤◌, ◌≡◌, Bool, true, false, List, [], length, take, eqb}
use Rattle.numbers.specs.Refusals.{NOT-REFUSED}
use Rattle.numbers.specs.Kinds.{NO-KIND}
use Rattle.numbers.specs.Lengths.{BUFFER}
use Rattle.judging.specs.Pdu.{kind_of}
use Rattle.round_trips.specs.Trips.{RqTrip, AcTrip, RejectTrip, DataTrip}
use Rattle.table.specs.Actions.{Sends, does_of, kind_sent}
use Rattle.table.specs.Actions.{Sends.nothing, Sends.contents, Sends.reject_version, Sends.release_rq, Sends.release_rp, Sends.abort_user, Sends.abort_provider}
use Rattle.association.specs.declared.Assoc.{Assoc}
use Rattle.association.specs.Events.{Local}
use Rattle.association.specs.Events.{Local.plain, Local.confirm, Local.accept, Local.reject, Local.send}
use Rattle.association.specs.Calls.{Call}
use Rattle.demand_2.specs.Cells.{Engine}

-- "An answered call writes its sent bytes at the start of the output"
abbrev pub bytes_sent : Call → List ℕ
bytes_sent c = take c.answer.told.sent c.out

-- the kind of the PDU that an action sends by Tables 9-6 to 9-9, where it leads to this state; 0 for none. AE-6 sends one unless it accepts, which leads to Sta3
unfoldable pub kind_named : ℕ → ℕ → ℕ
kind_named action state = kind_sent (does_of action (eqb state 3) false).sends

abbrev pub kind_due : Call → ℕ
kind_due c = kind_named c.answer.told.action c.answer.assoc.state

-- a call sent nothing exactly where its action names no PDU, else one whole valid PDU of the kind named (`kind_of` is 0 for any other bytes)
pub record AsNamed (c : Call) : Type 0 where
  pub kind : kind_of (bytes_sent c) ≡ kind_due c
  pub none : kind_due c ≡ NO-KIND → bytes_sent c ≡ []
  pub some : bytes_sent c ≡ [] → kind_due c ≡ NO-KIND
  pub most : length (bytes_sent c) ≤ BUFFER
  pub counted : length (bytes_sent c) ≡ c.answer.told.sent

-- ---- the contents of a local event

abbrev pub is_contents : Sends → Bool
is_contents nothing = false
is_contents (contents kind) = true
is_contents reject_version = false
is_contents release_rq = false
is_contents release_rp = false
is_contents abort_user = false
is_contents abort_provider = false

-- whether an action sends them
unfoldable pub sends_contents : ℕ → Bool
sends_contents action = is_contents (does_of action false false).sends

-- reading the bytes sent at a local event gives its contents; an event without contents takes none of those actions
abbrev pub ReadsBack : ℕ → Local → List ℕ → Type 0
ReadsBack action (plain n) bytes = sends_contents action ≡ false
ReadsBack action (confirm f) bytes = RqTrip f bytes
ReadsBack action (accept f) bytes = AcTrip f bytes
ReadsBack action (reject f) bytes = RejectTrip f bytes
ReadsBack action (send f) bytes = DataTrip f bytes

-- ---- every record, both buffers, every piece and every local event
pub record Sending (x : Engine) : Type 0 where
  pub received : (a : Assoc) (g p o : List ℕ) → (x.receive a g p o).answer.told.refusal ≡ NOT-REFUSED → AsNamed (x.receive a g p o)
  pub given : (a : Assoc) (g o : List ℕ) (e : Local) → (x.local a g o e).answer.told.refusal ≡ NOT-REFUSED → AsNamed (x.local a g o e)
  pub contents : (a : Assoc) (g o : List ℕ) (e : Local) → (x.local a g o e).answer.told.refusal ≡ NOT-REFUSED
      → ReadsBack (x.local a g o e).answer.told.action e (bytes_sent (x.local a g o e))
