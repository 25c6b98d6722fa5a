-- The reference: what a machine does with a script "when the whole run, behind the bytes already gathered, is framed at once and refused events are left
-- out" (demand 3). With Framing, this is what a reader must believe.
use Rattle.std.specs.Prelude.{ℕ, Bool, true, false, cond, List, [], ◌∷◌, ◌++◌}
use Rattle.std.proofs.Math.Option.{Option, none, some}
use Rattle.laws.specs.Lists.{joined}
use Rattle.framing.specs.Runs.{Ran, stop, runs}
use Rattle.framing.specs.Framing.{Brought, split}
use Rattle.framing.specs.Framing.{Brought.pdu, Brought.over_length}
use Rattle.framing.specs.Host.{Entry, One, Item, Item.event, Item.run}

-- ---- the machine: what an association does at an event, without buffers, counts and cuts

-- the record after; what the host is told; the bytes sent; whether the PDU that came is shown
pub record Reaction (R A : Type 0) : Type 0 where
  pub next : R
  pub told : A
  pub sends : List ℕ
  pub shows : Bool

-- R: the association's record, but for the count gathered. E: local events. A: what a host is told, the action and the state after.
-- drops: bytes are used and dropped ("In Sta1 and Sta4", and when "the association is deaf"). on_pdu: a whole PDU came, of at most 6 + limit bytes.
-- on_long: a length above the limit came. on_local: a local event, none where it is refused.
pub record Machine : Type 1 where
  pub R : Type 0
  pub E : Type 0
  pub A : Type 0
  pub limit : ℕ
  pub drops : R → Bool
  pub on_pdu : R → List ℕ → Reaction R A
  pub on_long : R → Reaction R A
  pub on_local : R → E → Option (Reaction R A)

module _ (M : Machine) where
  open M use {R, E, A, limit, drops, on_pdu, on_long, on_local}

  -- where an association stands between two calls: its record, and the bytes gathered
  pub record Box : Type 0 where
    pub state : R
    pub got : List ℕ

  abbrev pub box : R → List ℕ → Box
  box r g = record { state = r; got = g }

  -- nothing is gathered where bytes are dropped: in Sta1, in Sta4 and when deaf
  abbrev pub holding : R → List ℕ → Box
  holding r g = box r (cond (drops r) [] g)

  -- what the host sees of a reaction to the PDU p, or to [] where there is none
  abbrev pub entry : Reaction R A → List ℕ → Entry A
  entry x p = record { told = x.told; shown = cond x.shows p []; sent = x.sends }

  -- ---- a run of bytes, behind those already gathered

  abbrev pub react : R → Brought → Reaction R A
  react r (pdu p) = on_pdu r p
  react r over_length = on_long r

  abbrev pub bytes_of : Brought → List ℕ
  bytes_of (pdu p) = p
  bytes_of over_length = []

  abbrev pub takes_by : Bool → Brought → R → Ran (Entry A) R
  takes_by true v r = stop r
  takes_by false v r = let x = react r v in record { trace = entry x (bytes_of v) ∷ []; end = x.next }

  -- an event of the bytes: taken, or dropped
  abbrev pub takes : Brought → R → Ran (Entry A) R
  takes v r = takes_by (drops r) v r

  -- framed at once: the events are taken in order, and what is behind the last is gathered, or dropped
  unfoldable pub framed : R → List ℕ → Ran (Entry A) Box
  framed r s =
      let x = split limit s in
      let y = runs takes x.events r in
      record { trace = y.trace; end = holding y.end x.rest }

  -- ---- a local event: refused, it is left out

  abbrev pub local_by : Option (Reaction R A) → Box → Ran (Entry A) Box
  local_by none b = stop b
  local_by (some x) b = record { trace = entry x [] ∷ []; end = holding x.next b.got }

  -- ---- a script

  abbrev pub ref_item : Item One E → Box → Ran (Entry A) Box
  ref_item (event c e) b = local_by (on_local b.state e) b
  ref_item (run c ps) b = framed b.state (b.got ++ joined ps)

  abbrev pub reference : List (Item One E) → Box → Ran (Entry A) Box
  reference is b = runs ref_item is b
