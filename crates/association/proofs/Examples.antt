-- Events, actions and the record at worked examples: antt computes both sides.
-- Assumes nothing.
use Prim.Native.Nat.{ℕ}
use mathlib.Core.Bool.{true, false}
use mathlib.Core.Path.{◌≡◌, refl}
use Rattle.laws.specs.Lists.{among}
use Rattle.writing.specs.Ten.{ABORT-UNRECOGNIZED, ABORT-UNEXPECTED}
use Rattle.table.specs.ActionNames.{AE-5, AR-3}
use Rattle.table.specs.EventNames.{RQ-RECEIVED, RELEASE-RQ-RECEIVED, INVALID-RECEIVED}
use Rattle.table.specs.Actions.{actions, does_of, next_of, artim_of}
use Rattle.table.specs.Table.{table, cell_of, is_received}
use Rattle.association.specs.Record.{Standing, standing, idle, moved, dropping}
use Rattle.association.specs.Performing.{brings_nothing, requestor_after, entering, leaving, after, abort_for}
use Rattle.association.specs.Machine.{local_cell}

-- a requestor, in a state
abbrev requestor : ℕ → Standing
requestor n = moved n false true (record { accepts = false; peer_max = 32768; deaf = false })

-- AR-3 enters Sta1, so mark and peer maximum go
pub forgets : leaving (after AR-3 (requestor 7) (brings_nothing (requestor 7))) 0 ≡ idle
unfolding leaving after entering requestor_after next_of artim_of does_of actions idle
forgets = refl

-- AE-5 sets no mark: AE-1 alone does
pub no_mark : (after AE-5 (standing idle) (brings_nothing (standing idle))).requestor ≡ false
unfolding after entering requestor_after next_of artim_of does_of actions idle
no_mark = refl

-- an invalid PDU of type 08H; a valid RELEASE-RQ where none is expected
pub type_eight : abort_for INVALID-RECEIVED 8 ≡ ABORT-UNRECOGNIZED
unfolding abort_for
type_eight = refl

pub unexpected : abort_for RELEASE-RQ-RECEIVED 5 ≡ ABORT-UNEXPECTED
unfolding abort_for
unexpected = refl

-- an RQ in Sta2: bytes bring it, and it is no local event's number
pub by_hand : local_cell RQ-RECEIVED 2 ≡ 0
unfolding local_cell is_received among cell_of table
by_hand = refl

-- bytes that come in Sta4 are dropped
pub waiting : dropping (requestor 4) ≡ true
unfolding dropping
waiting = refl
