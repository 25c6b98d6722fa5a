-- Demand 3: "data is indicated exactly for a valid P-DATA-TF completed in Sta6 or Sta7".
use Rattle.std.specs.Prelude.{ℕ, Bool, false, ◌&&◌, ◌||◌, List, eqb}
use Rattle.framing.specs.Framing.{Brought}
use Rattle.framing.specs.Framing.{Brought.pdu, Brought.over_length}
use Rattle.framing.specs.Host.{Entry, One, Item}
use Rattle.framing.specs.Taken as steps
use Rattle.framing.specs.Taken.{those}
use Rattle.numbers.specs.Kinds.{DATA-TF}
use Rattle.judging.specs.Pdu.{kind_of}
use Rattle.table.specs.ActionNames.{DT-2, AR-6}
use Rattle.association.specs.Record.{Standing}
use Rattle.association.specs.Events.{Local}
use Rattle.association.specs.Machine.{Seen, upper}
use Rattle.demand_3.specs.Calls.{fresh_box}

-- DT-2: "Send P-DATA indication primitive"; AR-6: "Issue P-DATA indication"
unfoldable pub indicates : ℕ → Bool
indicates action = eqb action DT-2 || eqb action AR-6

abbrev pub indicated : Entry Seen → Bool
indicated x = indicates x.told.action

-- Sta6 or Sta7
unfoldable pub takes_data : ℕ → Bool
takes_data state = eqb state 6 || eqb state 7

-- a valid P-DATA-TF, whose last byte met an association that stands so
abbrev pub data_at : Standing → Brought → Bool
data_at s (pdu p) = eqb (kind_of p) DATA-TF && takes_data s.state
data_at s over_length = false

abbrev pub valid_data : steps.Took upper → Bool
valid_data t = data_at t.met t.came

-- those of a script, in order, each with the record that its last byte met: the script's runs are framed as the reference frames them
abbrev pub data_in : List (Item One Local) → List (steps.Took upper)
data_in is = those valid_data (steps.taken upper is fresh_box)
