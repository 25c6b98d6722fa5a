-- The engines that demand 3 shuts out, made of the machine's own calls: "the engine that handles the first PDU or the first piece and afterwards only reports bytes
-- used; and one that reports more bytes used than it gathered or dropped". The first two are of a class each (framing's ShutOut), and the class is shut out.
use Rattle.std.specs.Prelude.{ℕ}
use Rattle.framing.specs.Host.{Entry, One, Calls}
use Rattle.framing.specs.ShutOut as out
use Rattle.association.specs.Events.{Local}
use Rattle.association.specs.Machine.{Seen}
use Rattle.demand_3.specs.Calls.{machine}

abbrev pub machine_first_pdu : Calls One Local (Entry Seen)
machine_first_pdu = out.first_pdu machine

abbrev pub machine_first_piece : Calls One Local (Entry Seen)
machine_first_piece = out.first_piece machine

abbrev pub machine_over_reporting : ℕ → Calls One Local (Entry Seen)
machine_over_reporting k = out.over_reporting machine k
