-- What the program lends to its calls.
use Rattle.demand_3.specs.Calls.{Lent}
use Rattle.listen.specs.declared.Host.{Host}
use Rattle.listen.specs.Listen.{lent}

abbrev pub lent_by : Host → Lent
lent_by h = lent h.assoc h.gather h.out
