-- A PDV as the code reads it, with its fragment lent.
use Rattle.pdvs.specs.Data.{Pdv}
use Rattle.pdvs.specs.declared.Pdv.{Pdv as PdvRead}

abbrev pub pdv_read : PdvRead → Pdv
pdv_read p = record { id = p.id; control = p.control; fragment = p.fragment.now }
