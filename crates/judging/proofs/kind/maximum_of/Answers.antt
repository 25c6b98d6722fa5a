-- The maximum of an RQ, and of an AC.
use Rattle.judging.proofs.KindLaws.{max_part}
use Rattle.judging.specs.Pdu.{maximum_of}
use Rattle.judging.proofs.kind.maximum_of.Goals as goal

pub returns-in-Some-AssociateRq : goal.returns-in-Some-AssociateRq
unfolding maximum_of
returns-in-Some-AssociateRq c = rw (← c.kind_of.ensures, c.in-Some-AssociateRq.is, c.in-Some-AssociateRq.field-0-is) (max_part _ c.args.pdu.now c.maximum_in.ensures)

pub returns-in-Some-AssociateAc : goal.returns-in-Some-AssociateAc
unfolding maximum_of
returns-in-Some-AssociateAc c = rw (← c.kind_of.ensures, c.in-Some-AssociateAc.is, c.in-Some-AssociateAc.field-0-is) (max_part _ c.args.pdu.now c.maximum_in-in-Some-AssociateAc.ensures)
