-- Any two permitted answers of each local event agree, and so do the contents of the output as it leaves it.
-- Assumes nothing.
use mathlib.Core.Path.{ap}
use Rattle.laws.proofs.Agree.{agree, AgreesLent}
use Rattle.association.specs.Calls.{Call}
use Rattle.requests.proofs.event as event
use Rattle.requests.proofs.confirm as confirm
use Rattle.requests.proofs.accept as accept
use Rattle.requests.proofs.reject as reject
use Rattle.requests.proofs.send as send

pub event_agrees : AgreesLent 2 event.Kinds.ps event.Kinds.r event.Reads.Post (λ κs x. x.1.1.1.0.now)
event_agrees κs args a b x y p q = (ap (λ (c : Call). c.answer) (agree p q), ap (λ (c : Call). c.out) (agree p q))

pub confirm_agrees : AgreesLent 3 confirm.Kinds.ps confirm.Kinds.r confirm.Reads.Post (λ κs x. x.1.1.1.0.now)
confirm_agrees κs args a b x y p q = (ap (λ (c : Call). c.answer) (agree p q), ap (λ (c : Call). c.out) (agree p q))

pub accept_agrees : AgreesLent 3 accept.Kinds.ps accept.Kinds.r accept.Reads.Post (λ κs x. x.1.1.1.0.now)
accept_agrees κs args a b x y p q = (ap (λ (c : Call). c.answer) (agree p q), ap (λ (c : Call). c.out) (agree p q))

pub reject_agrees : AgreesLent 2 reject.Kinds.ps reject.Kinds.r reject.Reads.Post (λ κs x. x.1.1.1.1.1.0.now)
reject_agrees κs args a b x y p q = (ap (λ (c : Call). c.answer) (agree p q), ap (λ (c : Call). c.out) (agree p q))

pub send_agrees : AgreesLent 3 send.Kinds.ps send.Kinds.r send.Reads.Post (λ κs x. x.1.1.1.0.now)
send_agrees κs args a b x y p q = (ap (λ (c : Call). c.answer) (agree p q), ap (λ (c : Call). c.out) (agree p q))
