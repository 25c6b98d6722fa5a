-- Any two permitted answers of `receive` agree, and so do the contents of the gather buffer and of the output as it leaves them.
-- Assumes nothing.
use Prim.Native.Nat.{ℕ}
use mathlib.Core.Path.{ap}
use mathlib.Core.List.{List}
use Rattle.laws.proofs.Agree.{agree, AgreesLent}
use Rattle.association.specs.Calls.{Call}
use Rattle.receiving.proofs.piece.receive as receive

pub receive_agrees : AgreesLent {L = List ℕ × List ℕ} 3 receive.Kinds.ps receive.Kinds.r receive.Reads.Post (λ κs x. (x.1.0.now, x.1.1.1.0.now))
receive_agrees κs args a b x y p q = (ap (λ (c : Call). c.answer) (agree p q), ap (λ (c : Call). (c.gather, c.out)) (agree p q))
