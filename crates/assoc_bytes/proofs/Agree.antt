-- Any two permitted answers agree, for each public function, and so do the bytes and the numbers that it was lent.
-- Assumes nothing.
use Prim.Native.Nat.{ℕ}
use mathlib.Core.List.{List}
use Rattle.laws.proofs.Agree.{agree, Agrees, AgreesLent}
use Rattle.assoc_bytes.proofs.assoc.assoc_of as assoc-of
use Rattle.assoc_bytes.proofs.assoc.bytes_of as bytes_of
use Rattle.assoc_bytes.proofs.assoc.hand_out as hand-out

pub assoc_of_agrees : Agrees 0 assoc-of.Kinds.ps assoc-of.Kinds.r assoc-of.Reads.Post
assoc_of_agrees κs args a b x y p q = agree p q

pub bytes_of_agrees : Agrees 0 bytes_of.Kinds.ps bytes_of.Kinds.r bytes_of.Reads.Post
bytes_of_agrees κs args a b x y p q = agree p q

pub hand_out_agrees : AgreesLent {L = List ℕ × List ℕ} 2 hand-out.Kinds.ps hand-out.Kinds.r hand-out.Reads.Post (λ κs x. (x.1.0.now, x.1.1.0.now))
hand_out_agrees κs args a b x y p q = (agree p.refused q.refused, λ i. (agree p.assoc q.assoc i, agree p.told q.told i))
