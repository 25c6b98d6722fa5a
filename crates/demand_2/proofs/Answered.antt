-- What a call is where it is refused, and where it is answered; and that an answered call leaves a record that is fine over the gather buffer as left.
-- Assumes nothing.
use Prim.Native.Nat.{ℕ, ◌≤◌}
use mathlib.Core.Path.{◌≡◌, refl}
use mathlib.Core.Bool.{Bool, true, false}
use mathlib.Core.List.{List, [], ◌++◌}
use native.Mathlib.Omega.{arith}
use lib.ListN.{length, take, replicate}
use lib.Dec.{eqb}
use borrow.Author.Tests.{ne_eqb, eqb-true, eqb-false}
use Rattle.octets.specs.Put.{front}
use Rattle.framing.specs.Framing.{Frame, frame, Frame.short, Frame.long, Frame.whole}
use Rattle.framing.specs.Engine as eng
use Rattle.framing.proofs.Call.{called}
use Rattle.association.specs.declared.Assoc.{Assoc}
use Rattle.association.specs.Record.{standing, dropping}
use Rattle.association.specs.Refusals.{record_refusal, refused_with}
use Rattle.association.specs.Events.{Local}
use Rattle.association.specs.Performing.{leaving}
use Rattle.association.specs.Machine.{upper, request_refusal, on_local}
use Rattle.association.specs.Calls.{Call, call, lent_of, heard, receive_refusal, receive_of, local_refusal, local_of}
use Rattle.association.proofs.OrderLaws.{local_passed}
use Rattle.demand_2.proofs.Kept.{upper_laws}
use Rattle.demand_2.proofs.Unbroken.{Fine}
use Rattle.demand_2.proofs.Ready.{receives_of, ready_of, fine_lent}

-- ---- receiving
module _ (a : Assoc) (g p o : List ℕ) where
  pub receive_refused : (receive_refusal a g o ≡ 0 → ⊥) → receive_of a g p o ≡ call (refused_with (receive_refusal a g o) a) g o
  unfolding receive_of
  receive_refused h = rw (ne_eqb (receive_refusal a g o) 0 h)

  pub received : receive_refusal a g o ≡ 0 → receive_of a g p o ≡ heard (eng.receive upper (lent_of a g o) p)
  unfolding receive_of
  received h = rw h

  -- what holds of it where it is answered and where it is refused
  pub receive_either : (P : Call → Type 0) → (receive_refusal a g o ≡ 0 → P (heard (eng.receive upper (lent_of a g o) p)))
      → P (call (refused_with (receive_refusal a g o) a) g o) → P (receive_of a g p o)
  receive_either P done refused = by (eqb (receive_refusal a g o) 0) refl
    where
      by : (b : Bool) → eqb (receive_refusal a g o) 0 ≡ b → P (receive_of a g p o)
      by true e = let h = eqb-true _ _ e in rw (received h) (done h)
      by false e = rw (receive_refused (eqb-false _ _ e)) refused

-- the output has no part in what becomes of the record and the gather buffer
record Beside (x y : eng.EngineState upper) : Type 0 where
  state : x.state ≡ y.state
  count : x.count ≡ y.count
  gather : x.gather ≡ y.gather

beside_by : (b : Bool) (f : Frame) (a : Assoc) (g p o q : List ℕ)
    → Beside (eng.receive_by upper b f (lent_of a g o) p).next (eng.receive_by upper b f (lent_of a g q) p).next
beside_by true f a g p o q = record { state = refl; count = refl; gather = refl }
beside_by false short a g p o q = record { state = refl; count = refl; gather = refl }
beside_by false long a g p o q = record { state = refl; count = refl; gather = refl }
beside_by false (whole n) a g p o q = record { state = refl; count = refl; gather = refl }

beside : (a : Assoc) (g p o q : List ℕ) → Beside (eng.receive upper (lent_of a g o) p).next (eng.receive upper (lent_of a g q) p).next
unfolding eng.receive
beside a g p o q = beside_by (dropping (standing a)) (frame 16384 (take a.gathered g ++ p)) a g p o q

module _ (a : Assoc) (g p o : List ℕ) (h : receive_refusal a g o ≡ 0) where
  ample : List ℕ
  ample = replicate 16390 0

  ample_room : 16390 ≤ length ample
  unfolding ample
  ample_room = omega arith

  pub receive_fine : Fine (receive_of a g p o).answer.assoc (receive_of a g p o).gather 16390
  unfolding heard
  receive_fine =
      let v = receives_of a g o h in
      let r = (called upper upper_laws (lent_of a g ample) p [] (ready_of a g ample v.fine_record ample_room)).ready in
      let f = fine_lent (eng.receive upper (lent_of a g ample) p).next r in
      let s = beside a g p ample o in
      rw (received a g p o h) (rw (s.state, s.count, s.gather) at f)

-- ---- a local event
module _ (a : Assoc) (g o : List ℕ) (e : Local) where
  pub local_refused : (local_refusal a g o e ≡ 0 → ⊥) → local_of a g o e ≡ call (refused_with (local_refusal a g o e) a) g o
  unfolding local_of
  local_refused h = rw (ne_eqb (local_refusal a g o e) 0 h)

  abbrev pub done_local : Call
  done_local =
      let x = on_local (standing a) e in
      record {
        answer = record { told = record { refusal = 0; action = x.told.action; used = 0; sent = length x.sends; shown = 0 }; assoc = leaving x.next a.gathered };
        gather = g;
        out = front o x.sends;
      }

  pub local_done : local_refusal a g o e ≡ 0 → local_of a g o e ≡ done_local
  unfolding local_of
  local_done h = rw h

  pub local_either : (P : Call → Type 0) → (local_refusal a g o e ≡ 0 → P done_local) → P (call (refused_with (local_refusal a g o e) a) g o) → P (local_of a g o e)
  local_either P done refused = by (eqb (local_refusal a g o e) 0) refl
    where
      by : (b : Bool) → eqb (local_refusal a g o e) 0 ≡ b → P (local_of a g o e)
      by true q = let h = eqb-true _ _ q in rw (local_done h) (done h)
      by false q = rw (local_refused (eqb-false _ _ q)) refused

  -- none of 6, 3, 1, 4, 5 and 2
  pub record Takes : Type 0 where
    pub record_fine : record_refusal a g a.gathered ≡ 0
    pub request_fine : request_refusal (standing a) e (length o) ≡ 0

  pub takes_of : local_refusal a g o e ≡ 0 → Takes
  takes_of h = let p = local_passed a g o e h in record { record_fine = p.0; request_fine = p.1 }
