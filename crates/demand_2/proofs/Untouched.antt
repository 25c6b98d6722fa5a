-- "A used byte that isn't dropped goes to the gather buffer behind those gathered; nothing else there changes." "An answered call writes its sent bytes at the start of
-- the output and changes no byte beyond them." Of every call, refused ones too.
-- Assumes nothing.
use Prim.Native.Nat.{ℕ, ◌+◌, ◌-◌, ◌≤◌}
use mathlib.Core.Path.{◌≡◌, refl, sym, ap, ◌∙◌}
use mathlib.Core.Bool.{Bool, true, false}
use mathlib.Core.List.{List, [], ◌++◌, append_assoc}
use native.Mathlib.Omega.{arith}
use lib.Dec.{eqb}
use lib.ListN.{length, take, drop, length-append}
use lib.Seq.{length-take-le, take_at, drop_at}
use borrow.Author.Tests.{eqb-true, eqb-false}
use Rattle.octets.specs.Put.{put, front}
use Rattle.octets.proofs.PutLaws.{put_length}
use Rattle.framing.specs.Framing.{Frame, frame, Frame.short, Frame.long, Frame.whole, Brought.over_length}
use Rattle.framing.specs.Engine as eng
use Rattle.framing.proofs.Buffers.{front_length}
use Rattle.framing.proofs.Receive.{through_fits}
use Rattle.table.specs.EventNames.{INVALID-RECEIVED}
use Rattle.association.specs.declared.Assoc.{Assoc}
use Rattle.association.specs.Record.{standing, dropping}
use Rattle.association.specs.Refusals.{refused_with}
use Rattle.association.specs.Events.{Local}
use Rattle.writing.specs.Ten.{ten_of}
use Rattle.association.specs.Machine.{upper, doing, on_event, on_local}
use Rattle.association.specs.Calls.{Call, call, lent_of, heard, receive_refusal, receive_of, local_refusal, local_of}
use Rattle.writing.proofs.TenLaws.{ten_length}
use Rattle.demand_2.specs.Cells.{calls}
use Rattle.demand_2.specs.Gather.{GatherOnlyTested}
use Rattle.demand_2.proofs.Given.{sends_room}
use Rattle.demand_2.proofs.Ready.{Receives, receives_of}
use Rattle.demand_2.proofs.Answered.{receive_either, local_refused, done_local, local_done, local_either, takes_of}
use Rattle.demand_2.proofs.Calls.{local_refusal_so}

-- a call with c bytes gathered before it and u used left the gather buffer g and the output o as this
pub record Untouched (c u : ℕ) (g o : List ℕ) (x : Call) : Type 0 where
  pub before : take c x.gather ≡ take c g
  pub behind : drop (c + u) x.gather ≡ drop (c + u) g
  pub gather_length : length x.gather ≡ length g
  pub beyond : drop x.answer.told.sent x.out ≡ drop x.answer.told.sent o
  pub out_length : length x.out ≡ length o

-- ---- two buffers

put_before : (g : List ℕ) (c : ℕ) (bs : List ℕ) → c ≤ length g → take c (put g c bs) ≡ take c g
unfolding put
put_before g c bs h = take_at (take c g) (bs ++ drop (c + length bs) g) c (length-take-le c g h)

put_behind : (g : List ℕ) (c : ℕ) (bs : List ℕ) → c ≤ length g → drop (c + length bs) (put g c bs) ≡ drop (c + length bs) g
unfolding put
put_behind g c bs h =
    let n : length (take c g ++ bs) ≡ c + length bs = length-append (take c g) bs ∙ ap (λ (k : ℕ). k + length bs) (length-take-le c g h) in
    ap (drop (c + length bs)) (sym (append_assoc (take c g) bs (drop (c + length bs) g))) ∙ drop_at (take c g ++ bs) (drop (c + length bs) g) (c + length bs) n

front_behind : (o bs : List ℕ) → drop (length bs) (front o bs) ≡ drop (length bs) o
unfolding front
front_behind o bs = drop_at bs (drop (length bs) o) (length bs) refl

-- ---- receiving
module _ (a : Assoc) (g p o : List ℕ) (v : Receives a g o) where
  -- u bytes gathered, and few bytes sent
  gathered_by : (u : ℕ) (bs : List ℕ) (x : Call) → u ≤ length p → a.gathered + u ≤ 16390 → length bs ≤ length o
      → x.gather ≡ put g a.gathered (take u p) → x.out ≡ front o bs → x.answer.told.sent ≡ length bs → Untouched a.gathered u g o x
  gathered_by u bs x hu hc hb eg eo es =
      let k : length (take u p) ≡ u = length-take-le u p hu in
      record {
        before = rw eg (put_before g a.gathered (take u p) v.within);
        behind = rw eg (rw k at (put_behind g a.gathered (take u p) v.within));
        gather_length = rw eg (put_length g a.gathered (take u p) (omega (arith, v.fine_record.room)));
        beyond = rw (es, eo) (front_behind o bs);
        out_length = rw eo (front_length o bs hb);
      }

  few : (w : ℕ) → length (ten_of w) ≤ length o
  few w = omega (arith, ten_length w, v.out_room)

  untouched_by : (b : Bool) (f : Frame) → eng.through upper f a.gathered p ≤ length p → a.gathered + eng.through upper f a.gathered p ≤ 16390
      → Untouched a.gathered (eng.receive_by upper b f (lent_of a g o) p).used g o (heard (eng.receive_by upper b f (lent_of a g o) p))
  unfolding heard on_event doing front
  untouched_by true f hu hc = record { before = refl; behind = refl; gather_length = refl; beyond = refl; out_length = refl }
  untouched_by false short hu hc =
      gathered_by (length p) [] (heard (eng.receive_by upper false short (lent_of a g o) p)) hu hc (omega arith) refl refl refl
  untouched_by false long hu hc =
      gathered_by (6 - a.gathered) (on_event INVALID-RECEIVED (standing a) over_length).sends (heard (eng.receive_by upper false long (lent_of a g o) p)) hu hc (few _) refl refl refl
  untouched_by false (whole n) hu hc =
      gathered_by (n - a.gathered) (upper.on_pdu (standing a) (take n (put g a.gathered (take (n - a.gathered) p)))).sends
      (heard (eng.receive_by upper false (whole n) (lent_of a g o) p)) hu hc (few _) refl refl refl

  untouched_received : Untouched a.gathered (eng.receive upper (lent_of a g o) p).used g o (heard (eng.receive upper (lent_of a g o) p))
  unfolding eng.receive
  untouched_received =
      let t = through_fits upper g p a.gathered v.within v.quiet in
      untouched_by (dropping (standing a)) (frame 16384 (take a.gathered g ++ p)) t.0 t.1

untouched_refused : (n c : ℕ) (a : Assoc) (g o : List ℕ) → Untouched c 0 g o (call (refused_with n a) g o)
unfolding refused_with
untouched_refused n c a g o = record { before = refl; behind = refl; gather_length = refl; beyond = refl; out_length = refl }

pub receive_untouched : (a : Assoc) (g p o : List ℕ) → Untouched a.gathered (receive_of a g p o).answer.told.used g o (receive_of a g p o)
unfolding heard refused_with
receive_untouched a g p o =
    receive_either a g p o (λ (c : Call). Untouched a.gathered c.answer.told.used g o c) (λ h. untouched_received a g p o (receives_of a g o h))
    (untouched_refused (receive_refusal a g o) a.gathered a g o)

-- ---- a local event: only its refusals look at the gather buffer
pub gather_only_tested : GatherOnlyTested calls
unfolding refused_with
gather_only_tested a g h o e q = by (eqb (local_refusal a g o e) 0) refl
  where
    same : local_refusal a g o e ≡ local_refusal a h o e
    same = sym (local_refusal_so a g o e) ∙ (q ∙ local_refusal_so a h o e)

    by : (b : Bool) → eqb (local_refusal a g o e) 0 ≡ b → local_of a h o e ≡ call (local_of a g o e).answer h (local_of a g o e).out
    by true p =
        let z = eqb-true _ _ p in
        rw (local_done a g o e z, local_done a h o e (sym same ∙ z))
    by false p =
        let z = eqb-false _ _ p in
        rw (local_refused a g o e z, local_refused a h o e (λ y. z (same ∙ y)), same)

-- and it is as it was, whatever the count
pub local_gather : (a : Assoc) (g o : List ℕ) (e : Local) → (local_of a g o e).gather ≡ g
local_gather a g o e = ap (λ (c : Call). c.gather) (gather_only_tested a g g o e refl)

pub local_untouched : (a : Assoc) (g o : List ℕ) (e : Local) (c : ℕ) → Untouched c 0 g o (local_of a g o e)
local_untouched a g o e c = local_either a g o e (Untouched c 0 g o) done (untouched_refused (local_refusal a g o e) c a g o)
  where
    done : local_refusal a g o e ≡ 0 → Untouched c 0 g o (done_local a g o e)
    done h =
        let bs = (on_local (standing a) e).sends in
        record {
          before = refl;
          behind = refl;
          gather_length = refl;
          beyond = front_behind o bs;
          out_length = front_length o bs (sends_room (standing a) e (length o) (takes_of a g o e h).request_fine);
        }
