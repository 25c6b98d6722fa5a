-- From what the callees of `receive` leave to what the call is: a law for each way out.
-- Assumes nothing.
use Prim.Native.Nat.{ℕ, ◌+◌, ◌≤◌}
use mathlib.Core.Path.{◌≡◌, refl, sym, ap, ◌∙◌, subst}
use mathlib.Core.Bool.{Bool, true, false}
use mathlib.Core.List.{List, ◌++◌}
use native.Mathlib.Omega.{arith}
use lib.ListN.{length, take}
use lib.Seq.{take_all, length-take-le}
use Rattle.numbers.specs.declared.refusals.Refusal.{Refusal}
use Rattle.numbers.specs.Refusals.{refusal_number}
use Rattle.numbers.proofs.NumberLaws.{refusal_some}
use Rattle.numbers.specs.Lengths.{LONGEST, TEN}
use Rattle.octets.proofs.PutLaws.{put_length}
use Rattle.framing.specs.Framing.{Frame, frame, Frame.short, Frame.long, Frame.whole}
use Rattle.framing.proofs.Framing.{Begins, Begins.no_event, Begins.at_six, Begins.at_end, begins}
use Rattle.association.specs.declared.Assoc.{Assoc}
use Rattle.association.specs.declared.Answer.{Answer}
use Rattle.association.specs.Record.{standing, dropping}
use Rattle.association.specs.Refusals.{refused_with}
use Rattle.association.specs.Machine.{upper}
use Rattle.association.specs.Calls.{call, receive_refusal, receive_of}
use Rattle.receiving.proofs.Opened.{Open, opened}
use Rattle.receiving.proofs.Ways.{receive_refused, way_dropped, way_short, way_long, way_whole}
use Rattle.receiving.specs.declared.gather.Head.{Head}
use Rattle.receiving.specs.declared.gather.Head.TheVariants.{Short, Long, Whole}
use Rattle.receiving.specs.declared.gather.Got.{Got}
use Rattle.receiving.specs.Private.Gathering.{head_of, used_of, RoomToGather, Gathered}
use Rattle.receiving.specs.Private.Reactions.{Done, quiet_of}

module _ (a : Assoc) (g o : List ℕ) where
  pub refused_at : (e : Refusal) → refusal_number e ≡ receive_refusal a g o → (p : List ℕ) (r : Answer) → r ≡ refused_with (refusal_number e) a
      → call r g o ≡ receive_of a g p o
  refused_at e q p r er = rw (er, q) (sym (receive_refused a g p o (λ z. refusal_some e (q ∙ z))))

  module _ (en : 0 ≡ receive_refusal a g o) where
    z : receive_refusal a g o ≡ 0
    z = sym en

    O : Open a g o
    O = opened a g o z

    pub ten_at : TEN ≤ length o
    ten_at = O.ten

    pub fit_at : RoomToGather g a.gathered
    fit_at = O.fit

    pub dropped_at : (p : List ℕ) (x : Bool) (r : Answer) → x ≡ dropping (standing a) → x ≡ true → r ≡ quiet_of a a.gathered (length p) → call r g o ≡ receive_of a g p o
    dropped_at p x r ex t er = rw er (sym (way_dropped a g p o z (sym ex ∙ t)))

    -- a piece that is heard, and gathered
    module _ (p : List ℕ) (x : Bool) (ex : x ≡ dropping (standing a)) (fx : x ≡ false) (g' : List ℕ) (w : Got) (G : Gathered g a.gathered p g' w) where
      hear : dropping (standing a) ≡ false
      hear = sym ex ∙ fx

      lg : length (take a.gathered g) ≡ a.gathered
      lg = length-take-le a.gathered g fit_at.within

      abbrev Outcome : Head → Type 0
      Outcome Short = (r : Answer) → r ≡ quiet_of a (a.gathered + w.used) w.used → call r g' o ≡ receive_of a g p o
      Outcome Long = (o' : List ℕ) (r : Answer) → Done (upper.on_long (standing a)) o w.used 0 r o' → call r g' o' ≡ receive_of a g p o
      Outcome Whole =
          (o' : List ℕ) (r : Answer) → Done (upper.on_pdu (standing a) (take (a.gathered + w.used) g')) o w.used (a.gathered + w.used) r o'
          → call r g' o' ≡ receive_of a g p o

      by : (k : Frame) → frame LONGEST (take a.gathered g ++ p) ≡ k → w.used ≡ used_of k a.gathered (length p) → Begins LONGEST (take a.gathered g) p k
          → Outcome (head_of k)
      by short q u (no_event l) = λ r er.
          rw (er, G.buffer, u, take_all (length p) p (omega arith)) (sym (way_short a g p o z hear q))
      by long q u (at_six l m f) = rw (G.buffer, u) (λ o' r D. way_long a g p o z hear r o' D q)
      by (whole n) q u (at_end l m f k v) =
          let e : a.gathered + w.used ≡ n = omega (arith, lg, u) in
          rw (e, G.buffer, u) (λ o' r D. way_whole a g p o z hear n r o' D q)

      outcome : (h : Head) → w.head ≡ h → Outcome h
      outcome h q =
          subst Outcome (sym G.head ∙ q)
          (by (frame LONGEST (take a.gathered g ++ p)) refl G.used (begins LONGEST (take a.gathered g) p fit_at.quiet))

      pub short_at : (r : Answer) → w.head ≡ Short → r ≡ quiet_of a (a.gathered + w.used) w.used → call r g' o ≡ receive_of a g p o
      short_at r q e = outcome Short q r e

      pub long_at : (o' : List ℕ) (r : Answer) → w.head ≡ Long → Done (upper.on_long (standing a)) o w.used 0 r o' → call r g' o' ≡ receive_of a g p o
      long_at o' r q D = outcome Long q o' r D

      kept : length g' ≡ length g
      kept =
          let cut : length (take w.used p) ≡ w.used = length-take-le w.used p G.some in
          ap length G.buffer ∙ put_length g a.gathered (take w.used p) (omega (arith, cut, G.room))

      pub whole_fits : a.gathered + w.used ≤ length g'
      whole_fits = omega (arith, G.room, kept)

      pub whole_length : a.gathered + w.used ≡ length (take (a.gathered + w.used) g')
      whole_length = sym (length-take-le (a.gathered + w.used) g' whole_fits)

      pub whole_at : (o' : List ℕ) (r : Answer) → w.head ≡ Whole
          → Done (upper.on_pdu (standing a) (take (a.gathered + w.used) g')) o w.used (length (take (a.gathered + w.used) g')) r o'
          → call r g' o' ≡ receive_of a g p o
      whole_at o' r q D = outcome Whole q o' r (rw (← whole_length) at D)
