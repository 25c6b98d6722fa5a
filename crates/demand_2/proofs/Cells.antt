-- DEMAND 2: each event that is not refused takes the action and the next state of its cell; at a blank cell a local event is refused and received bytes are
-- dropped, as they are where the association is deaf. For every record, both buffers, every piece and every local event.
-- Assumes nothing.
use Prim.Native.Nat.{ℕ, ◌+◌, ◌-◌, ◌≤◌, ◌<◌}
use mathlib.Core.Path.{◌≡◌, refl, sym, ap, ◌∙◌}
use mathlib.Core.Bool.{Bool, true, false, cond, and-false, or-true}
use mathlib.Core.List.{List, [], ◌++◌, append-nil}
use native.Mathlib.Omega.{arith}
use lib.Dec.{eqb}
use lib.ListN.{length, take}
use lib.Seq.{length-take-le}
use Rattle.octets.specs.Put.{put}
use Rattle.framing.specs.Framing.{Frame, frame, Frame.short, Frame.long, Frame.whole, Brought, Brought.pdu, Brought.over_length}
use Rattle.framing.specs.Engine as eng
use Rattle.framing.proofs.Framing.{Begins, Begins.at_end, begins}
use Rattle.framing.proofs.Buffers.{inside, before, take_put}
use Rattle.framing.proofs.Receive.{receive_dropped, receive_long, receive_whole}
use Rattle.judging.specs.Pdu.{kind_of}
use Rattle.judging.proofs.KindLaws.{acceptable_none}
use Rattle.table.specs.ActionNames.{AE-6}
use Rattle.table.specs.EventNames.{INVALID-RECEIVED}
use Rattle.table.specs.Table.{cell_of, is_received}
use Rattle.table.specs.Actions.{next_of}
use Rattle.table.proofs.Right.{hears, heard_filled, dropped_blank, inside as in_table, no_event as no_cell}
use Rattle.association.specs.declared.Assoc.{Assoc}
use Rattle.association.specs.Record.{Standing, standing, dropping}
use Rattle.association.specs.Refusals.{record_refusal, refused_with}
use Rattle.association.specs.Events.{Local, event_of, event_of_kind, number_of}
use Rattle.association.specs.Performing.{brings, accepts_at, after, leaving}
use Rattle.association.specs.Machine.{upper, doing, on_event, on_local, local_cell}
use Rattle.association.specs.Calls.{call, lent_of, heard, receive_refusal, receive_of, local_refusal, local_of}
use Rattle.association.proofs.OrderLaws.{local_steps, request_steps}
use Rattle.demand_2.specs.Cells.{calls, gathered_with, event_by, pdu_by, event_in, pdu_in, Did, Demand2}
use Rattle.demand_2.specs.Cells as cells
use Rattle.demand_2.proofs.Unbroken.{never, Sound}
use Rattle.demand_2.proofs.Moves.{Received, received_by}
use Rattle.demand_2.proofs.Sound.{entering_state}
use Rattle.demand_2.proofs.Given.{cell_own}
use Rattle.demand_2.proofs.Ready.{Receives, receives_of}
use Rattle.demand_2.proofs.Answered.{received, local_done, takes_of}

-- ---- the PDU in the gather buffer is the one in the bytes
pdu_same : (g p : List ℕ) (c n : ℕ) → c ≤ length g → c ≤ n → n ≤ length (take c g ++ p) → take n (put g c (take (n - c) p)) ≡ take n (take c g ++ p)
pdu_same g p c n w l h =
    let lg : length (take c g) ≡ c = length-take-le c g w in
    let k : length (take (n - c) p) ≡ n - c = length-take-le (n - c) p (inside (take c g) p [] c n lg l h) in
    let s : n ≡ c + length (take (n - c) p) = omega arith in
    let b : take n ((take c g ++ p) ++ []) ≡ take c g ++ take (n - c) p = before (take c g) p [] c n lg l h in
    ap (λ (j : ℕ). take j (put g c (take (n - c) p))) s ∙ (take_put g c (take (n - c) p) w ∙ sym (rw (append-nil (take c g ++ p)) at b))

-- ---- bytes bring the event

long_received : Received INVALID-RECEIVED
unfolding event_of_kind
long_received = received_by 0

-- nothing is accepted where no PDU came
accepts_none : (act : ℕ) → accepts_at act [] ≡ false
unfolding accepts_at
accepts_none act = rw acceptable_none (and-false (eqb act AE-6))

-- what the engine did at an event is what the call tells
event_did : (event : ℕ) (s : Standing) (v : Brought) (u n k : ℕ) (l : eng.EngineState upper)
    → let act = cell_of event s.state in Did (heard (eng.acts upper u (on_event event s v) n k l)) act (next_of act (brings act s v).accepts s.requestor)
unfolding heard on_event doing after
event_did event s v u n k l = record { answered = refl; action = refl; state = entering_state _ }

module _ (a : Assoc) (g p o : List ℕ) (h : receive_refusal a g o ≡ 0) (d : dropping (standing a) ≡ false) where
  v : Receives a g o
  v = receives_of a g o h

  abbrev bytes : List ℕ
  bytes = gathered_with a g p

  heard_by : (f : Frame) → frame 16384 bytes ≡ f → Begins 16384 (take a.gathered g) p f
      → let act = cell_of (event_by (standing a) f bytes) a.state in
      0 < act → Did (receive_of a g p o) act (next_of act (accepts_at act (pdu_by f bytes)) a.requestor)
  unfolding event_of
  heard_by short e b c = absurd (omega (arith, no_cell 0 a.state (omega arith)))
  heard_by long e b c =
      rw (received a g p o h, receive_long upper (lent_of a g o) p d e, accepts_none (cell_of INVALID-RECEIVED a.state))
      (event_did INVALID-RECEIVED (standing a) over_length (6 - a.gathered) 0 0 (eng.gathering upper (lent_of a g o) (take (6 - a.gathered) p)))
  heard_by (whole n) e (at_end x y z w t) c =
      let lg : length (take a.gathered g) ≡ a.gathered = length-take-le a.gathered g v.within in
      let q : take n (put g a.gathered (take (n - a.gathered) p)) ≡ take n bytes = pdu_same g p a.gathered n v.within (omega arith) z in
      rw (received a g p o h, receive_whole upper (lent_of a g o) p d n e, q)
      (event_did (event_of (standing a) (take n bytes)) (standing a) (pdu (take n bytes)) (n - a.gathered) n 0 (eng.gathering upper (lent_of a g o) (take (n - a.gathered) p)))

-- the event is one that bytes bring
brought_by : (s : Standing) (f : Frame) (bytes : List ℕ) → 0 < cell_of (event_by s f bytes) s.state → Received (event_by s f bytes)
unfolding event_of
brought_by s short bytes c = absurd (omega (arith, no_cell 0 s.state (omega arith)))
brought_by s long bytes c = long_received
brought_by s (whole n) bytes c = received_by (kind_of (take n bytes))

-- bytes are heard where such a cell is filled
hears_by : (s : Standing) (e : ℕ) → Received e → 0 < cell_of e s.state → s.deaf ≡ false → dropping s ≡ false
unfolding dropping
hears_by s e r c d = by (eqb s.state 1) refl (eqb s.state 4) refl
  where
    blank : hears s.state ≡ false → dropping s ≡ false
    blank n =
        let i = in_table e s.state c in
        absurd (omega (arith, dropped_blank e s.state i.event_low i.event_high i.state_low i.state_high r.row n))

    by : (x : Bool) → eqb s.state 1 ≡ x → (y : Bool) → eqb s.state 4 ≡ y → dropping s ≡ false
    by true p y q = blank (rw p)
    by false p true q = blank (rw (p, q))
    by false p false q = rw (p, q) d

brought_at : (a : Assoc) (g p o : List ℕ) → receive_refusal a g o ≡ 0 → a.deaf ≡ false
    → let act = cell_of (event_in a g p) a.state in 0 < act → Did (receive_of a g p o) act (next_of act (accepts_at act (pdu_in a g p)) a.requestor)
unfolding event_in pdu_in
brought_at a g p o h d c =
    let f = frame 16384 (gathered_with a g p) in
    let r = brought_by (standing a) f (gathered_with a g p) c in
    heard_by a g p o h (hears_by (standing a) (event_by (standing a) f (gathered_with a g p)) r c d) f refl (begins 16384 (take a.gathered g) p (receives_of a g o h).quiet) c

-- ---- a blank cell of a received PDU

drops_by : (s : Standing) (b : Bool) → hears s.state ≡ b → b ≡ false → dropping s ≡ true
unfolding dropping
drops_by s b h e = by (eqb s.state 1) refl (eqb s.state 4) refl
  where
    by : (x : Bool) → eqb s.state 1 ≡ x → (y : Bool) → eqb s.state 4 ≡ y → dropping s ≡ true
    by true p y q = rw p
    by false p true q = rw (p, q)
    by false p false q = never b e (sym h ∙ rw (p, q))

dropped_at : (a : Assoc) (g p o : List ℕ) → receive_refusal a g o ≡ 0 → dropping (standing a) ≡ true → receive_of a g p o ≡ cells.uses_all a g p o
unfolding heard
dropped_at a g p o h d = received a g p o h ∙ ap heard (receive_dropped upper (lent_of a g o) p d)

dropped_blank_at : (a : Assoc) (g p o : List ℕ) (e : ℕ) → 1 ≤ e → e ≤ 19 → receive_refusal a g o ≡ 0 → is_received e ≡ true → cell_of e a.state ≡ 0
    → receive_of a g p o ≡ cells.uses_all a g p o
dropped_blank_at a g p o e e₁ e₂ h r c = dropped_at a g p o h (by (hears a.state) refl)
  where
    S : Sound (standing a)
    S = (receives_of a g o h).fine_record.whole.sound

    by : (b : Bool) → hears a.state ≡ b → dropping (standing a) ≡ true
    by true q = absurd (omega (arith, heard_filled e a.state e₁ (omega arith) S.low S.high r q))
    by false q = drops_by (standing a) false q refl

-- ---- the host gives the event

blank_cell : (n s : ℕ) → cell_of n s ≡ 0 → local_cell n s ≡ 0
unfolding local_cell
blank_cell n s c = by (is_received n)
  where
    by : (b : Bool) → cond b 0 (cell_of n s) ≡ 0
    by true = refl
    by false = c

module _ (a : Assoc) (g o : List ℕ) (e : Local) where
  given_at : local_refusal a g o e ≡ 0 → let act = cell_of (number_of e) a.state in Did (local_of a g o e) act (next_of act false a.requestor)
  unfolding on_local doing after leaving
  given_at h =
      let c = cell_own (standing a) e (length o) (takes_of a g o e h).request_fine in
      rw (local_done a g o e h)
      (record { answered = refl; action = c.same; state = entering_state _ ∙ ap (λ (n : ℕ). next_of n false a.requestor) c.same })

  blank_at : record_refusal a g a.gathered ≡ 0 → cell_of (number_of e) a.state ≡ 0 → local_of a g o e ≡ call (refused_with 1 a) g o
  unfolding local_of
  blank_at h c =
      let z : local_cell (number_of e) a.state ≡ 0 = blank_cell (number_of e) a.state c in
      rw (local_steps a g o e, h, request_steps (standing a) e (length o), z)

-- ---- a deaf association
deaf_drops : (s : Standing) → s.deaf ≡ true → dropping s ≡ true
unfolding dropping
deaf_drops s d = rw (d, or-true (eqb s.state 4)) (or-true (eqb s.state 1))

-- ---- the 247 cells, and the deaf association
pub demand_2 : Demand2 calls
demand_2 =
    record {
      cells = λ e s e₁ e₂ s₁ s₂.
          record {
            brought = λ a g p o q h d v c.
                let w : event_in a g p ≡ e = v in
                let c' : 0 < cell_of (event_in a g p) a.state = rw (v, q) c in
                rw (← q, ← w) (brought_at a g p o h d c');
            dropped = λ a g p o q h r v c. dropped_blank_at a g p o e e₁ e₂ h r (rw q c);
            given = λ a g o l q h v. rw (← q, ← v) (given_at a g o l h);
            refused = λ a g o l q h v c. blank_at a g o l h (rw (v, q) c);
          };
      deaf = λ a g p o h d. dropped_at a g p o h (deaf_drops (standing a) d);
    }
