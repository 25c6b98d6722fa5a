-- Every action at a filled cell leads from a record that is not broken to one that is not.
-- Assumes nothing.
use Prim.Native.Nat.{ℕ, ◌≤◌, ◌<◌}
use mathlib.Core.Path.{◌≡◌, refl, ap, ◌∙◌}
use mathlib.Core.Bool.{Bool, true, false, cond, ◌||◌}
use mathlib.Core.List.{List}
use lib.Dec.{eqb}
use borrow.Author.Tests.{ne_eqb, eqb-false}
use Rattle.framing.specs.Framing.{Brought.pdu, Brought.over_length}
use Rattle.table.specs.EventNames.{INVALID-RECEIVED}
use Rattle.table.specs.Table.{cell_of, is_received}
use Rattle.table.specs.Actions.{next_of, artim_of}
use Rattle.table.proofs.Right.{hears, leads_to, heard_filled}
use Rattle.association.specs.declared.Brings.{Brings}
use Rattle.association.specs.Record.{Standing, moved, cleared, dropping, timed}
use Rattle.association.specs.Events.{event_of, event_of_kind}
use Rattle.association.specs.Performing.{brings_nothing, after, entering, requestor_after}
use Rattle.association.specs.Machine.{doing, on_event}
use Rattle.demand_2.proofs.Unbroken.{never, Sound}
use Rattle.demand_2.proofs.Moves.{received_by, timer_runs, not_4, from_13, to_13}

-- bytes are heard: not in Sta1, not in Sta4, not when deaf
pub record Hears (s : Standing) : Type 0 where
  pub state : hears s.state ≡ true
  pub hearing : s.deaf ≡ false
  pub not_1 : s.state ≡ 1 → ⊥

pub hears_of : (s : Standing) → dropping s ≡ false → Hears s
unfolding dropping
hears_of s e = by (eqb s.state 1) refl (eqb s.state 4) refl s.deaf refl e
  where
    by : (x : Bool) → eqb s.state 1 ≡ x → (y : Bool) → eqb s.state 4 ≡ y → (z : Bool) → s.deaf ≡ z → (x || (y || z)) ≡ false → Hears s
    by true p y q z r e = never true e refl
    by false p true q z r e = never true e refl
    by false p false q true r e = never true e refl
    by false p false q false r e = record { state = rw (p, q); hearing = r; not_1 = eqb-false _ _ p }

-- ---- entering a state
module _ (s : Standing) where
  pub entering_state : (entering s).state ≡ s.state
  unfolding entering
  entering_state = by (eqb s.state 1)
    where
      by : (b : Bool) → (cond b (cleared s) s).state ≡ s.state
      by true = refl
      by false = refl

  sound_entering : 1 ≤ s.state → s.state < 14 → s.artim ≡ timed s.state → (s.deaf ≡ true → (s.state ≡ 1 → ⊥) → s.state ≡ 13) → Sound (entering s)
  unfolding entering
  sound_entering low high t d = by (eqb s.state 1) refl
    where
      by : (b : Bool) → eqb s.state 1 ≡ b → Sound (cond b (cleared s) s)
      by true e = record { low = low; high = high; deaf = λ q. never false refl q; timed = t; unmarked = λ _. refl; unlimited = λ _. refl }
      by false e =
          let n : s.state ≡ 1 → ⊥ = eqb-false _ _ e in
          record { low = low; high = high; deaf = λ q. d q n; timed = t; unmarked = λ q. absurd (n q); unlimited = λ q. absurd (n q) }

-- ---- an action at a filled cell
module _ (s : Standing) (S : Sound s) (e : ℕ) (f : 0 < cell_of e s.state) where
  abbrev to : Bool → ℕ
  to accepts = next_of (cell_of e s.state) accepts s.requestor

  sound_after : (b : Brings) → (b.deaf ≡ true → (to b.accepts ≡ 1 → ⊥) → to b.accepts ≡ 13) → Sound (after (cell_of e s.state) s b)
  unfolding after
  sound_after b d =
      let l = leads_to e s.state f b.accepts s.requestor in
      let t : artim_of (cell_of e s.state) b.accepts s.artim ≡ timed (to b.accepts) =
      ap (artim_of (cell_of e s.state) b.accepts) S.timed ∙ timer_runs e s.state f b.accepts s.requestor in
      sound_entering (moved (to b.accepts) (artim_of (cell_of e s.state) b.accepts s.artim) (requestor_after (cell_of e s.state) s) b) l.0 l.1 t d

  -- Sta4 is entered from Sta1 alone: a local event leads to where bytes are dropped, other than Sta1, from such a place
  pub dropped_before : (eqb (to false) 4 || s.deaf) ≡ true → dropping s ≡ true
  dropped_before t = by (dropping s) refl
    where
      by : (b : Bool) → dropping s ≡ b → b ≡ true
      by true d = refl
      by false d =
          let h = hears_of s d in
          let q : (eqb (to false) 4 || s.deaf) ≡ false = rw (ne_eqb (to false) 4 (not_4 e s.state f h.not_1 false s.requestor)) h.hearing in
          never _ q t

  pub sound_keeps : is_received e ≡ false → Sound (after (cell_of e s.state) s (brings_nothing s))
  sound_keeps r = sound_after (brings_nothing s) (λ d n. absurd (n (from_13 e s.state f r (S.deaf d) s.requestor)))

-- ---- bytes that are heard
module _ (s : Standing) (S : Sound s) (h : dropping s ≡ false) where
  pub brought_filled : (k : ℕ) → 0 < cell_of (event_of_kind k) s.state
  brought_filled k =
      let r = received_by k in
      heard_filled (event_of_kind k) s.state r.low r.high S.low S.high r.row (hears_of s h).state

  pub long_filled : 0 < cell_of INVALID-RECEIVED s.state
  unfolding event_of_kind
  long_filled = brought_filled 0

  pub sound_pdu : (p : List ℕ) → Sound (on_event (event_of s p) s (pdu p)).next
  unfolding on_event doing event_of
  sound_pdu p = sound_after s S (event_of s p) (brought_filled _) _ (λ d. never s.deaf (hears_of s h).hearing d)

  pub sound_long : Sound (on_event INVALID-RECEIVED s over_length).next
  unfolding on_event doing
  sound_long = sound_after s S INVALID-RECEIVED long_filled _ (λ d n. to_13 s.state long_filled s.requestor)
