-- What holds of every call: its refusal is the definition's, and a refused call changes nothing; after an answered one the ARTIM mark is "state is 2 or 13", and the
-- record is not broken over the gather buffer as left.
-- Assumes nothing.
use Prim.Native.Nat.{ℕ}
use mathlib.Core.Path.{◌≡◌, refl, sym, ap, ◌∙◌}
use mathlib.Core.Bool.{false}
use mathlib.Core.List.{List}
use lib.ListN.{length}
use Rattle.association.specs.declared.Assoc.{Assoc}
use Rattle.association.specs.Record.{timed, broken_over}
use Rattle.association.specs.Refusals.{refused_with}
use Rattle.association.specs.Events.{Local}
use Rattle.association.specs.Calls.{Call, call, heard, receive_refusal, receive_of, local_refusal, local_of}
use Rattle.demand_2.proofs.Unbroken.{Fine, fine, fine_over}
use Rattle.demand_2.proofs.Moved.{local_fine}
use Rattle.demand_2.proofs.Answered.{receive_refused, received, receive_either, receive_fine, local_refused, local_done, local_either, takes_of}

-- what a call leaves is not broken
abbrev Unbroken : Call → Type 0
Unbroken c = broken_over c.answer.assoc c.gather ≡ false

-- ---- receiving
module _ (a : Assoc) (g p o : List ℕ) where
  pub receive_refusal_so : (receive_of a g p o).answer.told.refusal ≡ receive_refusal a g o
  unfolding heard refused_with
  receive_refusal_so = receive_either a g p o (λ (c : Call). c.answer.told.refusal ≡ receive_refusal a g o) (λ h. sym h) refl

  -- "record, gather buffer and output stay unchanged"
  pub receive_unchanged : ((receive_of a g p o).answer.told.refusal ≡ 0 → ⊥)
      → receive_of a g p o ≡ call (refused_with (receive_of a g p o).answer.told.refusal a) g o
  receive_unchanged n = receive_refused a g p o (λ e. n (receive_refusal_so ∙ e)) ∙ ap (λ (k : ℕ). call (refused_with k a) g o) (sym receive_refusal_so)

  module _ (h : (receive_of a g p o).answer.told.refusal ≡ 0) where
    left_fine : Fine (receive_of a g p o).answer.assoc (receive_of a g p o).gather 16390
    left_fine = receive_fine a g p o (sym receive_refusal_so ∙ h)

    pub receive_artim : (receive_of a g p o).answer.assoc.artim ≡ timed (receive_of a g p o).answer.assoc.state
    receive_artim = left_fine.whole.sound.timed

    pub receive_unbroken : broken_over (receive_of a g p o).answer.assoc (receive_of a g p o).gather ≡ false
    receive_unbroken = fine_over _ _ 16390 left_fine

  pub receive_keeps_unbroken : broken_over a g ≡ false → broken_over (receive_of a g p o).answer.assoc (receive_of a g p o).gather ≡ false
  unfolding refused_with
  receive_keeps_unbroken s = receive_either a g p o Unbroken (λ h. rw (received a g p o h) at (receive_unbroken (receive_refusal_so ∙ h))) s

-- ---- a local event
module _ (a : Assoc) (g o : List ℕ) (e : Local) where
  pub local_refusal_so : (local_of a g o e).answer.told.refusal ≡ local_refusal a g o e
  unfolding refused_with
  local_refusal_so = local_either a g o e (λ (c : Call). c.answer.told.refusal ≡ local_refusal a g o e) (λ h. sym h) refl

  -- it uses no bytes
  pub local_used : (local_of a g o e).answer.told.used ≡ 0
  unfolding refused_with
  local_used = local_either a g o e (λ (c : Call). c.answer.told.used ≡ 0) (λ h. refl) refl

  pub local_unchanged : ((local_of a g o e).answer.told.refusal ≡ 0 → ⊥) → local_of a g o e ≡ call (refused_with (local_of a g o e).answer.told.refusal a) g o
  local_unchanged n = local_refused a g o e (λ q. n (local_refusal_so ∙ q)) ∙ ap (λ (k : ℕ). call (refused_with k a) g o) (sym local_refusal_so)

  module _ (h : (local_of a g o e).answer.told.refusal ≡ 0) where
    given_fine : Fine (local_of a g o e).answer.assoc (local_of a g o e).gather (local_of a g o e).answer.assoc.gathered
    given_fine =
        let z = sym local_refusal_so ∙ h in
        let t = takes_of a g o e z in
        rw (local_done a g o e z) (local_fine a g e (length o) (fine a g a.gathered t.record_fine) t.request_fine)

    pub local_artim : (local_of a g o e).answer.assoc.artim ≡ timed (local_of a g o e).answer.assoc.state
    local_artim = given_fine.whole.sound.timed

    pub local_unbroken : broken_over (local_of a g o e).answer.assoc (local_of a g o e).gather ≡ false
    local_unbroken = fine_over _ _ _ given_fine

  pub local_keeps_unbroken : broken_over a g ≡ false → broken_over (local_of a g o e).answer.assoc (local_of a g o e).gather ≡ false
  unfolding refused_with
  local_keeps_unbroken s = local_either a g o e Unbroken (λ h. rw (local_done a g o e h) at (local_unbroken (local_refusal_so ∙ h))) s
