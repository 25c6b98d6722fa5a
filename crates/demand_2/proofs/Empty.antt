-- An empty piece that isn't refused does nothing.
-- Assumes nothing.
use Prim.Native.Nat.{ℕ, ◌+◌}
use mathlib.Core.Path.{◌≡◌, refl, sym, ap, ◌∙◌}
use mathlib.Core.Bool.{Bool, true, false}
use mathlib.Core.List.{List, [], append-nil}
use native.Mathlib.Omega.{arith}
use lib.ListN.{take}
use Rattle.octets.proofs.PutLaws.{put_none}
use Rattle.framing.specs.Framing.{frame, Frame.short}
use Rattle.framing.specs.Engine as eng
use Rattle.framing.proofs.Receive.{receive_dropped, receive_short}
use Rattle.association.specs.declared.Assoc.{Assoc}
use Rattle.association.specs.Record.{standing, dropping}
use Rattle.association.specs.Machine.{upper}
use Rattle.association.specs.Calls.{lent_of, heard, receive_refusal}
use Rattle.demand_2.specs.Cells.{calls, gathered_with}
use Rattle.demand_2.proofs.Ready.{receives_of}
use Rattle.demand_2.proofs.Answered.{received}
use Rattle.demand_2.proofs.Calls.{receive_refusal_so}
use Rattle.demand_2.specs.Empty.{EmptyPiece}

module _ (a : Assoc) (g o : List ℕ) (h : receive_refusal a g o ≡ 0) where
  as_lent : eng.receive upper (lent_of a g o) [] ≡ eng.quiet upper 0 (lent_of a g o)
  as_lent = by (dropping (standing a)) refl
    where
      by : (b : Bool) → dropping (standing a) ≡ b → eng.receive upper (lent_of a g o) [] ≡ eng.quiet upper 0 (lent_of a g o)
      by true d = receive_dropped upper (lent_of a g o) [] d
      by false d =
          let s : frame 16384 (gathered_with a g []) ≡ short = ap (frame 16384) (append-nil (take a.gathered g)) ∙ (receives_of a g o h).quiet in
          let n : a.gathered + 0 ≡ a.gathered = omega arith in
          receive_short upper (lent_of a g o) [] d s
          ∙ λ i. eng.quiet upper 0 (record { state = standing a; count = n i; gather = put_none g a.gathered i; out = o })

pub empty_piece : EmptyPiece calls
unfolding heard
empty_piece a g o e = let h = sym (receive_refusal_so a g [] o) ∙ e in received a g [] o h ∙ ap heard (as_lent a g o h)
