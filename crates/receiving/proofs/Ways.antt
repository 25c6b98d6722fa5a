-- The ways of a call on a piece: what it answers and leaves, an equation for each.
-- Assumes nothing.
use Prim.Native.Nat.{ℕ, ◌+◌, ◌-◌}
use mathlib.Core.Path.{◌≡◌, sym, ap, ◌∙◌}
use mathlib.Core.Bool.{true, false}
use mathlib.Core.List.{List, ◌++◌}
use lib.ListN.{length, take}
use borrow.Author.Tests.{eq-eqb, ne_eqb}
use Rattle.numbers.specs.Lengths.{HEADER, LONGEST}
use Rattle.octets.specs.Put.{put}
use Rattle.framing.specs.Framing.{frame, Frame.short, Frame.long, Frame.whole}
use Rattle.framing.specs.Reference.{Reaction}
use Rattle.framing.specs.Engine as eng
use Rattle.framing.proofs.Receive.{receive_dropped, receive_short, receive_long, receive_whole}
use Rattle.association.specs.declared.Assoc.{Assoc}
use Rattle.association.specs.declared.Answer.{Answer}
use Rattle.association.specs.Record.{Standing, standing, dropping}
use Rattle.association.specs.Refusals.{refused_with}
use Rattle.association.specs.Machine.{Seen, upper}
use Rattle.association.specs.Calls.{call, lent_of, heard, receive_refusal, receive_of}
use Rattle.receiving.specs.Private.Reactions.{tell_of, Done, quiet_of}

module _ (a : Assoc) (g p o : List ℕ) where
  pub receive_refused : (receive_refusal a g o ≡ 0 → ⊥) → receive_of a g p o ≡ call (refused_with (receive_refusal a g o) a) g o
  unfolding receive_of
  receive_refused n = rw (ne_eqb (receive_refusal a g o) 0 n)

  module _ (z : receive_refusal a g o ≡ 0) where
    went : receive_of a g p o ≡ heard (eng.receive upper (lent_of a g o) p)
    unfolding receive_of
    went = rw (eq-eqb _ _ z)

    -- bytes are used and dropped
    pub way_dropped : dropping (standing a) ≡ true → receive_of a g p o ≡ call (quiet_of a a.gathered (length p)) g o
    unfolding heard quiet_of
    way_dropped d = went ∙ ap heard (receive_dropped upper (lent_of a g o) p d)

    module _ (d : dropping (standing a) ≡ false) where
      -- no event: all of them are gathered
      pub way_short : frame LONGEST (take a.gathered g ++ p) ≡ short
          → receive_of a g p o ≡ call (quiet_of a (a.gathered + length p) (length p)) (put g a.gathered p) o
      unfolding heard quiet_of
      way_short f = went ∙ ap heard (receive_short upper (lent_of a g o) p d f)

      -- a reaction, with the bytes bs gathered
      told : (x : Reaction Standing Seen) (u n : ℕ) (r : Answer) (o' : List ℕ) → Done x o u n r o' → (bs : List ℕ)
          → call r (put g a.gathered bs) o' ≡ heard (eng.acts upper u x n 0 (eng.gathering upper (lent_of a g o) bs))
      unfolding tell_of heard
      told x u n r o' D bs = rw (D.answer, D.out)

      -- the sixth byte brings the invalid event
      pub way_long : (r : Answer) (o' : List ℕ) → Done (upper.on_long (standing a)) o (HEADER - a.gathered) 0 r o' → frame LONGEST (take a.gathered g ++ p) ≡ long
          → call r (put g a.gathered (take (HEADER - a.gathered) p)) o' ≡ receive_of a g p o
      way_long r o' D f = told _ _ _ r o' D _ ∙ sym (went ∙ ap heard (receive_long upper (lent_of a g o) p d f))

      -- the last byte of a PDU of n bytes brings its event
      abbrev left : ℕ → List ℕ
      left n = put g a.gathered (take (n - a.gathered) p)

      pub way_whole : (n : ℕ) (r : Answer) (o' : List ℕ) → Done (upper.on_pdu (standing a) (take n (left n))) o (n - a.gathered) n r o'
          → frame LONGEST (take a.gathered g ++ p) ≡ whole n → call r (left n) o' ≡ receive_of a g p o
      way_whole n r o' D f = told _ _ _ r o' D _ ∙ sym (went ∙ ap heard (receive_whole upper (lent_of a g o) p d n f))
