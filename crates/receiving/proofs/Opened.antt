-- What receiving has that is not refused: room in both buffers, and gathered bytes that brought no event.
-- Assumes nothing.
use Prim.Native.Nat.{ℕ, ◌+◌, ◌≤◌, ◌<◌}
use mathlib.Core.Path.{◌≡◌, refl}
use mathlib.Core.Bool.{Bool, true, false, ◌&&◌, ◌||◌}
use mathlib.Core.List.{List}
use native.Mathlib.Omega.{arith}
use lib.Dec.{ltb, leb}
use lib.ListN.{length, take}
use lib.Seq.{length-take-le}
use borrow.Author.Rules.{rules}
use borrow.Author.Tests.{lt-ltb, le-ltb, ltb-false, leb-true, leb-false, ne_eqb}
use Rattle.numbers.specs.declared.refusals.Refusal.{Refusal}
use Rattle.numbers.specs.Refusals.{SHORT-OUTPUT, refusal_number}
use Rattle.numbers.proofs.NumberLaws.{refusal_some}
use Rattle.numbers.specs.Lengths.{BUFFER, LONGEST, TEN}
use Rattle.framing.specs.Framing.{frame, length_field, Frame.short}
use Rattle.framing.proofs.Framing.{frame_few, frame_part, length_take_field}
use Rattle.association.specs.declared.Assoc.{Assoc}
use Rattle.association.specs.Record.{stray_state, overfull, bad_length, clauses, broken}
use Rattle.association.specs.Refusals.{record_refusal}
use Rattle.association.specs.Calls.{receive_refusal}
use Rattle.association.proofs.OrderLaws.{passed, receive_steps, receive_passed}
use Rattle.receiving.specs.Private.Gathering.{RoomToGather}

-- ---- of alternatives none of which holds
left_not : (b c : Bool) → (b || c) ≡ false → b ≡ false
left_not true c e = e
left_not false c e = refl

right_not : (b c : Bool) → (b || c) ≡ false → c ≡ false
right_not true c e = let z : ◌≡◌ {A = ℕ} 0 1 = cc in absurd (omega arith)
right_not false c e = e

few_gathered : (a : Assoc) → broken a ≡ false → a.gathered ≤ 16389
unfolding broken clauses overfull
few_gathered a e = ltb-false 16389 a.gathered (left_not (ltb 16389 a.gathered) _ (left_not (overfull a) _ (right_not (stray_state a) _ e)))

-- 6's test of L says that the bytes gathered brought no event
quiet_of : (c : ℕ) (g : List ℕ) → c ≤ length g → bad_length c g ≡ false → frame LONGEST (take c g) ≡ short
unfolding bad_length
quiet_of c g h e = by (leb 6 c) refl e
  where
    n : length (take c g) ≡ c
    n = length-take-le c g h

    by : (b : Bool) → leb 6 c ≡ b → (b && (ltb LONGEST (length_field g) || leb (6 + length_field g) c)) ≡ false → frame LONGEST (take c g) ≡ short
    by true q e =
        let six : 6 ≤ c = leb-true 6 c q in
        let l : length_field g ≤ LONGEST = ltb-false _ _ (left_not (ltb LONGEST (length_field g)) _ e) in
        let m : c < 6 + length_field g = leb-false _ _ (right_not (ltb LONGEST (length_field g)) _ e) in
        let f : length_field (take c g) ≡ length_field g = length_take_field c g six in
        frame_part LONGEST (take c g) (omega (arith, n)) (omega arith) (omega (arith, n))
    by false q e = let few : c < 6 = leb-false 6 c q in frame_few LONGEST (take c g) (omega (arith, n))

-- ---- `receive_refusal`
module _ (a : Assoc) (g o : List ℕ) where
  pub receive_record : (e : Refusal) → refusal_number e ≡ record_refusal a g BUFFER → refusal_number e ≡ receive_refusal a g o
  receive_record e q = rw (receive_steps a g o, ← q, ne_eqb (refusal_number e) 0 (refusal_some e))

  module _ (z : 0 ≡ record_refusal a g BUFFER) where
    pub receive_short : length o < TEN → SHORT-OUTPUT ≡ receive_refusal a g o
    receive_short h = rw (receive_steps a g o, ← z, lt-ltb (length o) TEN h)

    pub receive_open : TEN ≤ length o → 0 ≡ receive_refusal a g o
    receive_open h = rw (receive_steps a g o, ← z, le-ltb (length o) TEN h)

pub ruleset receive_tests = (rules, receive_record, receive_short, receive_open)

-- ---- what is open to it
pub record Open (a : Assoc) (g o : List ℕ) : Type 0 where
  pub fit : RoomToGather g a.gathered
  pub ten : TEN ≤ length o

pub opened : (a : Assoc) (g o : List ℕ) → receive_refusal a g o ≡ 0 → Open a g o
opened a g o e =
    let p = receive_passed a g o e in
    let q = passed a g BUFFER p.0 in
    let w : a.gathered ≤ length g = omega (arith, few_gathered a q.whole, q.room) in
    record { fit = record { room = q.room; within = w; quiet = quiet_of a.gathered g w q.fits }; ten = p.1 }
