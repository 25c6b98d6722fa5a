-- What a record has that is not broken, clause by clause, and back; what a call has that refusals 6 and 3 let through.
-- Assumes nothing.
use Prim.Native.Nat.{ℕ, ◌+◌, ◌≤◌, ◌<◌}
use mathlib.Core.Path.{◌≡◌, refl, ap}
use mathlib.Core.Bool.{Bool, true, false, not, ◌&&◌, ◌||◌, beq}
use mathlib.Core.List.{List}
use native.Mathlib.Omega.{arith}
use lib.Dec.{eqb, ltb, leb}
use lib.ListN.{length, take}
use lib.Seq.{length-take-le}
use borrow.Author.Tests.{eq-eqb, eqb-true, le-ltb, ltb-false, lt-leb, leb-true, leb-false}
use Rattle.framing.specs.Framing.{frame, length_field, Frame.short}
use Rattle.framing.proofs.Framing.{frame_few, frame_part, length_take_field, no_event_yet}
use Rattle.association.specs.declared.Assoc.{Assoc}
use Rattle.association.specs.Record.{Standing, standing, idle, dropping, timed, stray_state, overfull, stray_deaf, mistimed, bad_length, marked_idle, clauses, broken, broken_over}
use Rattle.association.specs.Refusals.{record_refusal}
use Rattle.association.proofs.OrderLaws.{passed}

-- ---- truth values
pub never : {A : Type 0} (b : Bool) → b ≡ false → b ≡ true → A
never b p q = let z : ◌≡◌ {A = ℕ} 0 1 = cc in absurd (omega arith)

or_left : (b c : Bool) → (b || c) ≡ false → b ≡ false
or_left true c e = e
or_left false c e = refl

or_right : (b c : Bool) → (b || c) ≡ false → c ≡ false
or_right true c e = never true e refl
or_right false c e = e

or_both : (b c : Bool) → b ≡ false → c ≡ false → (b || c) ≡ false
or_both b c p q = rw (p, q)

and_right : (b c : Bool) → (b && c) ≡ false → b ≡ true → c ≡ false
and_right b c e t = rw t at e

and_by : (b c : Bool) → (b ≡ true → c ≡ false) → (b && c) ≡ false
and_by true c f = f refl
and_by false c f = refl

same_of : (b c : Bool) → not (beq b c) ≡ false → b ≡ c
same_of true true e = refl
same_of true false e = never true e refl
same_of false true e = never true e refl
same_of false false e = refl

same_not : (b c : Bool) → b ≡ c → not (beq b c) ≡ false
same_not true c e = rw (← e)
same_not false c e = rw (← e)

not_eqb : (x y : ℕ) → not (eqb x y) ≡ false → x ≡ y
not_eqb x y e = by (eqb x y) refl e
  where
    by : (b : Bool) → eqb x y ≡ b → not b ≡ false → x ≡ y
    by true q e = eqb-true x y q
    by false q e = never true e refl

-- ---- the record, but for the bytes gathered
pub record Sound (s : Standing) : Type 0 where
  pub low : 1 ≤ s.state
  pub high : s.state < 14
  pub deaf : s.deaf ≡ true → s.state ≡ 13
  pub timed : s.artim ≡ timed s.state
  pub unmarked : s.state ≡ 1 → s.requestor ≡ false
  pub unlimited : s.state ≡ 1 → s.peer ≡ 0

-- and with them
pub record Whole (a : Assoc) : Type 0 where
  pub sound : Sound (standing a)
  pub few : a.gathered ≤ 16389
  pub dropped : dropping (standing a) ≡ true → a.gathered ≡ 0

module _ (a : Assoc) where
  pub whole_of : broken a ≡ false → Whole a
  unfolding broken clauses stray_state overfull stray_deaf mistimed marked_idle
  whole_of e =
      let s : (ltb a.state 1 || ltb 13 a.state) ≡ false = or_left (stray_state a) _ e in
      let e₁ : (overfull a || (stray_deaf a || (mistimed a || (marked_idle a || false)))) ≡ false = or_right (stray_state a) _ e in
      let o : (ltb 16389 a.gathered || (dropping (standing a) && ltb 0 a.gathered)) ≡ false = or_left (overfull a) _ e₁ in
      let e₂ : (stray_deaf a || (mistimed a || (marked_idle a || false))) ≡ false = or_right (overfull a) _ e₁ in
      let d : (a.deaf && not (eqb a.state 13)) ≡ false = or_left (stray_deaf a) _ e₂ in
      let e₃ : (mistimed a || (marked_idle a || false)) ≡ false = or_right (stray_deaf a) _ e₂ in
      let m : (eqb a.state 1 && (a.requestor || not (eqb a.peer_max 0))) ≡ false = or_left (marked_idle a) false (or_right (mistimed a) _ e₃) in
      record {
        sound =
            record {
              low = ltb-false a.state 1 (or_left (ltb a.state 1) _ s);
              high = let h : a.state ≤ 13 = ltb-false 13 a.state (or_right (ltb a.state 1) _ s) in omega arith;
              deaf = λ t. not_eqb a.state 13 (and_right a.deaf _ d t);
              timed = same_of a.artim (timed a.state) (or_left (mistimed a) _ e₃);
              unmarked = λ t. or_left a.requestor _ (and_right (eqb a.state 1) _ m (eq-eqb _ _ t));
              unlimited = λ t. not_eqb a.peer_max 0 (or_right a.requestor _ (and_right (eqb a.state 1) _ m (eq-eqb _ _ t)));
            };
        few = ltb-false 16389 a.gathered (or_left (ltb 16389 a.gathered) _ o);
        dropped = λ t.
            let h : a.gathered ≤ 0 = ltb-false 0 a.gathered (and_right (dropping (standing a)) _ (or_right (ltb 16389 a.gathered) _ o) t) in omega arith;
      }

  pub not_broken : Whole a → broken a ≡ false
  unfolding broken clauses stray_state overfull stray_deaf mistimed marked_idle
  not_broken w =
      let s = w.sound in
      or_both (stray_state a) _ (or_both (ltb a.state 1) _ (le-ltb a.state 1 s.low) (le-ltb 13 a.state (omega (arith, s.high))))
      (or_both (overfull a) _
      (or_both (ltb 16389 a.gathered) _ (le-ltb 16389 a.gathered w.few)
      (and_by (dropping (standing a)) _ (λ t. le-ltb 0 a.gathered (omega (arith, w.dropped t)))))
      (or_both (stray_deaf a) _ (and_by a.deaf _ (λ t. ap not (eq-eqb a.state 13 (s.deaf t))))
      (or_both (mistimed a) _ (same_not a.artim (timed a.state) s.timed)
      (or_both (marked_idle a) false
      (and_by (eqb a.state 1) _
      (λ t. or_both a.requestor _ (s.unmarked (eqb-true _ _ t)) (ap not (eq-eqb a.peer_max 0 (s.unlimited (eqb-true _ _ t))))))
      refl))))

-- ---- the bytes gathered: 6's test of L says that they brought no event
module _ (c : ℕ) (g : List ℕ) (h : c ≤ length g) where
  n : length (take c g) ≡ c
  n = length-take-le c g h

  pub quiet_of : bad_length c g ≡ false → frame 16384 (take c g) ≡ short
  unfolding bad_length
  quiet_of e = by (leb 6 c) refl e
    where
      by : (b : Bool) → leb 6 c ≡ b → (b && (ltb 16384 (length_field g) || leb (6 + length_field g) c)) ≡ false → frame 16384 (take c g) ≡ short
      by true q e =
          let six : 6 ≤ c = leb-true 6 c q in
          let l : length_field g ≤ 16384 = ltb-false _ _ (or_left (ltb 16384 (length_field g)) _ e) in
          let m : c < 6 + length_field g = leb-false _ _ (or_right (ltb 16384 (length_field g)) _ e) in
          let f : length_field (take c g) ≡ length_field g = length_take_field c g six in
          frame_part 16384 (take c g) (omega (arith, n)) (omega arith) (omega (arith, n))
      by false q e = let few : c < 6 = leb-false 6 c q in frame_few 16384 (take c g) (omega (arith, n))

  pub good_length : frame 16384 (take c g) ≡ short → bad_length c g ≡ false
  unfolding bad_length
  good_length e =
      and_by (leb 6 c) _
      (λ t.
      let six : 6 ≤ c = leb-true 6 c t in
      let x = no_event_yet 16384 (take c g) e (omega (arith, n)) in
      let f : length_field (take c g) ≡ length_field g = length_take_field c g six in
      or_both (ltb 16384 (length_field g)) _ (le-ltb 16384 (length_field g) (omega (arith, x.0))) (lt-leb (6 + length_field g) c (omega (arith, x.1, n))))

-- ---- neither 6 nor 3
pub record Fine (a : Assoc) (g : List ℕ) (least : ℕ) : Type 0 where
  pub whole : Whole a
  pub room : least ≤ length g
  pub length_good : bad_length a.gathered g ≡ false

pub fine : (a : Assoc) (g : List ℕ) (least : ℕ) → record_refusal a g least ≡ 0 → Fine a g least
fine a g least e = let p = passed a g least e in record { whole = whole_of a p.whole; room = p.room; length_good = p.fits }

pub not_refused : (a : Assoc) (g : List ℕ) (least : ℕ) → Fine a g least → record_refusal a g least ≡ 0
unfolding record_refusal
not_refused a g least f = rw (not_broken a f.whole, le-ltb (length g) least f.room, f.length_good)

-- the whole of 6
pub fine_over : (a : Assoc) (g : List ℕ) (least : ℕ) → Fine a g least → broken_over a g ≡ false
unfolding broken_over
fine_over a g least F = rw (not_broken a F.whole, F.length_good)

-- a fresh association, whatever is lent
pub fine_idle : (g : List ℕ) (least : ℕ) → least ≤ length g → Fine idle g least
unfolding idle broken clauses stray_state overfull stray_deaf mistimed marked_idle timed dropping bad_length
fine_idle g least h = record { whole = whole_of idle refl; room = h; length_good = refl }
