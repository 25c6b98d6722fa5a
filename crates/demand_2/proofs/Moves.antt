-- Where the filled cells of Table 9-10 lead: the ARTIM timer runs in Sta2 and Sta13; Sta4 is entered from Sta1 alone; a local event leads from Sta13 to Sta1;
-- over-length leads to Sta13. One computed test for each. And the events that bytes bring are those of the received rows.
-- Assumes nothing.
use Prim.Native.Nat.{ℕ, ◌≤◌, ◌<◌}
use mathlib.Core.Path.{◌≡◌, refl}
use mathlib.Core.Bool.{Bool, true, false, cond, not, ◌&&◌, beq}
use native.Mathlib.Omega.{arith}
use native.Mathlib.Decide.{dec_lt}
use lib.Dec.{T, eqb, ltb, eqb→eq}
use borrow.Author.Tests.{eq-eqb, ne_eqb, eqb-false, ltb-true}
use Rattle.laws.proofs.Booleans.{holds, T-left, T-right}
use Rattle.laws.proofs.Below.{all_below, below}
use Rattle.table.specs.EventNames.{INVALID-RECEIVED}
use Rattle.table.specs.Table.{cell_of, is_received}
use Rattle.table.specs.Actions.{next_of, artim_of}
use Rattle.table.proofs.Right.{filled, each_filled}
use Rattle.table.proofs.Unfolded.{table_unfolded}
use Rattle.association.specs.Record.{timed}
use Rattle.association.specs.Events.{event_of_kind}

pub beq_eq : (a b : Bool) → T (beq a b) → a ≡ b
beq_eq true true t = refl
beq_eq true false t = absurd t
beq_eq false true t = absurd t
beq_eq false false t = refl

pub not_held : (b : Bool) → T (not b) → b ≡ false
not_held true t = absurd t
not_held false t = refl

-- a test of two answers, whatever they are
abbrev pub both : (Bool → Bool) → Bool
both f = f true && f false

pub both_at : (f : Bool → Bool) → T (both f) → (b : Bool) → T (f b)
both_at f t true = T-left (f true) (f false) t
both_at f t false = T-right (f true) (f false) t

-- ---- the ARTIM timer

abbrev timing : ℕ → ℕ → Bool
timing e s = both (λ p. both (λ q. beq (artim_of (cell_of e s) p (timed s)) (timed (next_of (cell_of e s) p q))))

timings : T (filled timing)
unfolding table_unfolded timed
timings = tt

pub timer_runs : (e s : ℕ) → 0 < cell_of e s → (p q : Bool) → artim_of (cell_of e s) p (timed s) ≡ timed (next_of (cell_of e s) p q)
timer_runs e s h p q =
    beq_eq (artim_of (cell_of e s) p (timed s)) (timed (next_of (cell_of e s) p q))
    (both_at (λ q. beq (artim_of (cell_of e s) p (timed s)) (timed (next_of (cell_of e s) p q)))
    (both_at (λ p. both (λ q. beq (artim_of (cell_of e s) p (timed s)) (timed (next_of (cell_of e s) p q)))) (each_filled timing timings e s h) p) q)

-- ---- Sta4

abbrev not_four : ℕ → ℕ → Bool
not_four e s = cond (eqb s 1) true (both (λ q. both (λ p. not (eqb (next_of (cell_of e s) p q) 4))))

fours : T (filled not_four)
unfolding table_unfolded
fours = tt

pub not_4 : (e s : ℕ) → 0 < cell_of e s → (s ≡ 1 → ⊥) → (p q : Bool) → next_of (cell_of e s) p q ≡ 4 → ⊥
not_4 e s h n p q =
    let t : T (both (λ q. both (λ p. not (eqb (next_of (cell_of e s) p q) 4)))) = rw (ne_eqb s 1 n) at (each_filled not_four fours e s h) in
    eqb-false _ _ (not_held _
    (both_at (λ p. not (eqb (next_of (cell_of e s) p q) 4)) (both_at (λ q. both (λ p. not (eqb (next_of (cell_of e s) p q) 4))) t q) p))

-- ---- Sta13

abbrev away : ℕ → ℕ → Bool
away e s = cond (is_received e) true (cond (eqb s 13) (both (λ q. eqb (next_of (cell_of e s) false q) 1)) true)

aways : T (filled away)
unfolding table_unfolded
aways = tt

pub from_13 : (e s : ℕ) → 0 < cell_of e s → is_received e ≡ false → s ≡ 13 → (q : Bool) → next_of (cell_of e s) false q ≡ 1
from_13 e s h r n q =
    let t : T (both (λ q. eqb (next_of (cell_of e s) false q) 1)) = rw (r, eq-eqb s 13 n) at (each_filled away aways e s h) in
    eqb→eq _ _ (both_at (λ q. eqb (next_of (cell_of e s) false q) 1) t q)

abbrev closing : ℕ → ℕ → Bool
closing e s = cond (eqb e INVALID-RECEIVED) (both (λ q. eqb (next_of (cell_of e s) false q) 13)) true

closings : T (filled closing)
unfolding table_unfolded
closings = tt

pub to_13 : (s : ℕ) → 0 < cell_of INVALID-RECEIVED s → (q : Bool) → next_of (cell_of INVALID-RECEIVED s) false q ≡ 13
to_13 s h q = eqb→eq _ _ (both_at (λ q. eqb (next_of (cell_of INVALID-RECEIVED s) false q) 13) (each_filled closing closings INVALID-RECEIVED s h) q)

-- ---- the events that bytes bring

pub record Received (e : ℕ) : Type 0 where
  pub row : is_received e ≡ true
  pub low : 1 ≤ e
  pub high : e < 20

-- any other than the seven kinds is invalid
pub other_kind : (k : ℕ) → 8 ≤ k → event_of_kind k ≡ INVALID-RECEIVED
unfolding event_of_kind
other_kind k h =
    let n : (i : ℕ) → i < 8 → eqb k i ≡ false = λ i l. ne_eqb k i (λ z. omega arith) in
    rw (n 1 (omega arith), n 2 (omega arith), n 3 (omega arith), n 4 (omega arith), n 5 (omega arith), n 6 (omega arith), n 7 (omega arith))

-- a test of a kind and its event, of the seven and of the others
pub each_kind : (f : ℕ → ℕ → Bool) → T (all_below 8 (λ k. f k (event_of_kind k))) → ((k : ℕ) → 8 ≤ k → T (f k INVALID-RECEIVED)) → (k : ℕ) → T (f k (event_of_kind k))
each_kind f t u k = by (dec_lt k 8)
  where
    by : Dec (k < 8) → T (f k (event_of_kind k))
    by (yes l) = below 8 (λ k. f k (event_of_kind k)) t k l
    by (no l) = let h : 8 ≤ k = omega arith in rw (other_kind k h) (u k h)

abbrev brought : ℕ → ℕ → Bool
brought k e = is_received e && (ltb 0 e && ltb e 20)

broughts : T (all_below 8 (λ k. brought k (event_of_kind k)))
unfolding table_unfolded event_of_kind
broughts = tt

pub received_by : (k : ℕ) → Received (event_of_kind k)
unfolding table_unfolded
received_by k =
    let t = each_kind brought broughts (λ k h. tt) k in
    let e = event_of_kind k in
    let u = T-right (is_received e) (ltb 0 e && ltb e 20) t in
    record {
      row = holds _ (T-left (is_received e) _ t);
      low = ltb-true 0 e (holds _ (T-left (ltb 0 e) _ u));
      high = ltb-true e 20 (holds _ (T-right (ltb 0 e) _ u));
    }
