-- DATA EXACTLY: the PDUs shown at DT-2 and AR-6 are, in order, the valid P-DATA-TFs whose last byte comes in Sta6 or Sta7.
-- Assumes nothing.
use Prim.Native.Nat.{ℕ, ◌≤◌, ◌<◌}
use mathlib.Core.Path.{◌≡◌, refl, sym, ap, ◌∙◌, subst}
use mathlib.Core.Bool.{Bool, true, false, cond, ◌&&◌, ◌||◌, beq, and-false}
use mathlib.Core.Option.{none, some}
use mathlib.Core.List.{List, map}
use native.Mathlib.Omega.{arith}
use native.Mathlib.Decide.{dec_lt}
use lib.Dec.{T, eqb}
use lib.ListN.{length}
use borrow.Author.Tests.{ne_eqb, eqb-true}
use Rattle.laws.proofs.Below.{all_below, below}
use Rattle.framing.specs.Runs.{Ran}
use Rattle.framing.specs.Framing.{Brought}
use Rattle.framing.specs.Framing.{Brought.pdu, Brought.over_length}
use Rattle.framing.specs.Host.{Entry, One, Item, HostedScript}
use Rattle.framing.specs.Reference as ref
use Rattle.framing.specs.Reference.{Reaction}
use Rattle.framing.specs.Taken as steps
use Rattle.framing.specs.Taken.{those}
use Rattle.framing.proofs.Steps.{exactly, shown_exactly}
use Rattle.judging.specs.Pdu.{kind_of}
use Rattle.table.specs.EventNames.{INVALID-RECEIVED}
use Rattle.table.specs.Table.{cell_of, is_received}
use Rattle.table.specs.Actions.{shows_of}
use Rattle.table.proofs.Right.{past_rows, past_columns}
use Rattle.table.proofs.Unfolded.{table_unfolded}
use Rattle.association.specs.Record.{Standing}
use Rattle.association.specs.Events.{Local, event_of, event_of_kind, number_of}
use Rattle.association.specs.Machine.{Seen, upper, local_cell, doing, on_event, on_local, request_refusal}
use Rattle.demand_2.proofs.Unbroken.{never}
use Rattle.demand_2.proofs.Moves.{beq_eq, each_kind}
use Rattle.demand_3.specs.Calls.{Lent, fresh, machine, fresh_box, wanted}
use Rattle.demand_3.specs.Data.{indicates, indicated, takes_data, data_at, valid_data, data_in}
use Rattle.demand_3.proofs.Demand.{any_host}

-- ---- the cells that indicate data, by one computed test

abbrev right_at : ℕ → ℕ → Bool
right_at e s = beq (indicates (cell_of e s)) (eqb e 10 && takes_data s)

tested : T (all_below 20 (λ e. all_below 14 (λ s. right_at e s)))
unfolding table_unfolded indicates takes_data
tested = tt

not_there : (s : ℕ) → 14 ≤ s → takes_data s ≡ false
unfolding takes_data
not_there s h = rw (ne_eqb s 6 (λ z. omega arith), ne_eqb s 7 (λ z. omega arith))

right : (e s : ℕ) → indicates (cell_of e s) ≡ (eqb e 10 && takes_data s)
unfolding indicates
right e s = by (dec_lt e 20) (dec_lt s 14)
  where
    by : Dec (e < 20) → Dec (s < 14) → indicates (cell_of e s) ≡ (eqb e 10 && takes_data s)
    by (yes l) (yes m) = beq_eq _ _ (below 14 (λ s. right_at e s) (below 20 (λ e. all_below 14 (λ s. right_at e s)) tested e l) s m)
    by (yes l) (no m) = rw (past_columns e s (omega arith), not_there s (omega arith)) (sym (and-false (eqb e 10)))
    by (no l) d = rw (past_rows e s (omega arith), ne_eqb e 10 (λ z. omega arith))

-- its event is that of a valid P-DATA-TF
abbrev kind_right : ℕ → ℕ → Bool
kind_right k e = beq (eqb e 10) (eqb k 4)

kinds : T (all_below 8 (λ k. kind_right k (event_of_kind k)))
unfolding event_of_kind
kinds = tt

is_data : (k : ℕ) → eqb (event_of_kind k) 10 ≡ eqb k 4
is_data k = beq_eq _ _ (each_kind kind_right kinds (λ k h. rw (ne_eqb k 4 (λ z. omega arith)) tt) k)

-- ---- the premises of `exactly`

ten_received : is_received 10 ≡ true
unfolding table_unfolded
ten_received = refl

none_indicated : indicates 0 ≡ false
unfolding indicates
none_indicated = refl

right_event : (s : Standing) (v : Brought) → indicates (ref.react upper s v).told.action ≡ data_at s v
unfolding on_event doing event_of
right_event s (pdu p) = right (event_of_kind (kind_of p)) s.state ∙ ap (λ (b : Bool). b && takes_data s.state) (is_data (kind_of p))
right_event s over_length = right INVALID-RECEIVED s.state

-- no local event indicates data: the row of P-DATA-TF is a received one
quiet_local : (n s : ℕ) → indicates (local_cell n s) ≡ false
unfolding local_cell
quiet_local n s = by (is_received n) refl
  where
    ten : eqb n 10 ≡ true → is_received n ≡ true
    ten e = rw (eqb-true n 10 e) ten_received

    inner : (b : Bool) → eqb n 10 ≡ b → is_received n ≡ false → indicates (cell_of n s) ≡ false
    inner true e q = never (is_received n) q (ten e)
    inner false e q = right n s ∙ rw e

    by : (b : Bool) → is_received n ≡ b → indicates (cond b 0 (cell_of n s)) ≡ false
    by true q = none_indicated
    by false q = inner (eqb n 10) refl q

never_by : (s : Standing) (e : Local) (x : Reaction Standing Seen) (b : Bool) → cond b (some (on_local s e)) none ≡ some x → indicates x.told.action ≡ false
unfolding on_local doing
never_by s e x true q =
    let p : on_local s e ≡ x = cc in
    subst (λ (y : Reaction Standing Seen). indicates y.told.action ≡ false) p (quiet_local (number_of e) s.state)
never_by s e x false q = let z : ◌≡◌ {A = ℕ} 0 1 = cc in absurd (omega arith)

-- DT-2 and AR-6 show their PDU
shows_at : (action : ℕ) (b : Bool) → indicates action ≡ true → shows_of action b ≡ true
unfolding table_unfolded indicates
shows_at action b h = by (eqb action 10) refl (eqb action 16) refl h
  where
    by : (x : Bool) → eqb action 10 ≡ x → (y : Bool) → eqb action 16 ≡ y → (x || y) ≡ true → shows_of action b ≡ true
    by true p y q h = rw (eqb-true action 10 p)
    by false p true q h = rw (eqb-true action 16 q)
    by false p false q h = never false refl h

shows_event : (s : Standing) (v : Brought) → data_at s v ≡ true → (ref.react upper s v).shows ≡ true
unfolding on_event doing
shows_event s (pdu p) h = shows_at _ _ (right_event s (pdu p) ∙ h)
shows_event s over_length h = shows_at _ _ (right_event s over_length ∙ h)

-- ---- the whole run

abbrev shown_at : List (Entry Seen) → List (List ℕ)
shown_at l = map (λ (x : Entry Seen). x.shown) (those indicated l)

module _ (is : List (Item One Local)) where
  -- in the reference
  wanted_entries : those indicated (wanted is).trace ≡ map (steps.entry_at upper) (data_in is)
  wanted_entries =
      exactly upper indicated valid_data (λ t. right_event t.met t.came) (λ s e x q. never_by s e x (eqb (request_refusal s e 16390) 0) q) is fresh_box

  wanted_data : shown_at (wanted is).trace ≡ map (steps.pdu_at upper) (data_in is)
  wanted_data =
      shown_exactly upper indicated valid_data (λ t. right_event t.met t.came) (λ s e x q. never_by s e x (eqb (request_refusal s e 16390) 0) q)
      (λ t h. shows_event t.met t.came h) is fresh_box

  -- and of the machine, whatever host gives the script
  module _ (g o : List ℕ) (hg : 16390 ≤ length g) (ho : 16390 ≤ length o) {y : Ran (Entry Seen) Lent} (w : HostedScript machine (fresh g o) is y) where
    same_trace : y.trace ≡ (wanted is).trace
    same_trace = ap (λ (x : Ran (Entry Seen) (ref.Box upper)). x.trace) (any_host is g o hg ho w)

    -- the entries with DT-2 or AR-6 are theirs
    pub data_entries : those indicated y.trace ≡ map (steps.entry_at upper) (data_in is)
    data_entries = ap (those indicated) same_trace ∙ wanted_entries

    -- and what is shown there are the PDUs themselves
    pub data_exactly : map (λ (x : Entry Seen). x.shown) (those indicated y.trace) ≡ map (steps.pdu_at upper) (data_in is)
    data_exactly = ap shown_at same_trace ∙ wanted_data
