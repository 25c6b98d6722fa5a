-- The test of the table: 247 cells, each the printed one and in the range of the actions, 124 of them blank and 123 filled; a received PDU's row is blank in
-- Sta1 and Sta4 alone; an action leads to a state. One computation, and what it says of each cell.
-- Assumes nothing.
use Prim.Native.Nat.{ℕ, zero, suc, ◌+◌, ◌-◌, ◌*◌, ◌≤◌, ◌<◌}
use mathlib.Core.Path.{◌≡◌, refl}
use mathlib.Core.Bool.{Bool, true, false, cond, not, ◌&&◌}
use mathlib.Core.List.{List, [], ◌∷◌, ◌++◌}
use native.Mathlib.Omega.{arith}
use native.Mathlib.Decide.{dec_lt}
use lib.Dec.{T, eqb, leb, eqb→eq, leb→le}
use lib.ListN.{length, get_or, drop, get_or-eq_default}
use borrow.Author.Rules.{rules}
use borrow.Author.Tests.{ne_eqb}
use Rattle.laws.proofs.Booleans.{T-left, T-right}
use Rattle.laws.proofs.Below.{all_below, below}
use Rattle.table.specs.Actions.{next_of}
use Rattle.table.specs.Table.{table, cell_of, is_received}
use Rattle.table.proofs.Grid.{grid, each}
use Rattle.table.proofs.Unfolded.{table_unfolded}

-- the cells, row behind row
abbrev flat : List (List ℕ) → List ℕ
flat [] = []
flat (r ∷ rs) = drop 1 r ++ flat rs

unfoldable pub cells : List ℕ
cells = flat table

abbrev blanks : List ℕ → ℕ
blanks [] = 0
blanks (x ∷ xs) = cond (eqb x 0) 1 0 + blanks xs

-- no bytes are heard in Sta1 and Sta4
abbrev pub hears : ℕ → Bool
hears s = not (eqb s 1) && not (eqb s 4)

abbrev is_state : ℕ → Bool
is_state s = leb 1 s && leb s 13

abbrev leads : ℕ → Bool
leads act = is_state (next_of act true true) && is_state (next_of act true false) && is_state (next_of act false true) && is_state (next_of act false false)

-- the cell of a flat list of cells is the printed one; in range; where a received PDU is heard it is filled; an action leads to a state
abbrev right_at : List ℕ → ℕ → ℕ → Bool
right_at l e s =
    eqb (get_or l ((e - 1) * 13 + (s - 1)) 0) (cell_of e s)
    && (leb (cell_of e s) 28
    && (cond (is_received e) (cond (hears s) (leb 1 (cell_of e s)) (eqb (cell_of e s) 0)) true
    && cond (eqb (cell_of e s) 0) true (leads (cell_of e s))))

abbrev right : List ℕ → Bool
right l = eqb (length l) 247 && (eqb (blanks l) 124 && grid (right_at l))

tested : T (right cells)
unfolding cells table_unfolded
tested = tt

-- ---- what it says of the whole
pub counted : (length cells ≡ 247) × ((blanks cells ≡ 124) × (length cells - blanks cells ≡ 123))
counted =
    let n : length cells ≡ 247 = eqb→eq _ _ (T-left (eqb (length cells) 247) _ tested) in
    let b : blanks cells ≡ 124 = eqb→eq _ _ (T-left (eqb (blanks cells) 124) _ (T-right (eqb (length cells) 247) _ tested)) in
    (n, (b, rw (n, b)))

-- ---- outside the table there is no action
wide : T (all_below 20 (λ e. leb (length (get_or table e [])) 14))
unfolding table
wide = tt

rows : T (eqb (length table) 20)
unfolding table
rows = tt

pub past_rows : (e s : ℕ) → 19 < e → cell_of e s ≡ 0
unfolding cell_of
past_rows e s h = rw (get_or-eq_default table [] {n = e} (omega (arith, eqb→eq (length table) 20 rows)))

pub past_columns : (e s : ℕ) → 13 < s → cell_of e s ≡ 0
unfolding cell_of
past_columns e s h = by (dec_lt e 20)
  where
    by : Dec (e < 20) → cell_of e s ≡ 0
    by (yes l) =
        get_or-eq_default (get_or table e []) 0 (omega (arith, leb→le (length (get_or table e [])) 14 (below 20 (λ e. leb (length (get_or table e [])) 14) wide e l)))
    by (no l) = past_rows e s (omega arith)

pub no_event : (e s : ℕ) → e < 1 → cell_of e s ≡ 0
unfolding cell_of table
no_event zero s h = refl
no_event (suc e) s h = absurd (omega arith)

firsts : T (all_below 20 (λ e. eqb (cell_of e 0) 0))
unfolding cell_of table
firsts = tt

pub no_state : (e s : ℕ) → s < 1 → cell_of e s ≡ 0
no_state e (suc s) h = absurd (omega arith)
no_state e zero h = by (dec_lt e 20)
  where
    by : Dec (e < 20) → cell_of e zero ≡ 0
    by (yes l) = eqb→eq _ _ (below 20 (λ e. eqb (cell_of e 0) 0) firsts e l)
    by (no l) = past_rows e zero (omega arith)

-- a filled cell is that of an event in a state
pub record Inside (e s : ℕ) : Type 0 where
  pub event_low : 1 ≤ e
  pub event_high : e < 20
  pub state_low : 1 ≤ s
  pub state_high : s < 14

pub inside : (e s : ℕ) → 0 < cell_of e s → Inside e s
inside e s f = by (dec_lt e 1) (dec_lt 19 e) (dec_lt s 1) (dec_lt 13 s)
  where
    by : Dec (e < 1) → Dec (19 < e) → Dec (s < 1) → Dec (13 < s) → Inside e s
    by (yes l) b c d = absurd (omega (arith, no_event e s l))
    by (no l) (yes m) c d = absurd (omega (arith, past_rows e s m))
    by (no l) (no m) (yes n) d = absurd (omega (arith, no_state e s n))
    by (no l) (no m) (no n) (yes o) = absurd (omega (arith, past_columns e s o))
    by (no l) (no m) (no n) (no o) =
        record { event_low = omega arith; event_high = omega arith; state_low = omega arith; state_high = omega arith }

-- a test of every filled cell
abbrev pub filled : (ℕ → ℕ → Bool) → Bool
filled f = grid (λ e s. cond (eqb (cell_of e s) 0) true (f e s))

pub each_filled : (f : ℕ → ℕ → Bool) → T (filled f) → (e s : ℕ) → 0 < cell_of e s → T (f e s)
each_filled f t e s h =
    let i : Inside e s = inside e s h in
    let u : T (cond (eqb (cell_of e s) 0) true (f e s)) =
    each (λ e s. cond (eqb (cell_of e s) 0) true (f e s)) t e s i.event_low i.event_high i.state_low i.state_high in
    rw (ne_eqb (cell_of e s) 0 (λ z. omega arith)) at u

-- ---- what it says of each cell
module _ (e s : ℕ) (e₁ : 1 ≤ e) (e₂ : e < 20) (s₁ : 1 ≤ s) (s₂ : s < 14) where
  at : T (right_at cells e s)
  at = each (right_at cells) (T-right (eqb (blanks cells) 124) _ (T-right (eqb (length cells) 247) _ tested)) e s e₁ e₂ s₁ s₂

  -- the constant's entry is the printed cell
  pub cell_right : get_or cells ((e - 1) * 13 + (s - 1)) 0 ≡ cell_of e s
  cell_right = eqb→eq _ _ (T-left (eqb (get_or cells ((e - 1) * 13 + (s - 1)) 0) (cell_of e s)) _ at)

  behind : T (leb (cell_of e s) 28 && (cond (is_received e) (cond (hears s) (leb 1 (cell_of e s)) (eqb (cell_of e s) 0)) true && cond (eqb (cell_of e s) 0) true (leads (cell_of e s))))
  behind = T-right (eqb (get_or cells ((e - 1) * 13 + (s - 1)) 0) (cell_of e s)) _ at

  known_here : cell_of e s < 29
  known_here = omega (arith, leb→le (cell_of e s) 28 (T-left (leb (cell_of e s) 28) _ behind))

  received_here : is_received e ≡ true → T (cond (hears s) (leb 1 (cell_of e s)) (eqb (cell_of e s) 0))
  received_here r =
      let t : T (cond (is_received e) (cond (hears s) (leb 1 (cell_of e s)) (eqb (cell_of e s) 0)) true) =
      T-left (cond (is_received e) (cond (hears s) (leb 1 (cell_of e s)) (eqb (cell_of e s) 0)) true) _ (T-right (leb (cell_of e s) 28) _ behind) in
      rw r at t

  leads_here : 0 < cell_of e s → T (leads (cell_of e s))
  leads_here f =
      let t : T (cond (eqb (cell_of e s) 0) true (leads (cell_of e s))) =
      T-right (cond (is_received e) (cond (hears s) (leb 1 (cell_of e s)) (eqb (cell_of e s) 0)) true) _ (T-right (leb (cell_of e s) 28) _ behind) in
      rw (ne_eqb (cell_of e s) 0 (λ z. omega arith)) at t

  -- a received PDU's cell is filled where bytes are heard, and blank where they are not
  pub heard_filled : is_received e ≡ true → hears s ≡ true → 0 < cell_of e s
  heard_filled r v = let t : T (leb 1 (cell_of e s)) = rw v at (received_here r) in leb→le 1 (cell_of e s) t

  pub dropped_blank : is_received e ≡ true → hears s ≡ false → cell_of e s ≡ 0
  dropped_blank r v = let t : T (eqb (cell_of e s) 0) = rw v at (received_here r) in eqb→eq _ _ t

-- the entry at a cell's place
pub cell_at : (e s k : ℕ) → 1 ≤ e → e ≤ 19 → 1 ≤ s → s ≤ 13 → k ≡ (e - 1) * 13 + (s - 1) → get_or cells k 0 ≡ cell_of e s
cell_at e s k e₁ e₂ s₁ s₂ q = rw q (cell_right e s e₁ (omega arith) s₁ (omega arith))

pub ruleset outside = (rules, no_event, past_rows, no_state, past_columns)

-- every cell holds an action's number or 0
pub cell_known : (e s : ℕ) → cell_of e s < 29
cell_known e s = by (dec_lt 0 (cell_of e s))
  where
    by : Dec (0 < cell_of e s) → cell_of e s < 29
    by (yes l) = let i : Inside e s = inside e s l in known_here e s i.event_low i.event_high i.state_low i.state_high
    by (no l) = omega arith

state_of : (s : ℕ) → T (is_state s) → (1 ≤ s) × (s < 14)
state_of s t = (leb→le 1 s (T-left (leb 1 s) (leb s 13) t), omega (arith, leb→le s 13 (T-right (leb 1 s) (leb s 13) t)))

-- an action of the table leads to a state
pub leads_to : (e s : ℕ) → 0 < cell_of e s → (p q : Bool) → (1 ≤ next_of (cell_of e s) p q) × (next_of (cell_of e s) p q < 14)
leads_to e s f p q = by p q
  where
    i : Inside e s
    i = inside e s f

    n : Bool → Bool → Bool
    n x y = is_state (next_of (cell_of e s) x y)

    t : T (n true true && n true false && n false true && n false false)
    t = leads_here e s i.event_low i.event_high i.state_low i.state_high f

    t₁ : T (n true true && n true false && n false true)
    t₁ = T-left (n true true && n true false && n false true) (n false false) t

    t₂ : T (n true true && n true false)
    t₂ = T-left (n true true && n true false) (n false true) t₁

    by : (p q : Bool) → (1 ≤ next_of (cell_of e s) p q) × (next_of (cell_of e s) p q < 14)
    by true true = state_of _ (T-left (n true true) (n true false) t₂)
    by true false = state_of _ (T-right (n true true) (n true false) t₂)
    by false true = state_of _ (T-right (n true true && n true false) (n false true) t₁)
    by false false = state_of _ (T-right (n true true && n true false && n false true) (n false false) t)
