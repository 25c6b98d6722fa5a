-- The columns of the actions' table: the code's constant of 28 next states, each its action's, by computation; AE-6 and AR-8, which are decided beside it; and what
-- the actions do to the timer, show and send.
-- Assumes nothing.
use Prim.Native.Nat.{ℕ, zero, suc, ◌<◌}
use mathlib.Core.Path.{◌≡◌, refl, sym, ◌∙◌, ap}
use mathlib.Core.Bool.{Bool, true, false, cond, ◌||◌}
use mathlib.Core.List.{List, [], ◌∷◌, map}
use native.Mathlib.Omega.{arith}
use native.Mathlib.Decide.{dec_lt}
use lib.Dec.{T, eqb, eqb→eq}
use lib.ListN.{length, get_or, drop, get_or-eq_default}
use lib.Seq.{get_or-set_other}
use borrow.Author.Rules.{rules}
use borrow.Author.Tests.{ne_eqb}
use Rattle.laws.specs.Lists.{among}
use Rattle.laws.proofs.Below.{all_below, below}
use Rattle.table.specs.ActionNames.{AE-6, AR-8}
use Rattle.table.specs.Actions.{Does, Timer, actions, does_of, next_of, shows_of, artim_of, runs_after, sends_number}
use Rattle.table.specs.Actions.{Timer.starts, Timer.stops, Timer.stays}

-- the number that the code has for a timer, and for what is shown
abbrev timer_number : Timer → ℕ
timer_number starts = 1
timer_number stops = 2
timer_number stays = 0

abbrev mark : Bool → ℕ
mark b = cond b 1 0

-- the columns, where AE-6 rejects and AR-8 is the acceptor's
abbrev column : (Does → ℕ) → List ℕ
column f = map f (drop 1 (actions false false))

unfoldable pub nexts : List ℕ
nexts = column (λ d. d.next)

unfoldable pub timers : List ℕ
timers = column (λ d. timer_number d.artim)

unfoldable pub marks : List ℕ
marks = column (λ d. mark d.shows)

unfoldable pub sendings : List ℕ
sendings = column (λ d. sends_number d.sends)

-- a column holds what f says of each of the 28 actions, and f is 0 where there is no action
abbrev pub Column : List ℕ → (ℕ → ℕ) → Type 0
Column l f = (a : ℕ) → get_or (0 ∷ l) a 0 ≡ f a

get_d_map : {A B : Type 0} (f : A → B) (l : List A) (i : ℕ) (d : A) → get_or (map f l) i (f d) ≡ f (get_or l i d)
get_d_map f [] i d = refl
get_d_map f (x ∷ xs) zero d = refl
get_d_map f (x ∷ xs) (suc i) d = get_d_map f xs i d

pub next_column : Column nexts (λ a. next_of a false false)
unfolding nexts next_of does_of actions
next_column a = get_d_map (λ (d : Does). d.next) (actions false false) a (does_of 0 false false)

-- ---- past the last action
at_past : (l : List ℕ) (a : ℕ) → length l ≡ 28 → 28 < a → 0 ≡ get_or (0 ∷ l) a 0
at_past l a n h = sym (get_or-eq_default (0 ∷ l) 0 {n = a} (omega (arith, n)))

-- ---- a column that is 0 at all actions but those of a list
module _ (l ks : List ℕ) where
  abbrev blank : ℕ → Bool
  blank a = among a ks || eqb (get_or (0 ∷ l) a 0) 0

  bare : T (all_below 29 blank) → length l ≡ 28 → (a : ℕ) → among a ks ≡ false → 0 ≡ get_or (0 ∷ l) a 0
  bare t n a none = by (dec_lt a 29)
    where
      by : Dec (a < 29) → 0 ≡ get_or (0 ∷ l) a 0
      by (yes h) = let u : T (eqb (get_or (0 ∷ l) a 0) 0) = rw none at (below 29 blank t a h) in sym (eqb→eq _ _ u)
      by (no h) = at_past l a n (omega arith)

-- ---- AE-6 and AR-8: elsewhere the two questions are not asked
other_6 : (a : ℕ) (p : Bool) → (a ≡ AE-6 → ⊥) → does_of a p false ≡ does_of a false false
unfolding does_of actions
other_6 a true h = get_or-set_other (actions false false) AE-6 a (does_of AE-6 true false) (does_of 0 false false) h
other_6 a false h = refl

other_18 : (a : ℕ) (p q : Bool) → (a ≡ AR-8 → ⊥) → does_of a p q ≡ does_of a p false
unfolding does_of actions
other_18 a p true h = get_or-set_other (actions p false) AR-8 a (does_of AR-8 p true) (does_of 0 false false) h
other_18 a p false h = refl

module _ (a : ℕ) (p : Bool) where
  -- ---- the next state
  pub accepting : a ≡ AE-6 → p ≡ true → (q : Bool) → 3 ≡ next_of a p q
  unfolding next_of does_of actions
  accepting e t q = rw (e, t)

  pub rejecting : a ≡ AE-6 → p ≡ false → (q : Bool) → 13 ≡ next_of a p q
  unfolding next_of does_of actions
  rejecting e t q = rw (e, t)

  pub as_requestor : a ≡ AR-8 → (q : Bool) → q ≡ true → 9 ≡ next_of a p q
  unfolding next_of does_of actions
  as_requestor e q t = rw (e, t)

  pub as_acceptor : a ≡ AR-8 → (q : Bool) → q ≡ false → 10 ≡ next_of a p q
  unfolding next_of does_of actions
  as_acceptor e q t = rw (e, t)

  pub next_other : (q : Bool) (r : ℕ) → (a ≡ AE-6 → ⊥) → (a ≡ AR-8 → ⊥) → r ≡ get_or (0 ∷ nexts) a 0 → r ≡ next_of a p q
  unfolding next_of
  next_other q r h l e = e ∙ (next_column a ∙ sym (ap (λ (d : Does). d.next) (other_18 a p q l ∙ other_6 a p h)))

  pub next_below : (q : Bool) → a < 1 → 0 ≡ next_of a p q
  unfolding next_of does_of actions
  next_below q h = let z : a ≡ 0 = omega arith in rw z

  pub next_past : (q : Bool) → 28 < a → 0 ≡ next_of a p q
  unfolding nexts does_of actions
  next_past q h = next_other q 0 (λ e. omega arith) (λ e. omega arith) (at_past nexts a refl h)

  -- ---- the other columns
  elsewhere : (f : Does → ℕ) → (a ≡ AE-6 → ⊥) → get_or (map f (actions false false)) a (f (does_of 0 false false)) ≡ f (does_of a p false)
  unfolding does_of actions
  elsewhere f h = get_d_map f (actions false false) a (does_of 0 false false) ∙ sym (ap f (other_6 a p h))

  pub artim_other : (z : Bool) → (a ≡ AE-6 → ⊥) → (a ≡ 5 → ⊥) → (a ≡ 8 → ⊥) → (a ≡ 14 → ⊥) → (a ≡ 15 → ⊥) → (a ≡ 21 → ⊥) → (a ≡ 22 → ⊥) → (a ≡ 25 → ⊥) → (a ≡ 28 → ⊥)
      → z ≡ artim_of a p z
  unfolding artim_of timers does_of actions among
  artim_other z h b c d e f g i j = by (does_of a p false).artim (none ∙ elsewhere (λ (d : Does). timer_number d.artim) h)
    where
      none : 0 ≡ get_or (0 ∷ timers) a 0
      none = bare timers (5 ∷ 6 ∷ 8 ∷ 14 ∷ 15 ∷ 21 ∷ 22 ∷ 25 ∷ 28 ∷ []) _ refl a
          (simp (ne_eqb a 5 b, ne_eqb a 6 h, ne_eqb a 8 c, ne_eqb a 14 d, ne_eqb a 15 e, ne_eqb a 21 f, ne_eqb a 22 g, ne_eqb a 25 i, ne_eqb a 28 j))

      by : (x : Timer) → 0 ≡ timer_number x → z ≡ runs_after x z
      by starts n = absurd (omega (arith, n))
      by stops n = absurd (omega (arith, n))
      by stays n = refl

  pub shows_other : (a ≡ 3 → ⊥) → (a ≡ 4 → ⊥) → (a ≡ AE-6 → ⊥) → (a ≡ 10 → ⊥) → (a ≡ 16 → ⊥) → (a ≡ 23 → ⊥) → false ≡ shows_of a p
  unfolding shows_of marks does_of actions among
  shows_other b c h d e f = by (does_of a p false).shows (none ∙ elsewhere (λ (d : Does). mark d.shows) h)
    where
      none : 0 ≡ get_or (0 ∷ marks) a 0
      none = bare marks (3 ∷ 4 ∷ 10 ∷ 16 ∷ 23 ∷ []) _ refl a (simp (ne_eqb a 3 b, ne_eqb a 4 c, ne_eqb a 10 d, ne_eqb a 16 e, ne_eqb a 23 f))

      by : (s : Bool) → 0 ≡ mark s → false ≡ s
      by true h = absurd (omega (arith, h))
      by false h = refl

  pub sends_other : (a ≡ AE-6 → ⊥) → (a ≡ 2 → ⊥) → (a ≡ 7 → ⊥) → (a ≡ 8 → ⊥) → (a ≡ 9 → ⊥) → (a ≡ 11 → ⊥) → (a ≡ 14 → ⊥) → (a ≡ 17 → ⊥)
      → (a ≡ 19 → ⊥) → (a ≡ 21 → ⊥) → (a ≡ 27 → ⊥) → (a ≡ 28 → ⊥) → 0 ≡ sends_number (does_of a p false).sends
  unfolding sendings does_of actions among
  sends_other h b c d e f g i j k l m = none ∙ elsewhere (λ (d : Does). sends_number d.sends) h
    where
      none : 0 ≡ get_or (0 ∷ sendings) a 0
      none = bare sendings (2 ∷ 6 ∷ 7 ∷ 8 ∷ 9 ∷ 11 ∷ 14 ∷ 17 ∷ 19 ∷ 21 ∷ 27 ∷ 28 ∷ []) _ refl a
          (simp (ne_eqb a 2 b, ne_eqb a 6 h, ne_eqb a 7 c, ne_eqb a 8 d, ne_eqb a 9 e, ne_eqb a 11 f, ne_eqb a 14 g, ne_eqb a 17 i, ne_eqb a 19 j, ne_eqb a 21 k, ne_eqb a 27 l, ne_eqb a 28 m))

pub ruleset next_laws = (rules, accepting, rejecting, as_requestor, as_acceptor, next_other)

pub ruleset outside_laws = (rules, next_below, next_past)
