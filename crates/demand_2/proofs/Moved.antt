-- What a local event makes of the count: it keeps the bytes gathered, unless it enters Sta1. That is the reference's count, which is 0 where bytes are dropped.
-- Assumes nothing.
use Prim.Native.Nat.{ℕ, ◌≤◌, ◌<◌}
use mathlib.Core.Path.{◌≡◌, refl, sym, ap}
use mathlib.Core.Bool.{Bool, true, false, cond, ◌||◌}
use mathlib.Core.List.{List}
use native.Mathlib.Omega.{arith}
use lib.Dec.{eqb}
use lib.ListN.{length}
use Rattle.table.specs.Table.{cell_of}
use Rattle.table.specs.Actions.{next_of}
use Rattle.association.specs.declared.Assoc.{Assoc}
use Rattle.association.specs.Record.{Standing, standing, with_gathered, dropping, bad_length}
use Rattle.association.specs.Events.{Local, number_of}
use Rattle.association.specs.Performing.{brings_nothing, after, entering, leaving}
use Rattle.association.specs.Machine.{on_local, request_refusal}
use Rattle.association.proofs.RefusalLaws.{few_gathered}
use Rattle.demand_2.proofs.Unbroken.{never, Sound, Whole, Fine}
use Rattle.demand_2.proofs.Sound.{dropped_before}
use Rattle.demand_2.proofs.Given.{cell_own, next_at, sound_local}

module _ (s : Standing) (S : Sound s) (e : ℕ) (f : 0 < cell_of e s.state) (n : ℕ) (none : dropping s ≡ true → n ≡ 0) where
  abbrev next : Standing
  next = after (cell_of e s.state) s (brings_nothing s)

  abbrev to : ℕ
  to = next_of (cell_of e s.state) false s.requestor

  kept : (b : Bool) → (eqb to 4 || s.deaf) ≡ b → cond b 0 n ≡ n
  kept true t = sym (none (dropped_before s S e f t))
  kept false t = refl

  count_by : (b : Bool) → eqb to 1 ≡ b → cond (dropping next) 0 n ≡ cond (eqb next.state 1) 0 n
  unfolding after entering dropping
  count_by true q = rw q (rw q)
  count_by false q = rw q (rw q (kept _ refl))

  same_count : cond (dropping next) 0 n ≡ cond (eqb next.state 1) 0 n
  same_count = count_by (eqb to 1) refl

module _ (a : Assoc) (e : Local) (room : ℕ) (w : Whole a) (h : request_refusal (standing a) e room ≡ 0) where
  abbrev moves : Standing
  moves = (on_local (standing a) e).next

  pub local_left : with_gathered moves (cond (dropping moves) 0 a.gathered) ≡ leaving moves a.gathered
  unfolding leaving
  local_left =
      rw (next_at (standing a) e room h)
      (ap (with_gathered (after (cell_of (number_of e) a.state) (standing a) (brings_nothing (standing a))))
      (same_count (standing a) w.sound (number_of e) (cell_own (standing a) e room h).filled a.gathered w.dropped))

-- with no bytes gathered, or with those that were
fine_left : (s : Standing) (n : ℕ) (g : List ℕ) → Sound s → n ≤ 16389 → n ≤ length g → bad_length n g ≡ false → (b : Bool) → dropping s ≡ b
    → Fine (with_gathered s (cond b 0 n)) g (cond b 0 n)
fine_left s n g S few room good true d =
    record { whole = record { sound = S; few = omega arith; dropped = λ _. refl }; room = omega arith; length_good = sym (few_gathered 0 g (omega arith)) }
fine_left s n g S few room good false d = record { whole = record { sound = S; few = few; dropped = λ t. never _ d t }; room = room; length_good = good }

-- a local event leaves a record that is not broken over the gather buffer
pub local_fine : (a : Assoc) (g : List ℕ) (e : Local) (room : ℕ) → Fine a g a.gathered → request_refusal (standing a) e room ≡ 0
    → let left = leaving (on_local (standing a) e).next a.gathered in Fine left g left.gathered
local_fine a g e room F h =
    let w = F.whole in
    rw (← local_left a e room w h)
    (fine_left (on_local (standing a) e).next a.gathered g (sound_local (standing a) e room h w.sound) w.few F.room F.length_good (dropping (on_local (standing a) e).next) refl)
