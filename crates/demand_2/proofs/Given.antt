-- A local event that gets none of 1, 4, 5 and 2: its cell is filled, what it sends has room, and the record stays sound.
-- Assumes nothing.
use Prim.Native.Nat.{ℕ, ◌≤◌, ◌<◌}
use mathlib.Core.Path.{◌≡◌, refl, ap, ◌∙◌}
use mathlib.Core.Bool.{Bool, true, false, cond, ◌||◌}
use mathlib.Core.List.{[], ◌∷◌}
use native.Mathlib.Omega.{arith}
use lib.Dec.{eqb}
use lib.ListN.{length}
use Rattle.laws.specs.Lists.{among}
use Rattle.writing.specs.Form.{Form, form_refusal}
use Rattle.writing.proofs.FormLaws.{answered, refusal_roomy, refusal_known, rq_limit, ac_limit, reject_limit, data_limit}
use Rattle.table.specs.Table.{cell_of, is_received}
use Rattle.association.specs.Record.{Standing}
use Rattle.association.specs.Events.{Local, number_of, carries}
use Rattle.association.specs.Events.{Local.plain, Local.confirm, Local.accept, Local.reject, Local.send}
use Rattle.association.specs.Performing.{brings_nothing, after}
use Rattle.association.specs.Machine.{local_cell, local_action, plain_form, form_at, request_refusal, doing, on_local}
use Rattle.association.proofs.OrderLaws.{request_steps, request_passed}
use Rattle.demand_2.proofs.Unbroken.{Sound}
use Rattle.demand_2.proofs.Sound.{sound_keeps}

-- ---- the cell

-- a local event's action is that of its cell
pub record OwnCell (number state : ℕ) : Type 0 where
  pub own : is_received number ≡ false
  pub same : local_cell number state ≡ cell_of number state
  pub filled : 0 < cell_of number state

pub own_cell : (n s : ℕ) → (local_cell n s ≡ 0 → ⊥) → OwnCell n s
unfolding local_cell
own_cell n s h = by (is_received n) refl h
  where
    by : (b : Bool) → is_received n ≡ b → (cond b 0 (cell_of n s) ≡ 0 → ⊥) → OwnCell n s
    by true e k = absurd (k refl)
    by false e k = record { own = e; same = rw e; filled = omega arith }

-- ---- the form of what is sent

-- no form asks for more than 16,384
either_small : (b : Bool) (x y : Form) → x.most ≤ 16384 → y.most ≤ 16384 → (cond b x y).most ≤ 16384
either_small true x y p q = p
either_small false x y p q = q

form_small : (s : Standing) (e : Local) → (form_at s e).most ≤ 16384
unfolding plain_form
form_small s (plain n) = either_small (carries n) _ _ (omega arith) (omega arith)
form_small s (confirm f) = rq_limit f
form_small s (accept f) = ac_limit f
form_small s (reject f) = reject_limit f
form_small s (send f) = data_limit s.peer f

-- so 2 never comes where the output has 16,390 bytes
pub request_roomy : (s : Standing) (e : Local) (room : ℕ) → 16390 ≤ room → request_refusal s e room ≡ request_refusal s e 16390
request_roomy s e room h =
    rw (request_steps s e room, request_steps s e 16390)
    (ap (λ (n : ℕ). cond (eqb (local_action s e) 0) 1 n) (refusal_roomy (form_at s e) (form_small s e) room h))

-- and a local event gets no other than 1, 4 and 5
one_more : (n : ℕ) → among n (0 ∷ 4 ∷ 5 ∷ []) ≡ true → among n (0 ∷ 1 ∷ 4 ∷ 5 ∷ []) ≡ true
unfolding among
one_more n h = by (eqb n 0) (eqb n 1) (eqb n 4 || (eqb n 5 || false)) h
  where
    by : (x y z : Bool) → (x || z) ≡ true → (x || (y || z)) ≡ true
    by true y z h = refl
    by false true z h = refl
    by false false z h = h

pub request_known : (s : Standing) (e : Local) → among (request_refusal s e 16390) (0 ∷ 1 ∷ 4 ∷ 5 ∷ []) ≡ true
unfolding among
request_known s e = rw (request_steps s e 16390) (by (eqb (local_action s e) 0))
  where
    by : (b : Bool) → among (cond b 1 (form_refusal (form_at s e) 16390)) (0 ∷ 1 ∷ 4 ∷ 5 ∷ []) ≡ true
    by true = refl
    by false = one_more (form_refusal (form_at s e) 16390) (refusal_known (form_at s e) (form_small s e))

-- ---- what is done
module _ (s : Standing) (e : Local) where
  pub next_is : (on_local s e).next ≡ after (local_action s e) s (brings_nothing s)
  unfolding on_local doing
  next_is = refl

  pub sends_form : (on_local s e).sends ≡ (form_at s e).pdu
  unfolding on_local doing
  sends_form = refl

  module _ (room : ℕ) (h : request_refusal s e room ≡ 0) where
    pub acts : local_action s e ≡ 0 → ⊥
    acts = (request_passed s e room h).0

    pub form_fine : form_refusal (form_at s e) room ≡ 0
    form_fine = (request_passed s e room h).1

    pub cell_own : OwnCell (number_of e) s.state
    cell_own = own_cell (number_of e) s.state acts

    pub next_at : (on_local s e).next ≡ after (cell_of (number_of e) s.state) s (brings_nothing s)
    next_at = next_is ∙ ap (λ (n : ℕ). after n s (brings_nothing s)) cell_own.same

    pub sound_local : Sound s → Sound (on_local s e).next
    sound_local S = rw next_at (sound_keeps s S (number_of e) cell_own.filled cell_own.own)

    pub sends_room : length (on_local s e).sends ≤ room
    sends_room = rw sends_form (answered (form_at s e) room form_fine).space
