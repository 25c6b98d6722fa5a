-- What a machine supplies for cut independence, and what holds between calls.
-- Assumes nothing.
use Prim.Native.Nat.{ℕ, ◌+◌, ◌≤◌}
use mathlib.Core.Path.{◌≡◌, refl}
use mathlib.Core.Bool.{true, false}
use mathlib.Core.Option.{some}
use mathlib.Core.List.{List}
use native.Mathlib.Omega.{arith}
use lib.ListN.{length, take}
use Rattle.framing.specs.Framing.{frame, Frame.short}
use Rattle.framing.specs.Reference.{Machine, Reaction}
use Rattle.framing.specs.Engine as eng
use Rattle.framing.specs.Engine.{EngineState}
use Rattle.framing.proofs.Framing.{frame_nil}

module _ (M : Machine) where
  open M use {R, E, A, limit, drops, on_pdu, on_long, on_local}

  -- a reaction leads to a sound record, and what it sends has room in the output
  pub record Kept (Sound : R → Type 0) (x : Reaction R A) : Type 0 where
    pub sound : Sound x.next
    pub room : length x.sends ≤ 6 + limit

  -- THE LAWS OF A MACHINE: its records stay sound, in a sense that it chooses (refusal 6's tests but for the bytes gathered), and it sends no more than
  -- a PDU of the limit
  pub record Laws : Type 1 where
    pub Sound : R → Type 0
    pub pdu : (r : R) (p : List ℕ) → Sound r → drops r ≡ false → Kept Sound (on_pdu r p)
    pub long : (r : R) → Sound r → drops r ≡ false → Kept Sound (on_long r)
    pub local : (r : R) (e : E) (x : Reaction R A) → Sound r → on_local r e ≡ some x → Kept Sound x

module _ (M : Machine) (L : Laws M) where
  open M use {R, E, A, limit, drops, on_pdu, on_long, on_local}

  -- What holds between calls, from a fresh association on: refusals 6, 3 and 2 never come. Both buffers have room for a PDU of the limit.
  pub record Ready (l : EngineState M) : Type 0 where
    pub sound : L.Sound l.state
    pub room : 6 + limit ≤ length l.gather
    pub within : l.count ≤ length l.gather
    pub quiet : frame limit (take l.count l.gather) ≡ short
    pub dropped : drops l.state ≡ true → l.count ≡ 0
    pub output : 6 + limit ≤ length l.out

  pub ready_fresh : (r : R) (g o : List ℕ) → L.Sound r → 6 + limit ≤ length g → 6 + limit ≤ length o → Ready (eng.engine_fresh M r g o)
  ready_fresh r g o s hg ho = record { sound = s; room = hg; within = omega arith; quiet = frame_nil limit; dropped = λ _. refl; output = ho }
