-- The machine of Table 9-10 keeps the laws that cut independence asks of a machine: its records stay sound, and what it sends has room.
-- Assumes nothing.
use Prim.Native.Nat.{ℕ, ◌≤◌}
use mathlib.Core.Path.{◌≡◌, refl, subst}
use mathlib.Core.Bool.{Bool, true, false, cond}
use mathlib.Core.Option.{none, some}
use native.Mathlib.Omega.{arith}
use lib.Dec.{eqb}
use lib.ListN.{length}
use borrow.Author.Tests.{eqb-true}
use Rattle.framing.specs.Framing.{Brought}
use Rattle.framing.specs.Reference.{Reaction}
use Rattle.framing.proofs.Ready.{Kept, Laws}
use Rattle.writing.specs.Ten.{ten_of}
use Rattle.writing.proofs.TenLaws.{ten_length}
use Rattle.association.specs.Record.{Standing}
use Rattle.association.specs.Events.{Local}
use Rattle.association.specs.Machine.{Seen, doing, on_event, on_local, request_refusal, upper}
use Rattle.demand_2.proofs.Unbroken.{Sound}
use Rattle.demand_2.proofs.Sound.{sound_pdu, sound_long}
use Rattle.demand_2.proofs.Given.{sound_local, sends_room}

-- ten bytes or none
few : (which : ℕ) → length (ten_of which) ≤ 16390
few which = omega (arith, ten_length which)

pub ten_room : (event : ℕ) (s : Standing) (v : Brought) → length (on_event event s v).sends ≤ 16390
unfolding on_event doing
ten_room event s v = few _

pub kept_local : (s : Standing) (e : Local) (x : Reaction Standing Seen) → Sound s → (b : Bool) → eqb (request_refusal s e 16390) 0 ≡ b → cond b (some (on_local s e)) none ≡ some x
    → Kept upper Sound x
kept_local s e x S true h q =
    let p : on_local s e ≡ x = cc in
    let z = eqb-true _ _ h in
    subst (Kept upper Sound) p (record { sound = sound_local s e 16390 z S; room = sends_room s e 16390 z })
kept_local s e x S false h q = let z : ◌≡◌ {A = ℕ} 0 1 = cc in absurd (omega arith)

abbrev pub upper_laws : Laws upper
upper_laws =
    record {
      Sound = Sound;
      pdu = λ s p S h. record { sound = sound_pdu s S h p; room = ten_room _ s _ };
      long = λ s S h. record { sound = sound_long s S h; room = ten_room _ s _ };
      local = λ s e x S q. kept_local s e x S (eqb (request_refusal s e 16390) 0) refl q;
    }
