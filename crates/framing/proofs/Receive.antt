-- What a call of the engine is, for each way through the code that meets it: dropped, no event yet, over-length, a whole PDU.
-- Assumes nothing.
use Prim.Native.Nat.{ℕ, ◌+◌, ◌-◌, ◌≤◌}
use mathlib.Core.Path.{◌≡◌}
use mathlib.Core.Bool.{true, false}
use mathlib.Core.List.{List, ◌++◌}
use native.Mathlib.Omega.{arith}
use lib.ListN.{length, take, length-append}
use lib.Seq.{length-take-le, take-length}
use Rattle.octets.specs.Put.{put}
use Rattle.framing.specs.Framing.{Frame, frame, Frame.short, Frame.long, Frame.whole}
use Rattle.framing.specs.Reference.{Machine}
use Rattle.framing.specs.Engine as eng
use Rattle.framing.specs.Engine.{EngineState}
use Rattle.framing.proofs.Framing.{Begins, Begins.no_event, Begins.at_six, Begins.at_end, begins}

module _ (M : Machine) (l : EngineState M) (p : List ℕ) where
  open M use {limit, drops, on_pdu, on_long}

  pub receive_dropped : drops l.state ≡ true → eng.receive M l p ≡ eng.quiet M (length p) l
  unfolding eng.receive
  receive_dropped e = rw e

  module _ (e : drops l.state ≡ false) where
    pub receive_short : frame limit (take l.count l.gather ++ p) ≡ short → eng.receive M l p ≡ eng.quiet M (length p) (eng.gathering M l p)
    unfolding eng.receive
    receive_short f = rw (e, f, take-length p)

    pub receive_long : frame limit (take l.count l.gather ++ p) ≡ long
        → eng.receive M l p ≡ eng.acts M (6 - l.count) (on_long l.state) 0 0 (eng.gathering M l (take (6 - l.count) p))
    unfolding eng.receive
    receive_long f = rw (e, f)

    pub receive_whole : (n : ℕ) → frame limit (take l.count l.gather ++ p) ≡ whole n
        → eng.receive M l p
        ≡ eng.acts M (n - l.count) (on_pdu l.state (take n (put l.gather l.count (take (n - l.count) p)))) n 0
        (eng.gathering M l (take (n - l.count) p))
    unfolding eng.receive
    receive_whole n f = rw (e, f)

-- the bytes used are there, and have room in the gather buffer behind the c bytes gathered, which brought no event yet
pub through_fits : (M : Machine) (b p : List ℕ) (c : ℕ) → c ≤ length b → frame M.limit (take c b) ≡ short
    → (eng.through M (frame M.limit (take c b ++ p)) c p ≤ length p) × (c + eng.through M (frame M.limit (take c b ++ p)) c p ≤ 6 + M.limit)
through_fits M b p c h e = by (frame M.limit (take c b ++ p)) (begins M.limit (take c b) p e)
  where
    lg : length (take c b) ≡ c
    lg = length-take-le c b h

    la : length (take c b ++ p) ≡ length (take c b) + length p
    la = length-append (take c b) p

    by : (f : Frame) → Begins M.limit (take c b) p f → (eng.through M f c p ≤ length p) × (c + eng.through M f c p ≤ 6 + M.limit)
    by short (no_event a) = (omega arith, omega (arith, lg, la))
    by long (at_six a d g) = (omega (arith, lg, la), omega (arith, lg))
    by (whole n) (at_end a d g k i) = (omega (arith, lg, la), omega (arith, lg))
