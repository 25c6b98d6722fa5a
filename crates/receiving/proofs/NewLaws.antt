-- From the one copy of a piece that opens a PDU to what gathering leaves: a law for each way out of `gather_new`.
-- Assumes nothing.
use Prim.Native.Nat.{ℕ, ◌+◌, ◌-◌, ◌≤◌, ◌<◌}
use mathlib.Core.Path.{◌≡◌}
use mathlib.Core.Bool.{cond}
use mathlib.Core.List.{List}
use native.Mathlib.Omega.{arith}
use native.Mathlib.Decide.{dec_lt}
use lib.Dec.{ltb}
use lib.ListN.{length, take}
use lib.Seq.{length-take-le}
use Rattle.std.specs.Prelude.{min}
use borrow.Author.Rules.{rules}
use borrow.Author.Tests.{lt-ltb, le-ltb}
use Rattle.octets.specs.Put.{put, Placed}
use Rattle.octets.proofs.PutLaws.{put_out}
use Rattle.framing.specs.Framing.{frame, length_field, Frame.short, Frame.long, Frame.whole}
use Rattle.framing.proofs.Framing.{frame_part, frame_over, frame_full}
use Rattle.receiving.specs.Private.Gathering.{RoomToGather, Opens, Gathered}
use Rattle.receiving.specs.declared.gather.Head.TheVariants.{Short, Long, Whole}
use Rattle.receiving.specs.declared.gather.Got.{Got}
use Rattle.receiving.proofs.CopyLaws.{Wanted, wanted}

pub opens : (b p : List ℕ) (c : ℕ) → RoomToGather b c → 6 ≤ length p → Opens b p
opens b p c f h = record { room = f.room; header = h }

pub header_there : (b p : List ℕ) → Opens b p → 6 ≤ length p
header_there b p O = O.header

pub header_length : (b p : List ℕ) → Opens b p → length (take 6 p) ≡ 6
header_length b p O = length-take-le 6 p O.header

pub want_some : (have need n w : ℕ) → w ≡ min (need - have) n → w ≤ n
want_some have need n w e = (wanted have need n e).some

pub want_length : (have need : ℕ) (p : List ℕ) (w : ℕ) → w ≡ min (need - have) (length p) → length (take w p) ≡ w
want_length have need p w e = length-take-le w p (want_some have need (length p) w e)

-- what is gathered behind nothing
pub behind_none : (b : List ℕ) (c : ℕ) (p b' : List ℕ) (r : Got) → c ≡ 0 → Gathered b 0 p b' r → Gathered b c p b' r
behind_none b c p b' r e G = rw e G

module _ (b p : List ℕ) (O : Opens b p) (len : ℕ) (el : len ≡ length_field p) where
  -- n bytes of the piece stand at the buffer's start
  module _ (n : ℕ) (some : n ≤ length p) (few : n ≤ 16390) (b' : List ℕ) (r : ℕ) (P : Placed b 0 (take n p) r b') where
    fits : 0 + length (take n p) ≤ length b
    fits = omega (arith, length-take-le n p some, O.room)

    buffer : b' ≡ put b 0 (take n p)
    buffer = put_out b 0 (take n p) P fits

  pub new_over : 16384 < len → (b' : List ℕ) (r : ℕ) → Placed b 0 (take 6 p) r b' → Gathered b 0 p b' (record { used = 6; head = Long })
  new_over l b' r P =
      let q : frame 16384 p ≡ long = frame_over 16384 p O.header (omega (arith, el)) in
      record { used = rw q; head = rw q; some = O.header; room = omega (arith, O.room); buffer = buffer 6 O.header (omega arith) b' r P }

  module _ (l : len ≤ 16384) (m : ℕ) (em : m ≡ min (6 + len - 0) (length p)) where
    W : Wanted 0 (6 + len) (length p) m
    W = wanted 0 (6 + len) (length p) em

    near : m ≤ 6 + len
    near = omega (arith, W.upto (omega arith))

    module _ (b' : List ℕ) (r : ℕ) (P : Placed b 0 (take m p) r b') where
      new_part : m < 6 + len → Gathered b 0 p b' (record { used = m; head = Short })
      new_part k =
          let e : m ≡ length p = W.all (omega arith) in
          let q : frame 16384 p ≡ short = frame_part 16384 p O.header (omega (arith, el)) (omega (arith, el)) in
          record { used = rw q e; head = rw q; some = W.some; room = omega (arith, O.room, near); buffer = buffer m W.some (omega (arith, near)) b' r P }

      new_full : 6 + len ≤ m → Gathered b 0 p b' (record { used = m; head = Whole })
      new_full k =
          let q : frame 16384 p ≡ whole (6 + length_field p) = frame_full 16384 p O.header (omega (arith, el)) (omega (arith, el, W.some)) in
          record { used = rw q (omega (arith, el, near)); head = rw q; some = W.some; room = omega (arith, O.room, near); buffer = buffer m W.some (omega (arith, near)) b' r P }

      pub new_body : (w : Got) → w ≡ record { used = m; head = cond (ltb m (6 + len)) Short Whole } → Gathered b 0 p b' w
      new_body w e = rw e (by (dec_lt m (6 + len)))
        where
          by : Dec (m < 6 + len) → Gathered b 0 p b' (record { used = m; head = cond (ltb m (6 + len)) Short Whole })
          by (yes k) = rw (lt-ltb m (6 + len) k) (new_part k)
          by (no k) = let l : 6 + len ≤ m = omega arith in rw (le-ltb m (6 + len) l) (new_full l)

pub ruleset new_laws = (rules, header_there, header_length, want_some, want_length, new_over, new_body)
