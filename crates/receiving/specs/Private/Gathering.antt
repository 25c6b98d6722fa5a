-- For the private functions: what copying a piece behind the bytes gathered leaves.
use Rattle.std.specs.Prelude.{ℕ, ◌+◌, ◌-◌, ◌≤◌, ◌≡◌, List, ◌++◌, length, take}
use Rattle.numbers.specs.Lengths.{HEADER, LONGEST, BUFFER}
use Rattle.octets.specs.Put.{put}
use Rattle.framing.specs.Framing.{Frame, frame, Frame.short, Frame.long, Frame.whole}
use Rattle.receiving.specs.declared.gather.Head.{Head}
use Rattle.receiving.specs.declared.gather.Head.TheVariants.{Short, Long, Whole}
use Rattle.receiving.specs.declared.gather.Got.{Got}

abbrev pub head_of : Frame → Head
head_of short = Short
head_of long = Long
head_of (whole n) = Whole

-- bytes used of a piece of m bytes, behind c gathered
abbrev pub used_of : Frame → ℕ → ℕ → ℕ
used_of short c m = m
used_of long c m = HEADER - c
used_of (whole n) c m = n - c

-- the buffer has room for any PDU, and the c bytes gathered brought no event yet
pub record RoomToGather (b : List ℕ) (c : ℕ) : Type 0 where
  pub room : BUFFER ≤ length b
  pub within : c ≤ length b
  pub quiet : frame LONGEST (take c b) ≡ short

-- nothing is gathered yet, and the piece has the header
pub record Opens (b p : List ℕ) : Type 0 where
  pub room : BUFFER ≤ length b
  pub header : HEADER ≤ length p

pub record Gathered (b : List ℕ) (c : ℕ) (p : List ℕ) (b' : List ℕ) (r : Got) : Type 0 where
  pub used : r.used ≡ used_of (frame LONGEST (take c b ++ p)) c (length p)
  pub head : r.head ≡ head_of (frame LONGEST (take c b ++ p))
  pub some : r.used ≤ length p
  pub room : c + r.used ≤ length b
  pub buffer : b' ≡ put b c (take r.used p)
