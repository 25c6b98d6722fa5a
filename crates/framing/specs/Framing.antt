-- Framing: the events that lie in a list of bytes. Nothing here knows of a machine.
use Rattle.std.specs.Prelude.{ℕ, ◌+◌, cond, List, [], ◌∷◌, length, take, drop, ltb}
use Rattle.octets.specs.Octets.{be32}
use Rattle.framing.specs.Rounds.{by_length}

-- "The header is type, reserved byte, four length bytes, high byte first."
unfoldable pub length_field : List ℕ → ℕ
length_field s = be32 s 2

-- what the bytes since the last event begin with: no event yet; a length above the limit; a whole PDU of n bytes
pub data Frame : Type 0 where
  short : Frame
  long : Frame
  whole : ℕ → Frame

-- "When six bytes are there and the length is above 16,384 .., the invalid event comes at that sixth byte, whatever the type ..
-- Otherwise the event comes with the last byte (length 0: the sixth)."
unfoldable pub frame : ℕ → List ℕ → Frame
frame limit s =
    cond (ltb (length s) 6) short
    (cond (ltb limit (length_field s)) long
    (cond (ltb (length s) (6 + length_field s)) short
    (whole (6 + length_field s))))

-- an event that bytes bring: a whole PDU, or a length above the limit
pub data Brought : Type 0 where
  pdu : List ℕ → Brought
  over_length : Brought

-- the events in a list of bytes, and the bytes behind the last of them
pub record Framed : Type 0 where
  pub events : List Brought
  pub rest : List ℕ

abbrev pub no_event : List ℕ → Framed
no_event s = record { events = []; rest = s }

abbrev pub leading : Brought → Framed → Framed
leading v x = record { events = v ∷ x.events; rest = x.rest }

-- the event that s begins with, if any, and then `go` on what is behind it
abbrev pub split_by : Frame → (List ℕ → Framed) → List ℕ → Framed
split_by short go s = no_event s
split_by long go s = leading over_length (go (drop 6 s))
split_by (whole n) go s = leading (pdu (take n s)) (go (drop n s))

-- All the events in s. What to believe of it is `split_step`: split limit s ≡ split_by (frame limit s) (split limit) s.
unfoldable pub split : ℕ → List ℕ → Framed
split limit s = by_length no_event (λ go t. split_by (frame limit t) go t) s
