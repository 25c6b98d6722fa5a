-- Lengths in bytes.
use Rattle.std.specs.Prelude.{ℕ}

-- a PDU's header: "type, reserved byte, four length bytes"
abbrev pub HEADER : ℕ
HEADER = 6

-- the greatest PDU-length: "16,384 (house: one limit for all types)"
abbrev pub LONGEST : ℕ
LONGEST = 16384

-- a gather buffer that has room for any PDU, header and all
abbrev pub BUFFER : ℕ
BUFFER = 16390

-- an RJ, a RELEASE or an ABORT, whole
abbrev pub TEN : ℕ
TEN = 10

-- a title: "records of 16 bytes"
abbrev pub TITLE : ℕ
TITLE = 16

-- a record of a context sheet: "Records of 132 bytes"
abbrev pub RECORD : ℕ
RECORD = 132

-- a record of a role sheet: "records of 68 bytes"
abbrev pub ROLE : ℕ
ROLE = 68
