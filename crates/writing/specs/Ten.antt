-- The ten-byte PDUs: the fixed ones that are sent with no contents of the host's, by number, and the two that carry values.
use Rattle.std.specs.Prelude.{ℕ, List, [], ◌∷◌, get_or}
use Rattle.numbers.specs.Kinds.{ASSOCIATE-RJ, RELEASE-RQ, RELEASE-RP, ABORT}

abbrev pub NO-TEN : ℕ
NO-TEN = 0

abbrev pub ABORT-USER : ℕ
ABORT-USER = 1

abbrev pub ABORT-UNRECOGNIZED : ℕ
ABORT-UNRECOGNIZED = 2

abbrev pub ABORT-UNEXPECTED : ℕ
ABORT-UNEXPECTED = 3

abbrev pub ABORT-INVALID : ℕ
ABORT-INVALID = 4

abbrev pub REJECT-VERSION : ℕ
REJECT-VERSION = 5

abbrev pub TEN-RELEASE-RQ : ℕ
TEN-RELEASE-RQ = 6

abbrev pub TEN-RELEASE-RP : ℕ
TEN-RELEASE-RP = 7

-- a PDU-length of 4, a reserved byte, and three bytes: result, source and reason where the PDU has them, else reserved
abbrev pub ten_bytes : ℕ → ℕ → ℕ → ℕ → List ℕ
ten_bytes kind result source reason = kind ∷ 0 ∷ 0 ∷ 0 ∷ 0 ∷ 4 ∷ 0 ∷ result ∷ source ∷ reason ∷ []

-- in the order of their numbers
unfoldable pub tens : List (List ℕ)
tens =
    []
    ∷ ten_bytes ABORT 0 0 0  -- source 0
    ∷ ten_bytes ABORT 0 2 1  -- source 2: unrecognized PDU
    ∷ ten_bytes ABORT 0 2 2  -- source 2: unexpected PDU
    ∷ ten_bytes ABORT 0 2 6  -- source 2: invalid PDU parameter value
    ∷ ten_bytes ASSOCIATE-RJ 1 2 2  -- result 1, source 2: protocol version not supported
    ∷ ten_bytes RELEASE-RQ 0 0 0
    ∷ ten_bytes RELEASE-RP 0 0 0
    ∷ []

-- the bytes of a number: none for NO-TEN and above the last
unfoldable pub ten_of : ℕ → List ℕ
ten_of which = get_or tens which []

-- an A-ASSOCIATE-RJ and an A-ABORT with these values
unfoldable pub reject_bytes : ℕ → ℕ → ℕ → List ℕ
reject_bytes result source reason = ten_bytes ASSOCIATE-RJ result source reason

unfoldable pub abort_bytes : ℕ → ℕ → List ℕ
abort_bytes source reason = ten_bytes ABORT 0 source reason
