-- The numbers of the 19 events, in the row order of Table 9-10 of PS3.8 2017e: those that the host gives, and those that received bytes bring.
use Rattle.std.specs.Prelude.{ℕ}

abbrev pub ASSOCIATE-REQUEST : ℕ
ASSOCIATE-REQUEST = 1

abbrev pub TRANSPORT-CONFIRM : ℕ
TRANSPORT-CONFIRM = 2

abbrev pub AC-RECEIVED : ℕ
AC-RECEIVED = 3

abbrev pub RJ-RECEIVED : ℕ
RJ-RECEIVED = 4

abbrev pub TRANSPORT-INDICATION : ℕ
TRANSPORT-INDICATION = 5

abbrev pub RQ-RECEIVED : ℕ
RQ-RECEIVED = 6

abbrev pub ACCEPT-RESPONSE : ℕ
ACCEPT-RESPONSE = 7

abbrev pub REJECT-RESPONSE : ℕ
REJECT-RESPONSE = 8

abbrev pub DATA-REQUEST : ℕ
DATA-REQUEST = 9

abbrev pub DATA-RECEIVED : ℕ
DATA-RECEIVED = 10

abbrev pub RELEASE-REQUEST : ℕ
RELEASE-REQUEST = 11

abbrev pub RELEASE-RQ-RECEIVED : ℕ
RELEASE-RQ-RECEIVED = 12

abbrev pub RELEASE-RP-RECEIVED : ℕ
RELEASE-RP-RECEIVED = 13

abbrev pub RELEASE-RESPONSE : ℕ
RELEASE-RESPONSE = 14

abbrev pub ABORT-REQUEST : ℕ
ABORT-REQUEST = 15

abbrev pub ABORT-RECEIVED : ℕ
ABORT-RECEIVED = 16

abbrev pub TRANSPORT-CLOSED : ℕ
TRANSPORT-CLOSED = 17

abbrev pub ARTIM-EXPIRED : ℕ
ARTIM-EXPIRED = 18

abbrev pub INVALID-RECEIVED : ℕ
INVALID-RECEIVED = 19
