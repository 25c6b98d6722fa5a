-- Document 01, 'Refusal numbers'.
use Rattle.std.specs.Prelude.{ℕ, List, Result, Ok, Err, codes}
use Rattle.numbers.specs.declared.refusals.Refusal.{Refusal}
use Rattle.numbers.specs.declared.refusals.Refusal.TheVariants.{BlankCell, ShortOutput, ShortGather, BadContents, LongPdu, BrokenRecord, NoSuchPdu}

abbrev pub NOT-REFUSED : ℕ
NOT-REFUSED = 0

-- "local event at a blank cell of Table 9-10"
abbrev pub BLANK-CELL : ℕ
BLANK-CELL = 1

-- "output too short; for receiving, always when below 10 bytes"
abbrev pub SHORT-OUTPUT : ℕ
SHORT-OUTPUT = 2

-- "gather buffer shorter than 16,390 when receiving, or than the gathered count at a local event"
abbrev pub SHORT-GATHER : ℕ
SHORT-GATHER = 3

-- "bad contents of a local request, title list, sought title, PDV number or sheet"
abbrev pub BAD-CONTENTS : ℕ
BAD-CONTENTS = 4

-- "PDU-length to be sent above 16,384, or a P-DATA-TF's above a non-zero peer maximum"
abbrev pub LONG-PDU : ℕ
LONG-PDU = 5

-- "broken record"
abbrev pub BROKEN-RECORD : ℕ
BROKEN-RECORD = 6

-- "a reading call got bytes that are no whole valid PDU of the kind asked for"
abbrev pub NO-SUCH-PDU : ℕ
NO-SUCH-PDU = 7

-- ---- the code's refusals, by their numbers
abbrev pub refusal_number : Refusal → ℕ
refusal_number BlankCell = BLANK-CELL
refusal_number ShortOutput = SHORT-OUTPUT
refusal_number ShortGather = SHORT-GATHER
refusal_number BadContents = BAD-CONTENTS
refusal_number LongPdu = LONG-PDU
refusal_number BrokenRecord = BROKEN-RECORD
refusal_number NoSuchPdu = NO-SUCH-PDU

-- what an answer says of its refusal: 0 for none
abbrev pub refusal_in : {T : Type 0} → Result T Refusal → ℕ
refusal_in (Ok x) = NOT-REFUSED
refusal_in (Err e) = refusal_number e

-- and in words, as bytes
abbrev pub refusal_words : Refusal → List ℕ
refusal_words BlankCell = codes "no local event in this state"
refusal_words ShortOutput = codes "the output or sheet is too short"
refusal_words ShortGather = codes "the gather buffer is too short"
refusal_words BadContents = codes "the contents may not be sent, or the number is past the last"
refusal_words LongPdu = codes "the PDU is too long"
refusal_words BrokenRecord = codes "the association's record is broken"
refusal_words NoSuchPdu = codes "no PDU of the kind asked for"
