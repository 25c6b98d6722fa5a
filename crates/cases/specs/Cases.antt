-- Document 01, 'Both sides of each line': the cases marked P, 1, 2 and 4 to 11, as one table. What each asks, and what the paper answers.
use Rattle.std.specs.Prelude.{ℕ, Bool, true, false, not, List, [], ◌∷◌, ◌++◌, take, replicate, eqb}
use Rattle.laws.specs.Text.{bytes}
use Rattle.numbers.specs.Lengths.{BUFFER, TEN}
use Rattle.numbers.specs.Refusals.{NOT-REFUSED}
use Rattle.names.specs.Name.{name_ok}
use Rattle.titles.specs.Own.{title_refusal, known, title_place}
use Rattle.judging.specs.Pdu.{kind_of}
use Rattle.table.specs.ActionNames.{AE-6, AR-6, AR-8, AA-7, AA-8}
use Rattle.association.specs.Record.{timed}
use Rattle.association.specs.Calls.{Call, receive_of}

-- ---- what is asked

pub data Question : Type 0 where
  -- a call of `receive` in a state, as the requestor or not, with nothing gathered, on a piece
  receive : ℕ → Bool → List ℕ → Question
  -- which of our own titles, the first list, the sought one, the second, is; whether bytes are a whole valid PDU; whether bytes are a name
  place : List ℕ → List ℕ → Question
  pdu : List ℕ → Question
  name : List ℕ → Question

-- ---- what is answered

pub data Outcome : Type 0 where
  -- bytes used, action (0 for none), state after, whether deaf, length of the PDU shown, the bytes sent
  did : ℕ → ℕ → ℕ → Bool → ℕ → List ℕ → Outcome
  -- refusal, whether known, the place
  finds : ℕ → Bool → ℕ → Outcome
  says : Bool → Outcome

abbrev valid : Outcome
valid = says true

abbrev invalid : Outcome
invalid = says false

abbrev stands : ℕ → Outcome
stands k = finds NOT-REFUSED true k

abbrev none : Outcome
none = finds NOT-REFUSED false 0

-- what a host sees of a call
abbrev pub seen_as : Call → Outcome
seen_as c =
    did c.answer.told.used c.answer.told.action c.answer.assoc.state c.answer.assoc.deaf c.answer.told.shown (take c.answer.told.sent c.out)

abbrev pub gives : Question → Outcome
gives (receive s q p) =
    seen_as
    (receive_of (record { state = s; gathered = 0; deaf = false; artim = timed s; requestor = q; peer_max = 0 }) (replicate BUFFER 0) p (replicate TEN 0))
gives (place own sought) = finds (title_refusal own sought) (known own sought) (title_place own sought)
gives (pdu p) = says (not (eqb (kind_of p) 0))
gives (name s) = says (name_ok s)

-- ---- the bytes

abbrev requestor : Bool
requestor = true

abbrev acceptor : Bool
acceptor = false

abbrev abort_pdu : ℕ → ℕ → List ℕ
abort_pdu source reason = 0x07 ∷ 0x00 ∷ 0x00 ∷ 0x00 ∷ 0x00 ∷ 0x04 ∷ 0x00 ∷ 0x00 ∷ source ∷ reason ∷ []

abbrev release_rq : List ℕ
release_rq = 0x05 ∷ 0x00 ∷ 0x00 ∷ 0x00 ∷ 0x00 ∷ 0x04 ∷ 0x00 ∷ 0x00 ∷ 0x00 ∷ 0x00 ∷ []

-- a P-DATA-TF with one PDV: ID 1, control byte 3, no fragment
abbrev data_tf : List ℕ
data_tf = 0x04 ∷ 0x00 ∷ 0x00 ∷ 0x00 ∷ 0x00 ∷ 0x06 ∷ 0x00 ∷ 0x00 ∷ 0x00 ∷ 0x02 ∷ 0x01 ∷ 0x03 ∷ []

-- the RQ of case 3, PDU-length 155, with a version
abbrev rq : ℕ → List ℕ
rq version =
    (0x01 ∷ 0x00 ∷ 0x00 ∷ 0x00 ∷ 0x00 ∷ 155 ∷ 0x00 ∷ version ∷ 0x00 ∷ 0x00 ∷ bytes "STORE-EQUINE    " ++ (bytes "SCANNER         " ++ replicate 32 0x00))
    ++ ((0x10 ∷ 0x00 ∷ 0x00 ∷ 21 ∷ bytes "1.2.840.10008.3.1.1.1")
    ++ ((0x20 ∷ 0x00 ∷ 0x00 ∷ 46 ∷ 0x01 ∷ 0x00 ∷ 0x00 ∷ 0x00 ∷ [])
    ++ ((0x30 ∷ 0x00 ∷ 0x00 ∷ 17 ∷ bytes "1.2.840.10008.1.1")
    ++ ((0x40 ∷ 0x00 ∷ 0x00 ∷ 17 ∷ bytes "1.2.840.10008.1.2")
    ++ (0x50 ∷ 0x00 ∷ 0x00 ∷ 8 ∷ 0x51 ∷ 0x00 ∷ 0x00 ∷ 4 ∷ 0x00 ∷ 0x00 ∷ 0x40 ∷ 0x00 ∷ [])))))

-- ---- the table

pub record Row : Type 0 where
  pub asked : Question
  pub answered : Outcome

abbrev asks : Question → Outcome → Row
asks q a = record { asked = q; answered = a }

unfoldable pub cases : List Row
cases =
    -- 1: Sta6, type 08H, length 16,384: at byte 16,390, `07 00 00 00 00 04 00 00 02 01`
    asks (receive 6 acceptor (0x08 ∷ 0x00 ∷ 0x00 ∷ 0x00 ∷ 0x40 ∷ 0x00 ∷ replicate 16383 0xFF)) (did 16389 0 6 false 0 [])
    ∷ asks (receive 6 acceptor (0x08 ∷ 0x00 ∷ 0x00 ∷ 0x00 ∷ 0x40 ∷ 0x00 ∷ replicate 16385 0xFF))
    (did 16390 AA-8 13 false 0 (0x07 ∷ 0x00 ∷ 0x00 ∷ 0x00 ∷ 0x00 ∷ 0x04 ∷ 0x00 ∷ 0x00 ∷ 0x02 ∷ 0x01 ∷ []))
    -- 2: length 16,385: at byte 6, last byte `06`, deaf
    ∷ asks (receive 6 acceptor (0x08 ∷ 0x00 ∷ 0x00 ∷ 0x00 ∷ 0x40 ∷ [])) (did 5 0 6 false 0 [])
    ∷ asks (receive 6 acceptor (0x08 ∷ 0x00 ∷ 0x00 ∷ 0x00 ∷ 0x40 ∷ 0x01 ∷ 0xFF ∷ []))
    (did 6 AA-8 13 true 0 (0x07 ∷ 0x00 ∷ 0x00 ∷ 0x00 ∷ 0x00 ∷ 0x04 ∷ 0x00 ∷ 0x00 ∷ 0x02 ∷ 0x06 ∷ []))
    -- 4: " STORE-EQUINE   " equals STORE-EQUINE padded; STORE-EXOTIC differs
    ∷ asks (place (bytes "STORE-EQUINE    ") (bytes " STORE-EQUINE   ")) (stands 0)
    ∷ asks (place (bytes "STORE-EXOTIC    ") (bytes " STORE-EQUINE   ")) none
    ∷ asks (place (bytes "STORE-EXOTIC    STORE-EQUINE    ") (bytes " STORE-EQUINE   ")) (stands 1)
    -- 5: RELEASE-RQ in Sta7: requestor to Sta9, acceptor to Sta10
    ∷ asks (receive 7 requestor release_rq) (did 10 AR-8 9 false 0 [])
    ∷ asks (receive 7 acceptor release_rq) (did 10 AR-8 10 false 0 [])
    -- 6: P-DATA-TF in Sta7 AR-6; in Sta8 AA-8
    ∷ asks (receive 7 acceptor data_tf) (did 12 AR-6 7 false 12 [])
    ∷ asks (receive 8 acceptor data_tf) (did 12 AA-8 13 false 0 (abort_pdu 2 2))
    -- 7: RQ in Sta13: AA-7, source 2, reason 2
    ∷ asks (receive 13 acceptor (rq 0x01)) (did 161 AA-7 13 false 0 (abort_pdu 2 2))
    -- 8: ABORT source 1 invalid; source 0, reason 9 valid
    ∷ asks (pdu (abort_pdu 1 0)) invalid
    ∷ asks (pdu (abort_pdu 0 9)) valid
    -- 9: PDV length 1 invalid, 2 valid; P-DATA-TF length 0 invalid
    ∷ asks (pdu (0x04 ∷ 0x00 ∷ 0x00 ∷ 0x00 ∷ 0x00 ∷ 0x05 ∷ 0x00 ∷ 0x00 ∷ 0x00 ∷ 0x01 ∷ 0x01 ∷ [])) invalid
    ∷ asks (pdu (0x04 ∷ 0x00 ∷ 0x00 ∷ 0x00 ∷ 0x00 ∷ 0x06 ∷ 0x00 ∷ 0x00 ∷ 0x00 ∷ 0x02 ∷ 0x01 ∷ 0x03 ∷ [])) valid
    ∷ asks (pdu (0x04 ∷ 0x00 ∷ 0x00 ∷ 0x00 ∷ 0x00 ∷ 0x00 ∷ [])) invalid
    -- 10: names "1.0" and "0" valid; "1.02", "1.2." and empty invalid; 64 bytes can be valid, 65 never
    ∷ asks (name (bytes "1.0")) valid
    ∷ asks (name (bytes "0")) valid
    ∷ asks (name (bytes "1.02")) invalid
    ∷ asks (name (bytes "1.2.")) invalid
    ∷ asks (name (bytes "")) invalid
    ∷ asks (name (bytes "1.2.840.10008.1234567890.1234567890.1234567890.1234567890.123456")) valid
    ∷ asks (name (bytes "1.2.840.10008.1234567890.1234567890.1234567890.1234567890.1234567")) invalid
    -- 11: version 0002H rejected, 0003H accepted
    ∷ asks (receive 2 acceptor (rq 0x02)) (did 161 AE-6 13 false 0 (0x03 ∷ 0x00 ∷ 0x00 ∷ 0x00 ∷ 0x00 ∷ 0x04 ∷ 0x00 ∷ 0x01 ∷ 0x02 ∷ 0x02 ∷ []))
    ∷ asks (receive 2 acceptor (rq 0x03)) (did 161 AE-6 3 false 161 [])
    ∷ []
