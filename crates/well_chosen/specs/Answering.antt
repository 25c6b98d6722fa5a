-- A request answered with no answer written by hand: an RQ is read, its answers are chosen, the AC is written, and each call is given 132 times the records of the one before.
use Rattle.std.specs.Prelude.{ℕ, ◌+◌, ◌*◌, ◌≤◌, ◌<◌, ◌≡◌, true, List, length, take, drop, get_or}
use Rattle.numbers.specs.Kinds.{ASSOCIATE-RQ}
use Rattle.numbers.specs.Lengths.{BUFFER, RECORD}
use Rattle.numbers.specs.Refusals.{NOT-REFUSED}
use Rattle.sheets.specs.Sheet.{site_ok}
use Rattle.reading.specs.Associate.{proposed, answered, Read}
use Rattle.reading.specs.Associate.{Associate}
use Rattle.choosing.specs.Choice.{site_in, chosen_for}
use Rattle.choosing.specs.Call.{Chosen, Chose}
use Rattle.user_items.specs.Sent.{User}
use Rattle.writing.specs.Fields.{AcFields}
use Rattle.writing.specs.Cases.{added}
use Rattle.writing.specs.Form.{ac_form, form_refusal, sent_bytes}

-- the bytes of a buffer that so many records take
abbrev pub records_in : ℕ → List ℕ → List ℕ
records_in n s = take (RECORD * n) s

-- the list is one of bytes
abbrev pub Bytes : List ℕ → Type 0
Bytes s = (i : ℕ) → get_or s i 0 < 256

-- an RQ was read, into a sheet of bytes and a role sheet; a site's sheet is good; from what was read the answers were chosen, into a sheet with room for 128 of them
pub record Chain (pdu site answer' : List ℕ) (f : Associate) (c : Chosen) : Type 0 where
  pub sheet : List ℕ
  pub sheet' : List ℕ
  pub roles : List ℕ
  pub roles' : List ℕ
  pub answer : List ℕ
  pub bytes : Bytes sheet'
  pub read : Read ASSOCIATE-RQ pdu sheet roles f sheet' roles'
  pub request : f.refusal ≡ NOT-REFUSED
  pub good : site_ok site ≡ true
  pub room : RECORD * 128 ≤ length answer
  pub chose : Chose (records_in f.records sheet') site answer c answer'

-- what the accept response is then given: the RQ's PDU bytes 11 to 74, its application name, our user information, the answers
abbrev pub response_of : List ℕ → Associate → User → Chosen → List ℕ → AcFields
response_of pdu f u c answer' =
    record { echoed = take 64 (drop 10 pdu); application = take f.application_len (drop f.application_at pdu); user = u; sheet = records_in c.records answer' }

-- the choice is not refused. Neither is the accept response, with user information that may be sent, where a PDU may have as many bytes as the RQ and what is added to the maximum
-- length together, and the output has room for them; nor, whatever the RQ's length, where what is added takes at most 6,508 bytes (an own class UID, a version name and the counts
-- take at most 96, a role at most 72) and the output has room for any PDU. The AC then says what was chosen for each context that the RQ proposed
pub record Answering (pdu site answer' : List ℕ) (f : Associate) (u : User) (c : Chosen) : Type 0 where
  pub chosen_all : c.refusal ≡ NOT-REFUSED
  pub sent : (room : ℕ) → length pdu + added u ≤ BUFFER → length pdu + added u ≤ room → form_refusal (ac_form (response_of pdu f u c answer')) room ≡ NOT-REFUSED
  pub sent_any : (room : ℕ) → added u ≤ 6508 → BUFFER ≤ room → form_refusal (ac_form (response_of pdu f u c answer')) room ≡ NOT-REFUSED
  pub says : (room : ℕ) → form_refusal (ac_form (response_of pdu f u c answer')) room ≡ NOT-REFUSED
      → answered (sent_bytes (ac_form (response_of pdu f u c answer')) room) ≡ chosen_for (site_in site) (proposed pdu)
