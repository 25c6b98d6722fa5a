-- A PDV by its number: "Reading a PDV by its number, from 0, hands back the fragment's own part of the gathered PDU. A number past the last is refused with 4." And one by its place.
use Rattle.std.specs.Prelude.{ℕ, zero, suc, ◌+◌, ◌-◌, Bool, not, ◌&&◌, cond, List, [], ◌∷◌, length, take, drop, get_or, leb, ltb, eqb, Result, Ok, Err}
use Rattle.laws.specs.Refusals.{first_due}
use Rattle.numbers.specs.Refusals.{NOT-REFUSED, BAD-CONTENTS, NO-SUCH-PDU, refusal_number}
use Rattle.numbers.specs.declared.refusals.Refusal.{Refusal}
use Rattle.numbers.specs.Kinds.{DATA-TF}
use Rattle.numbers.specs.Lengths.{HEADER}
use Rattle.octets.specs.Octets.{be32, odd}
use Rattle.pdvs.specs.Data.{Pdv, pdvs, size}
use Rattle.judging.specs.Pdu.{kind_of}
use Rattle.reading.specs.declared.data.Pdv.{Pdv as Told}

-- refusal: 0, or 7 or 4 with all else 0. The fragment starts at start, counted from the PDU's first byte, and has len bytes
pub record DataRead : Type 0 where
  pub refusal : ℕ
  pub id : ℕ
  pub control : ℕ
  pub start : ℕ
  pub len : ℕ

-- the PDVs of a P-DATA-TF
unfoldable pub pdvs_of : List ℕ → List Pdv
pdvs_of pdu = pdvs (drop HEADER pdu)

-- PDV n of a list
unfoldable pub pdv : List Pdv → ℕ → Pdv
pdv ps n = get_or ps n (record { id = 0; control = 0; fragment = [] })

-- where its fragment starts in the PDU: behind the header, the PDVs before it, and its own length, ID and control byte
unfoldable pub start_of : List Pdv → ℕ → ℕ
start_of ps n = HEADER + size (take n ps) + 6

-- no whole valid P-DATA-TF; then a number past the last
abbrev pub data_tests : List ℕ → ℕ → List (Bool × ℕ)
data_tests pdu n =
    (not (eqb (kind_of pdu) DATA-TF), NO-SUCH-PDU)
    ∷ (not (ltb n (length (pdvs_of pdu))), BAD-CONTENTS)
    ∷ []

abbrev pub data_refusal : List ℕ → ℕ → ℕ
data_refusal pdu n = first_due (data_tests pdu n)

-- refused: all else 0
abbrev pub no_data : ℕ → DataRead
no_data n = record { refusal = n; id = 0; control = 0; start = 0; len = 0 }

unfoldable pub data_of : List ℕ → ℕ → DataRead
data_of pdu n =
    cond (eqb (data_refusal pdu n) NOT-REFUSED)
    (record {
      refusal = NOT-REFUSED;
      id = (pdv (pdvs_of pdu) n).id;
      control = (pdv (pdvs_of pdu) n).control;
      start = start_of (pdvs_of pdu) n;
      len = length (pdv (pdvs_of pdu) n).fragment;
    })
    (no_data (data_refusal pdu n))

-- the code's answer as that record
abbrev pub data_as : Result Told Refusal → DataRead
data_as (Ok p) = record { refusal = NOT-REFUSED; id = p.id; control = p.control; start = p.start; len = p.len }
data_as (Err e) = no_data (refusal_number e)

-- the part of the PDU from that start, of that length: the fragment (DataLaws.fragment_is), and nothing where refused
unfoldable pub fragment_of : List ℕ → ℕ → List ℕ
fragment_of pdu n = take (data_of pdu n).len (drop (data_of pdu n).start pdu)

-- ---- a PDV by its place: no reading call of document 01; the PDU's header and its other PDVs are not looked at
-- a whole PDV item stands at a place behind the header: "four-byte length at least 2, odd ID, control byte .., fragment, perhaps empty"
unfoldable pub pdv_stands : List ℕ → ℕ → Bool
pdv_stands pdu at = leb HEADER at && (leb 2 (be32 pdu at) && (leb (at + 4 + be32 pdu at) (length pdu) && odd (get_or pdu (at + 4) 0)))

unfoldable pub data_at : List ℕ → ℕ → DataRead
data_at pdu at =
    cond (pdv_stands pdu at)
    (record { refusal = NOT-REFUSED; id = get_or pdu (at + 4) 0; control = get_or pdu (at + 5) 0; start = at + 6; len = be32 pdu at - 2 })
    (no_data BAD-CONTENTS)

-- where a host is after n PDVs: at first behind the header, then each time behind the fragment that stood where it was
unfoldable pub place_after : List ℕ → ℕ → ℕ
place_after pdu zero = HEADER
place_after pdu (suc n) = (data_at pdu (place_after pdu n)).start + (data_at pdu (place_after pdu n)).len
