-- Which of the seven a whole PDU is: document 01, 'Valid PDUs'. "Reserved bytes are never tested."
use Rattle.std.specs.Prelude.{ℕ, ◌+◌, Bool, false, ◌&&◌, ◌||◌, cond, List, length, take, drop, get_or, leb, eqb}
use Rattle.numbers.specs.Kinds.{NO-KIND, ASSOCIATE-RQ, ASSOCIATE-AC, ASSOCIATE-RJ, DATA-TF, RELEASE-RQ, RELEASE-RP, ABORT}
use Rattle.numbers.specs.Lengths.{HEADER, LONGEST}
use Rattle.octets.specs.Octets.{be16, be32, odd}
use Rattle.titles.specs.Title.{title_ok}
use Rattle.contents.specs.Contents.{items_ok, maximum_in}
use Rattle.pdvs.specs.Data.{pdvs_ok}
use Rattle.reasons.specs.Values.{reject_ok, abort_ok}

-- "The header is type, reserved byte, four length bytes, high byte first."
abbrev pub type_of : List ℕ → ℕ
type_of pdu = get_or pdu 0 0

abbrev pub pdu_length : List ℕ → ℕ
pdu_length pdu = be32 pdu 2

-- all bytes of one PDU, whose PDU-length is at most 16,384 ("house: one limit for all types")
unfoldable pub whole : List ℕ → Bool
whole pdu = eqb (length pdu) (HEADER + pdu_length pdu) && leb (pdu_length pdu) LONGEST

-- ---- the fields of an RQ and of an AC
abbrev pub version_of : List ℕ → ℕ
version_of pdu = be16 pdu 6

abbrev pub called_of : List ℕ → List ℕ
called_of pdu = take 16 (drop 10 pdu)

abbrev pub calling_of : List ℕ → List ℕ
calling_of pdu = take 16 (drop 26 pdu)

abbrev pub top_items : List ℕ → List ℕ
top_items pdu = drop 74 pdu

-- ---- each kind, of a whole PDU of its type
-- "01H RQ and 02H AC: length at least 68; then items"; "RQ titles: bytes 20H to 7EH without 5CH (PS3.5), not 16 spaces."
unfoldable pub request_ok : List ℕ → Bool
request_ok pdu = leb 68 (pdu_length pdu) && (title_ok (called_of pdu) && (title_ok (calling_of pdu) && items_ok 0x20 (top_items pdu)))

-- "AC titles are not tested. AC needs version bit 0."
unfoldable pub accept_ok : List ℕ → Bool
accept_ok pdu = leb 68 (pdu_length pdu) && (odd (version_of pdu) && items_ok 0x21 (top_items pdu))

-- "03H RJ: length 4; result 1 or 2; source/reason pairs .."
unfoldable pub reject_pdu_ok : List ℕ → Bool
reject_pdu_ok pdu = eqb (pdu_length pdu) 4 && reject_ok (get_or pdu 7 0) (get_or pdu 8 0) (get_or pdu 9 0)

-- "04H P-DATA-TF: one or more PDV items that fill it"
unfoldable pub data_ok : List ℕ → Bool
data_ok pdu = pdvs_ok 255 (drop HEADER pdu)

-- "05H, 06H: length 4."
unfoldable pub release_ok : List ℕ → Bool
release_ok pdu = eqb (pdu_length pdu) 4

-- "07H: length 4; source 0 (reason not tested) or 2 with reason .."
unfoldable pub abort_pdu_ok : List ℕ → Bool
abort_pdu_ok pdu = eqb (pdu_length pdu) 4 && abort_ok (get_or pdu 8 0) (get_or pdu 9 0)

-- ---- the kind: 1 to 7 as its type, or 0 for no whole valid PDU
unfoldable pub valid_as : ℕ → List ℕ → Bool
valid_as t pdu =
    cond (eqb t ASSOCIATE-RQ) (request_ok pdu)
    (cond (eqb t ASSOCIATE-AC) (accept_ok pdu)
    (cond (eqb t ASSOCIATE-RJ) (reject_pdu_ok pdu)
    (cond (eqb t DATA-TF) (data_ok pdu)
    (cond (eqb t RELEASE-RQ) (release_ok pdu)
    (cond (eqb t RELEASE-RP) (release_ok pdu)
    (cond (eqb t ABORT) (abort_pdu_ok pdu)
    false))))))

unfoldable pub kind_of : List ℕ → ℕ
kind_of pdu = cond (whole pdu && valid_as (type_of pdu) pdu) (type_of pdu) NO-KIND

-- "An RQ without bit 0 is valid but not acceptable"
unfoldable pub acceptable : List ℕ → Bool
acceptable pdu = eqb (kind_of pdu) ASSOCIATE-RQ && odd (version_of pdu)

-- the maximum of a valid RQ or AC, else 0
unfoldable pub maximum_of : List ℕ → ℕ
maximum_of pdu = cond (eqb (kind_of pdu) ASSOCIATE-RQ || eqb (kind_of pdu) ASSOCIATE-AC) (maximum_in (top_items pdu)) 0
