-- Worked examples of the rules, by the errors that they shut out: antt computes both sides. Each reserved byte is not zero in one of them.
-- Assumes nothing.
use Prim.Native.Nat.{ℕ}
use mathlib.Core.Bool.{Bool, true, false, ◌&&◌}
use mathlib.Core.List.{List, [], ◌∷◌, ◌++◌}
use mathlib.Core.Path.{◌≡◌, refl}
use lib.ListN.{length, take, replicate}
use lib.Dec.{eqb}
use Rattle.laws.specs.Text.{bytes}
use Rattle.octets.specs.Octets.{two, four}
use Rattle.titles.specs.Title.{title_ok}
use Rattle.items.specs.Wire.{item_bytes}
use Rattle.contents.proofs.Examples.{contents_open}
use Rattle.pdvs.proofs.Examples.{pdvs_open}
use Rattle.reasons.specs.Values.{reject_reasons, reject_ok, abort_ok}
use Rattle.judging.specs.Pdu.{whole, request_ok, accept_ok, reject_pdu_ok, data_ok, release_ok, abort_pdu_ok, valid_as, kind_of, acceptable, maximum_of}

-- a PDU of a type with a body
abbrev pdu : ℕ → List ℕ → List ℕ
pdu t body = t ∷ 0xFF ∷ (four (length body) ++ body)

-- an RQ or AC: version, called and calling title, the reserved bytes, items
abbrev frame : ℕ → ℕ → List ℕ → List ℕ → List ℕ
frame t version called items = pdu t (0 ∷ version ∷ 0xFF ∷ 0xFF ∷ (called ++ (bytes "STORE-EQUINE    " ++ (replicate 32 0xFF ++ items))))

abbrev title : List ℕ
title = bytes " STORE-EQUINE   "

abbrev rq : List ℕ → List ℕ
rq items = frame 1 1 title items

abbrev ac : List ℕ → List ℕ
ac items = frame 2 1 (replicate 16 0) items

abbrev name : List ℕ
name = bytes "1.2.840.10008.1.1"

-- an item with a reserved byte that is not zero
abbrev item : ℕ → List ℕ → List ℕ
item t body = t ∷ 0xFF ∷ (two (length body) ++ body)

abbrev application : List ℕ
application = item 0x10 name

abbrev context : ℕ → List ℕ
context id = item 0x20 (id ∷ 0xFF ∷ 0xFF ∷ 0xFF ∷ (item 0x30 name ++ item 0x40 name))

abbrev answer : ℕ → ℕ → List ℕ
answer id result = item 0x21 (id ∷ 0xFF ∷ result ∷ 0xFF ∷ item 0x40 name)

abbrev maximum : List ℕ
maximum = item 0x51 (0 ∷ 0 ∷ 0x40 ∷ 0 ∷ [])

abbrev user : List ℕ
user = item 0x50 maximum

abbrev unknown : List ℕ
unknown = item 0xF0 (1 ∷ 2 ∷ 3 ∷ [])

-- bytes and their kind
record Case : Type 0 where
  given : List ℕ
  kind : ℕ

abbrev is : ℕ → List ℕ → Case
is k g = record { given = g; kind = k }

abbrev asked : List Case → Bool
asked [] = true
asked (c ∷ cs) = eqb (kind_of c.given) c.kind && asked cs

abbrev requests : List Case
requests =
    is 1 (rq (application ++ (context 1 ++ user)))
    ∷ is 1 (rq (unknown ++ (application ++ (unknown ++ (context 3 ++ (unknown ++ (context 1 ++ (unknown ++ (user ++ unknown)))))))))
    -- a 21H is another type in an RQ, and its ID does not count
    ∷ is 1 (rq (application ++ (answer 1 9 ++ (context 1 ++ user))))
    -- version 2 is valid
    ∷ is 1 (frame 1 2 title (application ++ (context 1 ++ user)))
    -- order, and one of each
    ∷ is 0 (rq (context 1 ++ (application ++ user)))
    ∷ is 0 (rq (application ++ (user ++ context 1)))
    ∷ is 0 (rq (application ++ (application ++ (context 1 ++ user))))
    ∷ is 0 (rq (application ++ (context 1 ++ (user ++ user))))
    ∷ is 0 (rq (application ++ user))
    ∷ is 0 (rq (application ++ context 1))
    -- IDs: even; twice, also where not adjacent
    ∷ is 0 (rq (application ++ (context 2 ++ user)))
    ∷ is 0 (rq (application ++ (context 1 ++ (context 1 ++ user))))
    ∷ is 0 (rq (application ++ (context 1 ++ (context 3 ++ (context 1 ++ user)))))
    -- inside a 20H: a 40H before its 30H; no 40H; an unknown one is skipped; three bytes left over; a bad name
    ∷ is 0 (rq (application ++ (item_bytes 0x20 (1 ∷ 0 ∷ 0 ∷ 0 ∷ (item_bytes 0x40 name ++ item_bytes 0x30 name)) ++ user)))
    ∷ is 0 (rq (application ++ (item_bytes 0x20 (1 ∷ 0 ∷ 0 ∷ 0 ∷ item_bytes 0x30 name) ++ user)))
    ∷ is 1 (rq (application ++ (item_bytes 0x20 (1 ∷ 0 ∷ 0 ∷ 0 ∷ (unknown ++ (item_bytes 0x30 name ++ (unknown ++ item_bytes 0x40 name)))) ++ user)))
    ∷ is 0 (rq (application ++ (item_bytes 0x20 (1 ∷ 0 ∷ 0 ∷ 0 ∷ (item_bytes 0x30 name ++ (item_bytes 0x40 name ++ (0 ∷ 0 ∷ 0 ∷ [])))) ++ user)))
    ∷ is 0 (rq (application ++ (item_bytes 0x20 (1 ∷ 0 ∷ 0 ∷ 0 ∷ (item_bytes 0x30 name ++ item_bytes 0x40 (bytes "1.2."))) ++ user)))
    -- inside a 50H: a 51H of length 2; two; none; an unknown one is skipped
    ∷ is 0 (rq (application ++ (context 1 ++ item_bytes 0x50 (item_bytes 0x51 (0x40 ∷ 0 ∷ [])))))
    ∷ is 0 (rq (application ++ (context 1 ++ item_bytes 0x50 (maximum ++ maximum))))
    ∷ is 0 (rq (application ++ (context 1 ++ item_bytes 0x50 [])))
    ∷ is 1 (rq (application ++ (context 1 ++ item_bytes 0x50 (unknown ++ (maximum ++ unknown)))))
    -- titles
    ∷ is 0 (frame 1 1 (bytes "                ") (application ++ (context 1 ++ user)))
    ∷ is 0 (frame 1 1 (replicate 16 0) (application ++ (context 1 ++ user)))
    -- a remainder of 1 and of 3 bytes; one byte more than the PDU-length says, and one less
    ∷ is 0 (rq (application ++ (context 1 ++ (user ++ (0 ∷ [])))))
    ∷ is 0 (rq (application ++ (context 1 ++ (user ++ (0 ∷ 0 ∷ 0 ∷ [])))))
    ∷ is 0 (rq (application ++ (context 1 ++ user)) ++ (0 ∷ []))
    ∷ is 0 (take 156 (rq (application ++ (context 1 ++ user))))
    ∷ []

abbrev answers : List Case
answers =
    is 2 (ac (application ++ (answer 1 0 ++ (answer 3 4 ++ user))))
    -- a 20H is another type in an AC
    ∷ is 2 (ac (application ++ (context 2 ++ (answer 1 3 ++ user))))
    -- a 30H in a 21H is skipped
    ∷ is 2 (ac (application ++ (item_bytes 0x21 (1 ∷ 0 ∷ 0 ∷ 0 ∷ (item_bytes 0x30 [] ++ item_bytes 0x40 name)) ++ user)))
    -- refused contexts: the transfer name empty, no sub-item, a sub-item that passes the end, three bytes left over
    ∷ is 2 (ac (application ++ (item_bytes 0x21 (1 ∷ 0 ∷ 3 ∷ 0 ∷ item_bytes 0x40 []) ++ user)))
    ∷ is 2 (ac (application ++ (item_bytes 0x21 (1 ∷ 0 ∷ 1 ∷ 0 ∷ []) ++ user)))
    ∷ is 2 (ac (application ++ (item_bytes 0x21 (1 ∷ 0 ∷ 4 ∷ 0 ∷ 0x40 ∷ 0 ∷ 0 ∷ 1 ∷ []) ++ user)))
    ∷ is 2 (ac (application ++ (item_bytes 0x21 (1 ∷ 0 ∷ 2 ∷ 0 ∷ (item_bytes 0x40 name ++ (0 ∷ 0 ∷ 0 ∷ []))) ++ user)))
    -- no version bit 0; result 5; accepted with the transfer name empty; three bytes; two 40H; an ID twice
    ∷ is 0 (frame 2 2 title (application ++ (answer 1 0 ++ user)))
    ∷ is 0 (ac (application ++ (answer 1 5 ++ user)))
    ∷ is 0 (ac (application ++ (item_bytes 0x21 (1 ∷ 0 ∷ 0 ∷ 0 ∷ item_bytes 0x40 []) ++ user)))
    ∷ is 0 (ac (application ++ (item_bytes 0x21 (1 ∷ 0 ∷ 3 ∷ []) ++ user)))
    ∷ is 0 (ac (application ++ (item_bytes 0x21 (1 ∷ 0 ∷ 0 ∷ 0 ∷ (item_bytes 0x40 name ++ item_bytes 0x40 name)) ++ user)))
    ∷ is 0 (ac (application ++ (answer 1 0 ++ (answer 3 0 ++ (answer 1 0 ++ user)))))
    ∷ []

abbrev others : List Case
others =
    is 3 (pdu 3 (0xFF ∷ 1 ∷ 1 ∷ 7 ∷ []))
    ∷ is 0 (pdu 3 (0 ∷ 1 ∷ 1 ∷ 4 ∷ []))
    ∷ is 3 (pdu 3 (0 ∷ 2 ∷ 3 ∷ 2 ∷ []))
    ∷ is 0 (pdu 3 (0 ∷ 2 ∷ 3 ∷ 0 ∷ []))
    ∷ is 0 (pdu 3 (0 ∷ 3 ∷ 1 ∷ 1 ∷ []))
    ∷ is 0 (pdu 3 (0 ∷ 1 ∷ 1 ∷ 1 ∷ 0 ∷ []))
    -- PDV length 1, and 2 with bits 2 to 7; two PDVs; a length that passes the end, FFFFFFFFH too; even ID; two bytes left over; no PDV
    ∷ is 0 (pdu 4 (0 ∷ 0 ∷ 0 ∷ 1 ∷ 1 ∷ []))
    ∷ is 4 (pdu 4 (0 ∷ 0 ∷ 0 ∷ 2 ∷ 1 ∷ 0xFC ∷ []))
    ∷ is 4 (pdu 4 (0 ∷ 0 ∷ 0 ∷ 3 ∷ 1 ∷ 3 ∷ 9 ∷ 0 ∷ 0 ∷ 0 ∷ 2 ∷ 255 ∷ 0 ∷ []))
    ∷ is 0 (pdu 4 (0 ∷ 0 ∷ 0 ∷ 4 ∷ 1 ∷ 3 ∷ 9 ∷ []))
    ∷ is 0 (pdu 4 (255 ∷ 255 ∷ 255 ∷ 255 ∷ 1 ∷ 3 ∷ 9 ∷ []))
    ∷ is 0 (pdu 4 (0 ∷ 0 ∷ 0 ∷ 2 ∷ 2 ∷ 3 ∷ []))
    ∷ is 0 (pdu 4 (0 ∷ 0 ∷ 0 ∷ 2 ∷ 1 ∷ 3 ∷ 0 ∷ 0 ∷ []))
    ∷ is 0 (pdu 4 [])
    ∷ is 5 (pdu 5 (0xDE ∷ 0xAD ∷ 0xBE ∷ 0xEF ∷ []))
    ∷ is 0 (pdu 5 (0 ∷ 0 ∷ 0 ∷ []))
    ∷ is 6 (pdu 6 (0xDE ∷ 0xAD ∷ 0xBE ∷ 0xEF ∷ []))
    ∷ is 7 (pdu 7 (0xFF ∷ 0xFF ∷ 0 ∷ 9 ∷ []))
    ∷ is 0 (pdu 7 (0 ∷ 0 ∷ 1 ∷ 0 ∷ []))
    ∷ is 7 (pdu 7 (0 ∷ 0 ∷ 2 ∷ 6 ∷ []))
    ∷ is 0 (pdu 7 (0 ∷ 0 ∷ 2 ∷ 3 ∷ []))
    ∷ is 0 (pdu 7 (0 ∷ 0 ∷ 2 ∷ 7 ∷ []))
    ∷ is 0 (pdu 8 (0 ∷ 0 ∷ 0 ∷ 0 ∷ []))
    ∷ is 0 (pdu 0 (0 ∷ 0 ∷ 0 ∷ 0 ∷ []))
    ∷ is 0 (5 ∷ 0 ∷ 0 ∷ [])
    ∷ is 0 []
    ∷ []

-- what the definitions of a PDU's kind compute with, by one name for an `unfolding` line
unfoldable pub judging_open : Unit {0}
unfolding contents_open pdvs_open kind_of valid_as whole request_ok accept_ok reject_pdu_ok data_ok release_ok abort_pdu_ok acceptable maximum_of reject_reasons reject_ok abort_ok title_ok
judging_open = tt

pub kinds : (asked requests && (asked answers && asked others)) ≡ true
unfolding judging_open
kinds = refl

-- version 2 is valid but not acceptable, 3 is; and the maximum
pub versions : (acceptable (frame 1 3 title (application ++ (context 1 ++ user))) ≡ true) × (acceptable (frame 1 2 title (application ++ (context 1 ++ user))) ≡ false)
unfolding judging_open
versions = (refl, refl)

pub maxima : maximum_of (ac (application ++ (answer 1 0 ++ user))) ≡ 16384
unfolding judging_open
maxima = refl

-- a P-DATA-TF whose one PDV item fills it: of length 16,384, and of 16,385
pub limits : (kind_of (pdu 4 (four 16380 ++ (1 ∷ 0 ∷ replicate 16378 0))) ≡ 4) × (kind_of (pdu 4 (four 16381 ++ (1 ∷ 0 ∷ replicate 16379 0))) ≡ 0)
unfolding judging_open
limits = (refl, refl)
