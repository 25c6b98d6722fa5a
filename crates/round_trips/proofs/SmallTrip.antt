-- The PDUs without items, and a P-DATA-TF: each is a whole valid PDU of its kind and reads back as its contents.
-- Assumes nothing.
use Prim.Native.Nat.{ℕ, ◌-◌, ◌≤◌}
use native.Mathlib.Omega.{arith}
use mathlib.Core.Bool.{Bool, true, false, ◌&&◌, cond}
use mathlib.Core.List.{List, [], ◌∷◌}
use mathlib.Core.Path.{◌≡◌, refl}
use lib.ListN.{length, get_or-eq_default}
use lib.Dec.{leb, ltb, eqb}
use borrow.Author.Tests.{le-leb, leb-true, ltb-true, ltb-false}
use Rattle.laws.specs.Lists.{all}
use Rattle.laws.proofs.Booleans.{left_of, right_of, both_of}
use Rattle.octets.specs.Octets.{be16, be32, odd}
use Rattle.reasons.specs.Values.{reject_ok, abort_ok}
use Rattle.pdvs.specs.Data.{Pdv, pdvs, size, pdv_ok, pdvs_ok}
use Rattle.judging.specs.Pdu.{whole, reject_pdu_ok, data_ok, release_ok, abort_pdu_ok, valid_as, kind_of}
use Rattle.judging.proofs.KindLaws.{kind_of_valid}
use Rattle.reading.specs.Values.{reject_in, abort_in}
use Rattle.reading.specs.Data.{pdvs_of, pdv, data_of, fragment_of}
use Rattle.reading.proofs.DataLaws.{fragment_is}
use Rattle.writing.specs.Fields.{Reject, Items, Abort, reject_good, items_good, abort_good}
use Rattle.writing.specs.Ten.{tens, ten_of, reject_bytes, abort_bytes}
use Rattle.writing.specs.Wire.{pdu_bytes}
use Rattle.writing.specs.Form.{reject_form, most_of, data_form, release_rq_form, release_rp_form, abort_form}
use Rattle.round_trips.specs.Trips.{RejectTrip, AbortTrip, pdv_read, DataTrip}
use Rattle.round_trips.proofs.PduTrip.{pdu_whole, pdu_long}

-- ---- RJ
module _ (result source reason : ℕ) (g : reject_ok result source reason ≡ true) where
  reject_kind : kind_of (reject_bytes result source reason) ≡ 3
  unfolding reject_bytes whole valid_as reject_pdu_ok be32 be16
  reject_kind = kind_of_valid (reject_bytes result source reason) 3 refl refl g

  reject_read : reject_in (reject_bytes result source reason) ≡ record { refusal = 0; result = result; source = source; reason = reason }
  unfolding reject_in reject_bytes
  reject_read = rw reject_kind

pub reject_trip : (f : Reject) → reject_good f ≡ true → RejectTrip f (reject_form f).pdu
unfolding reject_form reject_good
reject_trip f g = record { kind = reject_kind f.result f.source f.reason g; read = reject_read f.result f.source f.reason g }

-- ---- ABORT: what may be sent is good on receipt
sent_abort : (source reason : ℕ) (b : Bool) → eqb source 0 ≡ b → cond b (eqb reason 0) (abort_ok source reason) ≡ true → abort_ok source reason ≡ true
unfolding abort_ok
sent_abort source reason true e g = rw e
sent_abort source reason false e g = g

module _ (source reason : ℕ) (g : abort_ok source reason ≡ true) where
  abort_kind : kind_of (abort_bytes source reason) ≡ 7
  unfolding abort_bytes whole valid_as abort_pdu_ok be32 be16
  abort_kind = kind_of_valid (abort_bytes source reason) 7 refl refl g

  abort_read : abort_in (abort_bytes source reason) ≡ record { refusal = 0; source = source; reason = reason }
  unfolding abort_in abort_bytes
  abort_read = rw abort_kind

pub abort_trip : (f : Abort) → abort_good f ≡ true → AbortTrip f (abort_form f).pdu
unfolding abort_form abort_good
abort_trip f g =
    let k = sent_abort f.source f.reason (eqb f.source 0) refl g in
    record { kind = abort_kind f.source f.reason k; read = abort_read f.source f.reason k }

-- ---- RELEASE-RQ, RELEASE-RP
pub release_rq_trip : kind_of release_rq_form.pdu ≡ 5
unfolding ten_of tens whole valid_as release_ok kind_of be32 be16
release_rq_trip = refl

pub release_rp_trip : kind_of release_rp_form.pdu ≡ 6
unfolding ten_of tens whole valid_as release_ok kind_of be32 be16
release_rp_trip = refl

-- ---- P-DATA-TF: local items are good on receipt
pdvs_received : (ps : List Pdv) → all (pdv_ok 3) ps ≡ true → all (pdv_ok 255) ps ≡ true
unfolding pdv_ok
pdvs_received [] q = refl
pdvs_received (p ∷ ps) q =
    let k : (odd p.id && leb p.control 3) ≡ true = left_of _ _ q in
    let c : p.control ≤ 3 = leb-true _ _ (right_of (odd p.id) _ k) in
    both_of _ _ (both_of (odd p.id) _ (left_of _ _ k) (le-leb p.control 255 (omega arith))) (pdvs_received ps (right_of (pdv_ok 3 p) _ q))

received : (s : List ℕ) → pdvs_ok 3 s ≡ true → pdvs_ok 255 s ≡ true
unfolding pdvs_ok
received s q =
    let q₂ : (eqb (size (pdvs s)) (length s) && all (pdv_ok 3) (pdvs s)) ≡ true = right_of (leb 1 (length (pdvs s))) _ q in
    let n : leb 1 (length (pdvs s)) ≡ true = left_of _ (eqb (size (pdvs s)) (length s) && all (pdv_ok 3) (pdvs s)) q in
    let z : eqb (size (pdvs s)) (length s) ≡ true = left_of _ (all (pdv_ok 3) (pdvs s)) q₂ in
    both_of _ _ n (both_of _ _ z (pdvs_received (pdvs s) (right_of (eqb (size (pdvs s)) (length s)) _ q₂)))

most_low : (peer : ℕ) → most_of peer ≤ 16384
unfolding most_of
most_low peer = go (eqb peer 0) (leb peer 16384) refl
  where
    go : (a b : Bool) → leb peer 16384 ≡ b → cond a 16384 (cond b peer 16384) ≤ 16384
    go true b q = omega arith
    go false true q = leb-true peer 16384 q
    go false false q = omega arith

-- PDV n of a valid P-DATA-TF, or none
module _ (x : List ℕ) (v : kind_of x ≡ 4) (n : ℕ) where
  read_is : data_of x n ≡ pdv_read (pdvs_of x) n
  unfolding pdv_read data_of
  read_is = go (ltb n (length (pdvs_of x))) refl
    where
      go : (b : Bool) → ltb n (length (pdvs_of x)) ≡ b → data_of x n ≡ pdv_read (pdvs_of x) n
      go true q = rw (v, q)
      go false q = rw (v, q)

  handed : fragment_of x n ≡ (pdv (pdvs_of x) n).fragment
  unfolding pdv fragment_of data_of
  handed = go (ltb n (length (pdvs_of x))) refl
    where
      go : (b : Bool) → ltb n (length (pdvs_of x)) ≡ b → fragment_of x n ≡ (pdv (pdvs_of x) n).fragment
      go true q = fragment_is x n v (ltb-true _ _ q)
      go false q = rw (v, q, get_or-eq_default (pdvs_of x) (record { id = 0; control = 0; fragment = [] }) (ltb-false n (length (pdvs_of x)) q))

pub data_trip : (peer : ℕ) (f : Items) → items_good f ≡ true → length (data_form peer f).pdu - 6 ≤ most_of peer → DataTrip f (data_form peer f).pdu
unfolding data_form items_good valid_as data_ok pdu_bytes pdvs_of
data_trip peer f g h =
    let m = most_low peer in
    let l = pdu_long 0x04 f.items in
    let k = kind_of_valid (pdu_bytes 0x04 f.items) 4 (pdu_whole 0x04 f.items (omega arith)) refl (received f.items g) in
    record { kind = k; body = refl; read = read_is (pdu_bytes 0x04 f.items) k; fragment = handed (pdu_bytes 0x04 f.items) k }
