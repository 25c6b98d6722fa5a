-- The round trip for what the writing calls send: wherever a call does not refuse, the bytes that it sends make the trip.
-- Assumes nothing.
use Prim.Native.Nat.{ℕ}
use mathlib.Core.Path.{◌≡◌, ap, ◌∙◌}
use Rattle.judging.specs.Pdu.{kind_of}
use Rattle.writing.specs.Fields.{RqFields, AcFields, Reject, Items, Abort}
use Rattle.writing.specs.Form.{form_refusal, sent_bytes, rq_form, ac_form, reject_form, data_form, release_rq_form, release_rp_form, abort_form}
use Rattle.writing.proofs.FormLaws.{answered}
use Rattle.round_trips.specs.Trips.{RqTrip, AcTrip, RejectTrip, DataTrip, AbortTrip}
use Rattle.round_trips.proofs.AssociateTrip.{rq_trip, ac_trip}
use Rattle.round_trips.proofs.SmallTrip.{reject_trip, abort_trip, release_rq_trip, release_rp_trip, data_trip}

module _ (room : ℕ) where
  pub sent_rq : (f : RqFields) → form_refusal (rq_form f) room ≡ 0 → RqTrip f (sent_bytes (rq_form f) room)
  unfolding rq_form
  sent_rq f z = let a = answered (rq_form f) room z in rw a.sent (rq_trip f a.good a.limit)

  pub sent_ac : (f : AcFields) → form_refusal (ac_form f) room ≡ 0 → AcTrip f (sent_bytes (ac_form f) room)
  unfolding ac_form
  sent_ac f z = let a = answered (ac_form f) room z in rw a.sent (ac_trip f a.good a.limit)

  pub sent_reject : (f : Reject) → form_refusal (reject_form f) room ≡ 0 → RejectTrip f (sent_bytes (reject_form f) room)
  unfolding reject_form
  sent_reject f z = let a = answered (reject_form f) room z in rw a.sent (reject_trip f a.good)

  pub sent_data : (peer : ℕ) (f : Items) → form_refusal (data_form peer f) room ≡ 0 → DataTrip f (sent_bytes (data_form peer f) room)
  unfolding data_form
  sent_data peer f z = let a = answered (data_form peer f) room z in rw a.sent (data_trip peer f a.good a.limit)

  pub sent_release_rq : form_refusal release_rq_form room ≡ 0 → kind_of (sent_bytes release_rq_form room) ≡ 5
  sent_release_rq z = let a = answered release_rq_form room z in ap kind_of a.sent ∙ release_rq_trip

  pub sent_release_rp : form_refusal release_rp_form room ≡ 0 → kind_of (sent_bytes release_rp_form room) ≡ 6
  sent_release_rp z = let a = answered release_rp_form room z in ap kind_of a.sent ∙ release_rp_trip

  pub sent_abort : (f : Abort) → form_refusal (abort_form f) room ≡ 0 → AbortTrip f (sent_bytes (abort_form f) room)
  unfolding abort_form
  sent_abort f z = let a = answered (abort_form f) room z in rw a.sent (abort_trip f a.good)
