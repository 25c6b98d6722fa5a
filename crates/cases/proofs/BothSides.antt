-- BOTH SIDES OF EACH LINE: every row of the table is as the paper answers it, and no name has 65 bytes or more. antt computes the rows.
-- Assumes nothing.
use Prim.Native.Nat.{ℕ, ◌<◌}
use mathlib.Core.Path.{◌≡◌, refl}
use mathlib.Core.Bool.{false}
use mathlib.Core.List.{List, map}
use lib.ListN.{length}
use Rattle.laws.specs.Lists.{among, distinct}
use Rattle.octets.specs.Octets.{be16, be32}
use Rattle.octets.specs.Put.{put, front}
use Rattle.names.specs.Name.{name_ok}
use Rattle.titles.specs.Title.{title_ok, trim_end, titles_equal}
use Rattle.titles.specs.Own.{list_ok, title_refusal, known, title_place}
use Rattle.names.proofs.NameLaws.{name_long}
use Rattle.items.specs.Items.{step, walk_in, walk, filled, bodies, types, only, good_bodies, holds}
use Rattle.user_items.proofs.Examples.{user_open}
use Rattle.contents.specs.Contents.{subs_ok, good_20h, one, context_good, top_good, top_ok, ids, items_ok, maximum_in}
use Rattle.pdvs.specs.Data.{pdv_step, pdvs_in, pdvs, pdv_ok, pdvs_ok}
use Rattle.reasons.specs.Values.{abort_ok}
use Rattle.judging.specs.Pdu.{whole, request_ok, data_ok, release_ok, abort_pdu_ok, valid_as, kind_of, acceptable, maximum_of}
use Rattle.writing.specs.Ten.{tens, ten_of}
use Rattle.framing.specs.Framing.{length_field, frame}
use Rattle.framing.specs.Engine as eng
use Rattle.table.proofs.Unfolded.{table_unfolded}
use Rattle.association.specs.Record.{dropping, timed, stray_state, overfull, stray_deaf, mistimed, bad_length, marked_idle, clauses, broken}
use Rattle.association.specs.Refusals.{record_refusal}
use Rattle.association.specs.Events.{event_of_kind, event_of}
use Rattle.association.specs.Performing.{accepts_at, peer_at, requestor_after, entering, after, abort_for, ten_by}
use Rattle.association.specs.Machine.{doing, on_event}
use Rattle.association.specs.Calls.{receive_refusal, heard, receive_of}
use Rattle.cases.specs.Cases.{Row, cases, gives}

-- ---- what is computed, by its subject: to unfold one of these is to unfold what its line names
calls : Unit {0}
unfolding receive_of receive_refusal heard record_refusal broken clauses stray_state overfull stray_deaf mistimed bad_length marked_idle timed dropping
calls = tt

frames : Unit {0}
unfolding eng.receive frame length_field be32 be16 put front
frames = tt

machine : Unit {0}
unfolding on_event doing event_of event_of_kind after entering requestor_after peer_at accepts_at abort_for ten_by ten_of tens table_unfolded
machine = tt

items : Unit {0}
unfolding step walk_in walk filled bodies types only good_bodies holds subs_ok good_20h one user_open context_good top_good top_ok ids items_ok maximum_in pdv_step pdvs_in pdvs pdv_ok pdvs_ok among distinct
items = tt

pdus : Unit {0}
unfolding kind_of acceptable maximum_of whole valid_as request_ok data_ok release_ok abort_pdu_ok abort_ok name_ok title_ok items
pdus = tt

places : Unit {0}
unfolding title_refusal known title_place list_ok titles_equal trim_end
places = tt

pub both_sides : (map (λ (r : Row). gives r.asked) cases ≡ map (λ (r : Row). r.answered) cases) × ((s : List ℕ) → 64 < length s → name_ok s ≡ false)
unfolding cases calls frames machine pdus places
both_sides = (refl, name_long)
