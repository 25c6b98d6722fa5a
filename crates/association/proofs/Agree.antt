-- Any two permitted answers agree, for each public function.
-- Assumes nothing.
use mathlib.Core.Path.{refl}
use Rattle.laws.proofs.Agree.{agree, Agrees}
use Rattle.numbers.proofs.NumberLaws.{answer_once}
use Rattle.association.proofs.refusals.fresh as fresh
use Rattle.association.proofs.refusals.dropping as dropping
use Rattle.association.proofs.refusals.length_field as length-field
use Rattle.association.proofs.refusals.record_refusal as record-refusal
use Rattle.association.proofs.refusals.refused as refused
use Rattle.association.proofs.events.event_of_kind as event-of-kind
use Rattle.association.proofs.events.abort_for as abort-for
use Rattle.association.proofs.events.local_cell as local-cell
use Rattle.association.proofs.performing.after as after
use Rattle.association.proofs.performing.ten_by as ten-by

pub fresh_agrees : Agrees 0 fresh.Kinds.ps fresh.Kinds.r fresh.Reads.Post
fresh_agrees κs args a b x y p q = agree p q

pub dropping_agrees : Agrees 0 dropping.Kinds.ps dropping.Kinds.r dropping.Reads.Post
dropping_agrees κs args a b x y p q = agree p q

pub length_field_agrees : Agrees 1 length-field.Kinds.ps length-field.Kinds.r length-field.Reads.Post
length_field_agrees κs args a b x y p q = agree p q

pub record_refusal_agrees : Agrees 1 record-refusal.Kinds.ps record-refusal.Kinds.r record-refusal.Reads.Post
record_refusal_agrees κs args a b x y p q = answer_once a b (agree p q) (λ u v e f. refl)

pub refused_agrees : Agrees 0 refused.Kinds.ps refused.Kinds.r refused.Reads.Post
refused_agrees κs args a b x y p q = agree p q

pub event_of_kind_agrees : Agrees 0 event-of-kind.Kinds.ps event-of-kind.Kinds.r event-of-kind.Reads.Post
event_of_kind_agrees κs args a b x y p q = agree p q

pub abort_for_agrees : Agrees 0 abort-for.Kinds.ps abort-for.Kinds.r abort-for.Reads.Post
abort_for_agrees κs args a b x y p q = agree p q

pub local_cell_agrees : Agrees 0 local-cell.Kinds.ps local-cell.Kinds.r local-cell.Reads.Post
local_cell_agrees κs args a b x y p q = agree p q

pub after_agrees : Agrees 0 after.Kinds.ps after.Kinds.r after.Reads.Post
after_agrees κs args a b x y p q = agree p q

pub ten_by_agrees : Agrees 0 ten-by.Kinds.ps ten-by.Kinds.r ten-by.Reads.Post
ten_by_agrees κs args a b x y p q = agree p q
