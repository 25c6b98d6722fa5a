-- The engines of ShutOut miss a cell: transport indication in Sta1 is answered with AE-5 and leads to Sta2, and associate request there with AE-1.
-- Assumes nothing.
use Prim.Native.Nat.{ℕ}
use mathlib.Core.Path.{◌≡◌, refl, sym, ap, ◌∙◌}
use mathlib.Core.Bool.{false}
use mathlib.Core.List.{[]}
use native.Mathlib.Omega.{arith}
use Rattle.writing.specs.Ten.{tens, ten_of}
use Rattle.table.specs.ActionNames.{AE-1, AE-5}
use Rattle.table.specs.EventNames.{ASSOCIATE-REQUEST, TRANSPORT-INDICATION}
use Rattle.table.specs.Table.{cell_of}
use Rattle.table.specs.Actions.{next_of}
use Rattle.table.proofs.Unfolded.{table_unfolded}
use Rattle.association.specs.declared.Assoc.{Assoc}
use Rattle.association.specs.Record.{standing, idle}
use Rattle.association.specs.Events.{Local, carries, transport_indication, associate_request}
use Rattle.association.specs.Performing.{ten_by}
use Rattle.association.specs.Machine.{local_cell, plain_form, request_refusal}
use Rattle.association.specs.Calls.{local_refusal}
use Rattle.association.proofs.OrderLaws.{local_steps}
use Rattle.demand_2.specs.Cells.{Engine, Did, Demand2}
use Rattle.demand_2.specs.ShutOut.{RefusesAll, SameAction, RecordUntouched}
use Rattle.demand_2.proofs.Unbroken.{fine_idle, not_refused}

-- a fresh association, with no byte of output: neither event is refused
record Fresh : Type 0 where
  state : idle.state ≡ 1
  indicated : request_refusal (standing idle) transport_indication 0 ≡ 0
  requested : request_refusal (standing idle) associate_request 0 ≡ 0
  at_5 : cell_of TRANSPORT-INDICATION 1 ≡ AE-5
  at_1 : cell_of ASSOCIATE-REQUEST 1 ≡ AE-1
  to_2 : next_of (cell_of TRANSPORT-INDICATION 1) false idle.requestor ≡ 2

fresh : Fresh
unfolding table_unfolded idle request_refusal local_cell plain_form carries ten_by ten_of tens
fresh = record { state = refl; indicated = refl; requested = refl; at_5 = refl; at_1 = refl; to_2 = refl }

-- nor are they for the record's sake
not_due : (e : Local) → request_refusal (standing idle) e 0 ≡ 0 → local_refusal idle [] [] e ≡ 0
unfolding idle
not_due e h = local_steps idle [] [] e ∙ rw (not_refused idle [] 0 (fine_idle [] 0 (omega arith))) h

module _ (x : Engine) (d : Demand2 x) where
  indicated : local_refusal idle [] [] transport_indication ≡ 0
  indicated = not_due transport_indication fresh.indicated

  requested : local_refusal idle [] [] associate_request ≡ 0
  requested = not_due associate_request fresh.requested

  at_5 : Did (x.local idle [] [] transport_indication) (cell_of 5 1) (next_of (cell_of 5 1) false idle.requestor)
  at_5 = (d.cells 5 1 (omega arith) (omega arith) (omega arith) (omega arith)).given idle [] [] transport_indication fresh.state indicated refl

  at_1 : Did (x.local idle [] [] associate_request) (cell_of 1 1) (next_of (cell_of 1 1) false idle.requestor)
  at_1 = (d.cells 1 1 (omega arith) (omega arith) (omega arith) (omega arith)).given idle [] [] associate_request fresh.state requested refl

  pub refuses_all : RefusesAll x → ⊥
  refuses_all r = r idle [] [] transport_indication indicated at_5.answered

  pub same_action : (action : ℕ) → SameAction x action → ⊥
  same_action action r =
      let p : action ≡ 5 = sym (r idle [] [] transport_indication indicated) ∙ (at_5.action ∙ fresh.at_5) in
      let q : action ≡ 1 = sym (r idle [] [] associate_request requested) ∙ (at_1.action ∙ fresh.at_1) in
      omega arith

  pub record_untouched : RecordUntouched x → ⊥
  record_untouched r =
      let p : 2 ≡ idle.state = sym (at_5.state ∙ fresh.to_2) ∙ ap (λ (a : Assoc). a.state) (r idle [] [] transport_indication indicated) in
      omega (arith, fresh.state)
