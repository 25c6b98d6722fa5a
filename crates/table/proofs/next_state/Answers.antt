-- The two exceptions, and the column elsewhere.
use Rattle.table.specs.Actions.{actions}
use Rattle.table.proofs.Columns.{nexts, next_laws, outside_laws}
use Rattle.table.proofs.next_state.Goals as goal

pub returns-then-accepts : goal.returns-then-accepts
returns-then-accepts c = search next_laws

pub returns-then-action-eq-AE_6 : goal.returns-then-action-eq-AE_6
returns-then-action-eq-AE_6 c = search next_laws

pub returns-then-requestor : goal.returns-then-requestor
returns-then-requestor c = search next_laws

pub returns-then-action-eq-AR_8 : goal.returns-then-action-eq-AR_8
returns-then-action-eq-AR_8 c = search next_laws

pub returns-then-action-lt1 : goal.returns-then-action-lt1
unfolding nexts actions
returns-then-action-lt1 c = search outside_laws

pub returns-then-action-gt28 : goal.returns-then-action-gt28
unfolding nexts actions
returns-then-action-gt28 c = search outside_laws

pub returns : goal.returns
unfolding nexts actions
returns c = search next_laws
