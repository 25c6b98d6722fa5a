use Rattle.sheets.proofs.RunLaws.{ids_laws}
use Rattle.sheets.proofs.ids.ids_differ.Goals as goal

pub loop-r-init : goal.loop-r-init
loop-r-init c = search ids_laws

pub returns-then-not-insert : goal.returns-then-not-insert
returns-then-not-insert c = search ids_laws

pub loop-r-preserved : goal.loop-r-preserved
loop-r-preserved c = search ids_laws

pub returns : goal.returns
returns c = search ids_laws
