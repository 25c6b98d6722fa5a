-- The refusals of a script in the reference: of the local events alone, and of those only 1, 4 and 5, since the output has room for any PDU.
use Rattle.std.specs.Prelude.{ℕ, cond, List, [], ◌∷◌, eqb}
use Rattle.numbers.specs.Refusals.{NOT-REFUSED}
use Rattle.numbers.specs.Lengths.{BUFFER}
use Rattle.framing.specs.Runs.{givens}
use Rattle.framing.specs.Host.{One, Item}
use Rattle.framing.specs.Host.{Item.event, Item.run}
use Rattle.framing.specs.Reference as ref
use Rattle.association.specs.Record.{Standing}
use Rattle.association.specs.Events.{Local}
use Rattle.association.specs.Machine.{upper, request_refusal}

unfoldable pub refused_by : Standing → Local → List ℕ
refused_by s e = let refusal = request_refusal s e BUFFER in cond (eqb refusal NOT-REFUSED) [] (refusal ∷ [])

abbrev pub refused_at : Item One Local → ref.Box upper → List ℕ
refused_at (event c e) b = refused_by b.state e
refused_at (run c ps) b = []

abbrev pub refused_in : List (Item One Local) → ref.Box upper → List ℕ
refused_in is b = givens (ref.ref_item upper) refused_at is b
