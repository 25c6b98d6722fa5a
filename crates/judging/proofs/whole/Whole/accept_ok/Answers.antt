-- A step of the chain that was not taken left its own test, which was false.
use Rattle.std.proofs.Common.{arith, sym, ◌∙◌}
use borrow.Author.Tests.{leb-true}
use Rattle.judging.proofs.KindLaws.{accept_is}
use Rattle.judging.proofs.whole.Whole.accept_ok.Goals as goal
use Rattle.judging.proofs.whole.Whole.accept_ok.Goals.{then-pdu-ge74, else-pdu-ge74}

pub returns-then-has_version : goal.returns-then-has_version
returns-then-has_version c =
    elim c.if-pdu-ge74.branch [
      | then-pdu-ge74 w ↦ c.items_ok.ensures ∙ accept_is _ c.args.self.is_whole w.if-pdu-ge74.true (sym w.has_version.ensures ∙ (sym w.value-is ∙ c.if-has_version.true))
      | else-pdu-ge74 w ↦ let t = leb-true _ _ (sym w.value-is ∙ c.if-has_version.true) in absurd (omega arith)
    ]
