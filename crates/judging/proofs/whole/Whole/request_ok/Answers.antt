-- A step of the chain that was not taken left its own test, which was false.
use Rattle.std.proofs.Common.{arith, sym, ◌∙◌}
use borrow.Author.Tests.{leb-true}
use Rattle.laws.proofs.Booleans.{held}
use Rattle.judging.proofs.KindLaws.{request_is}
use Rattle.judging.proofs.whole.Whole.request_ok.Goals as goal
use Rattle.judging.proofs.whole.Whole.request_ok.Goals.{then-pdu-ge74, else-pdu-ge74, then-title_ok, else-title_ok}

pub returns-then-title_ok-2 : goal.returns-then-title_ok-2
returns-then-title_ok-2 c =
    elim c.if-title_ok.branch [
      | then-title_ok v ↦
          elim c.if-pdu-ge74.branch [
            | then-pdu-ge74 w ↦
                c.items_ok.ensures
                ∙ request_is _ c.args.self.is_whole w.if-pdu-ge74.true (sym w.title_ok.ensures ∙ (sym w.value-is ∙ v.if-title_ok.true)) (sym v.title_ok-then-title_ok.ensures ∙ (sym v.value-is ∙ c.if-title_ok-2.true))
            | else-pdu-ge74 w ↦ let t = leb-true _ _ (sym w.value-is ∙ v.if-title_ok.true) in absurd (omega arith)
          ]
      | else-title_ok v ↦ absurd (held _ (sym v.if-title_ok.false ∙ (sym v.value-is ∙ c.if-title_ok-2.true)))
    ]
