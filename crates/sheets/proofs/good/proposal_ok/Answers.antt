use Rattle.std.proofs.Common.{rules}
use Rattle.std.proofs.lemmas.Iterator.{YieldsList-from_slice}
use Rattle.std.proofs.lemmas.Iterator.Search.{all_from_yields_List}
use Rattle.sheets.specs.Sheet.{proposal_record}
use Rattle.sheets.proofs.GoodLaws.{proposal_none, proposal_bad, proposal_rest}
use Rattle.sheets.proofs.good.proposal_ok.Goals as goal

pub returns-in_default : goal.returns-in_default
returns-in_default c = proposal_none c.args.s.now c.in_default.ensures

pub returns-then-all : goal.returns-then-all
returns-then-all c =
    let k = c.in-Some.ensures in
    proposal_rest c.args.s.now c.in-Some.rs.now k.0 k.1 k.2 c.all.result _ (all_from_yields_List proposal_record _ _ _ c.all.ensures.ran (YieldsList-from_slice c.in-Some.rs.now cc) (λ x b q k. search rules)) c.if-all.true c.runs_differ.ensures

pub returns-else-all : goal.returns-else-all
returns-else-all c =
    let k = c.in-Some.ensures in
    proposal_bad c.args.s.now c.in-Some.rs.now k.0 k.1 k.2 c.all.result (all_from_yields_List proposal_record _ _ _ c.all.ensures.ran (YieldsList-from_slice c.in-Some.rs.now cc) (λ x b q k. search rules)) c.if-all.false
