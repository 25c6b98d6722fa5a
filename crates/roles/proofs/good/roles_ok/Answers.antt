use Rattle.std.proofs.Common.{rules}
use Rattle.std.proofs.lemmas.Iterator.{YieldsList-from_slice}
use Rattle.std.proofs.lemmas.Iterator.Search.{all_from_yields_List}
use Rattle.roles.specs.Private.OneRecord.{record_ok}
use Rattle.roles.proofs.GoodLaws.{sheet_part, sheet_bad, sheet_rest}
use Rattle.roles.proofs.good.roles_ok.Goals as goal

pub returns-then-all : goal.returns-then-all
returns-then-all c =
    sheet_rest c.args.s.now _ c.as_chunks.ensures.front (search rules) c.all.result
    (all_from_yields_List record_ok _ _ _ c.all.ensures.ran (YieldsList-from_slice _ c.iter.ensures.rest) (λ x b q k. search rules)) _ c.if-all.true c.uids_differ.ensures

pub returns-else-all : goal.returns-else-all
returns-else-all c =
    sheet_bad c.args.s.now _ c.as_chunks.ensures.front (search rules) c.all.result
    (all_from_yields_List record_ok _ _ _ c.all.ensures.ran (YieldsList-from_slice _ c.iter.ensures.rest) (λ x b q k. search rules)) c.if-all.false

pub returns-else-is_empty : goal.returns-else-is_empty
returns-else-is_empty c = sheet_part c.args.s.now _ _ c.as_chunks.ensures.back_len c.is_empty.ensures c.if-is_empty.false
