use Rattle.std.proofs.Common.{rules}
use Rattle.std.proofs.lemmas.Iterator.{YieldsList-from_slice}
use Rattle.std.proofs.lemmas.Iterator.Search.{any_from_yields_List}
use Rattle.laws.specs.Lists.{same_bytes}
use Rattle.roles.specs.Record.{uid_at}
use Rattle.roles.proofs.GoodLaws.{apart_next, apart_bad, apart_done}
use Rattle.roles.proofs.good.uids_differ.Goals as goal

pub returns-then-any : goal.returns-then-any
returns-then-any c =
    apart_bad c.loop-r.rest.now c.in-Some.others.now c.in-Some.r.now c.uid_at-uid.result.now _ c.any.result c.loop-r.invariant (search rules) c.uid_at-uid.ensures.bytes
    (any_from_yields_List (λ o. same_bytes c.uid_at-uid.result.now (uid_at o 0)) _ _ _ c.any.ensures.ran (YieldsList-from_slice c.in-Some.others.now cc) (λ x b q k. search rules)) c.if-any.true

pub loop-r-preserved : goal.loop-r-preserved
loop-r-preserved c =
    apart_next c.loop-r.rest.now c.in-Some.others.now c.in-Some.r.now c.uid_at-uid.result.now _ c.any.result c.loop-r.invariant (search rules) c.uid_at-uid.ensures.bytes
    (any_from_yields_List (λ o. same_bytes c.uid_at-uid.result.now (uid_at o 0)) _ _ _ c.any.ensures.ran (YieldsList-from_slice c.in-Some.others.now cc) (λ x b q k. search rules)) c.if-any.false

pub returns : goal.returns
returns c = apart_done c.loop-r.rest.now _ c.loop-r.invariant c.in_default.ensures.cases
