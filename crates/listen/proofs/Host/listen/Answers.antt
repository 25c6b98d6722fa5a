-- `listen` meets its contract: each turn of the loop is one of `Feeds`, by what the called functions promise.
-- Assumes nothing.
use Rattle.std.proofs.Common.{◌≡◌, ◌<◌, ◌∙◌, sym, ap, length, arith}
use borrow.Author.Tests.{eqb-true, eqb-false}
use Rattle.listen.specs.Listen.{most}
use Rattle.listen.specs.Window.{rest_of}
use Rattle.listen.proofs.Feeds.{starts, finishes, turned, ended}
use Rattle.listen.proofs.Host.listen.Goals as goal

pub loop-call-init : goal.loop-call-init
loop-call-init g c = starts _ _ c.new-window.ensures

pub loop-call-preserved : goal.loop-call-preserved
loop-call-preserved g c =
    let left = ap length c.rest-piece.ensures in
    let some : 0 < length c.rest-piece.result.now = omega (arith, eqb-false (length (rest_of c.fill-ended.new.self)) 0 (sym c.fill-ended.ensures.ends ∙ c.if-ended.false)) in
    turned (λ l. ap rest_of (c.fill-ended.ensures.kept l)) c.rest-piece.ensures some c.receive_lent-told.ensures c.consume.ensures c.loop-call.invariant

pub returns-then-ended : goal.returns-then-ended
returns-then-ended g c =
    let none : length c.rest-piece.result.now ≡ 0 = ap length c.rest-piece.ensures ∙ eqb-true (length (rest_of c.fill-ended.new.self)) 0 (sym c.fill-ended.ensures.ends ∙ c.if-ended.true) in
    ended (λ l. ap rest_of (c.fill-ended.ensures.kept l)) c.rest-piece.ensures none c.receive_lent-told.ensures c.loop-call.invariant

pub returns : goal.returns
returns g c =
    let all : c.loop-call._call ≡ most = omega arith in
    finishes c.loop-call.invariant all
