-- One law for each of its five ways out.
use borrow.Author.Rules.{rules}
use Rattle.receiving.proofs.HearLaws.{refused_at, dropped_at, fit_at, ten_at, short_at, long_at, whole_at}
use Rattle.receiving.proofs.piece.receive.Goals as goal

pub returns-in-Err : goal.returns-in-Err
returns-in-Err c = search (rules, refused_at)

pub returns-then-dropping : goal.returns-then-dropping
returns-then-dropping c = search (rules, dropped_at)

pub gather-used-requires : goal.gather-used-requires
gather-used-requires c = search (rules, fit_at)

pub do_long-requires : goal.do_long-requires
do_long-requires c = ten_at _ _ _ c.in_default.ensures

pub do_pdu-requires : goal.do_pdu-requires
do_pdu-requires c = ten_at _ _ _ c.in_default.ensures

pub returns-in-Short : goal.returns-in-Short
returns-in-Short c =
    short_at _ _ _ c.in_default.ensures _ _ c.dropping.ensures c.if-dropping.false _ _ c.gather-used.ensures _ c.in-Short.is c.quiet-in-Short.ensures

pub returns-in-Long : goal.returns-in-Long
returns-in-Long c =
    long_at _ _ _ c.in_default.ensures _ _ c.dropping.ensures c.if-dropping.false _ _ c.gather-used.ensures _ _ c.in-Long.is c.do_long.ensures

pub returns-in-Whole : goal.returns-in-Whole
returns-in-Whole c =
    whole_at _ _ _ c.in_default.ensures _ _ c.dropping.ensures c.if-dropping.false _ _ c.gather-used.ensures _ _ c.in-Whole.is c.do_pdu.ensures
