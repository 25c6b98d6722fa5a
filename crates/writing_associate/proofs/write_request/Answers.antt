-- `write_request`: refused for its contents, or written.
use Rattle.std.proofs.Common.{◌≡◌, true, sym, ◌∙◌}
use Rattle.writing.specs.Fields.{rq_good}
use Rattle.writing_associate.specs.Said.{rq_said}
use Rattle.writing_associate.proofs.AssociateLaws.{rq_refused, rq_called, rq_calling, rq_fit, rq_wrote}
use Rattle.writing_associate.proofs.write_request.Goals as goal

pub returns-then-not-request_good : goal.returns-then-not-request_good
returns-then-not-request_good c = rq_refused (rq_said c.args.fields) c.args.out.now (sym c.request_good.ensures ∙ c.if-not-request_good.true)

pub titles_of-middle-requires : goal.titles_of-middle-requires
titles_of-middle-requires c =
    let g : rq_good (rq_said c.args.fields) ≡ true = sym c.request_good.ensures ∙ c.if-not-request_good.false in
    (rq_called (rq_said c.args.fields) g, rq_calling (rq_said c.args.fields) g)

pub write_pdu-requires : goal.write_pdu-requires
write_pdu-requires c =
    rq_fit (rq_said c.args.fields) (sym c.request_good.ensures ∙ c.if-not-request_good.false) c.titles_of-middle.result c.titles_of-middle.ensures

pub returns : goal.returns
returns c =
    rq_wrote (rq_said c.args.fields) (sym c.request_good.ensures ∙ c.if-not-request_good.false) c.titles_of-middle.result c.titles_of-middle.ensures
    c.args.out.now c.write_pdu.new.out _ c.write_pdu.ensures
