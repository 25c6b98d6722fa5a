-- `write_accept`: refused for its contents, or written.
use Rattle.std.proofs.Common.{sym, ◌∙◌}
use Rattle.writing_associate.specs.Said.{ac_said}
use Rattle.writing_associate.proofs.AssociateLaws.{ac_refused, ac_fit, ac_wrote}
use Rattle.writing_associate.proofs.write_accept.Goals as goal

pub returns-then-not-accept_good : goal.returns-then-not-accept_good
returns-then-not-accept_good c = ac_refused (ac_said c.args.fields) c.args.out.now (sym c.accept_good.ensures ∙ c.if-not-accept_good.true)

pub write_pdu-requires : goal.write_pdu-requires
write_pdu-requires c = ac_fit (ac_said c.args.fields) (sym c.accept_good.ensures ∙ c.if-not-accept_good.false)

pub returns : goal.returns
returns c =
    ac_wrote (ac_said c.args.fields) c.args.out.now c.write_pdu.new.out _ (sym c.accept_good.ensures ∙ c.if-not-accept_good.false) c.write_pdu.ensures
