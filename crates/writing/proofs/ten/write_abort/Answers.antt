-- `write_abort`: refused for its values, or sent.
use Rattle.std.proofs.Common.{refl}
use Rattle.writing.specs.Fields.{abort_of}
use Rattle.writing.specs.Ten.{abort_bytes}
use Rattle.writing.specs.Form.{abort_form}
use Rattle.writing.proofs.FormLaws.{contents_laws, contents_good}
use Rattle.writing.proofs.ten.write_abort.Goals as goal

pub returns-then-not-abort_good : goal.returns-then-not-abort_good
unfolding abort_form
returns-then-not-abort_good c = search contents_laws

pub returns : goal.returns
unfolding abort_form abort_bytes
returns c =
    contents_good (abort_form (abort_of c.args.source c.args.reason)) c.args.out.now c.abort_good.result c.abort_good.ensures c.if-not-abort_good.false refl c.send.ensures
