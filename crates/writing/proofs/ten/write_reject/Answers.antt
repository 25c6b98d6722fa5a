-- `write_reject`: refused for its values, or sent.
use Rattle.writing.specs.Fields.{reject_good}
use Rattle.writing.specs.Ten.{reject_bytes}
use Rattle.writing.specs.Form.{reject_form}
use Rattle.writing.proofs.FormLaws.{contents_laws}
use Rattle.writing.proofs.ten.write_reject.Goals as goal

pub returns-then-not-reject_ok : goal.returns-then-not-reject_ok
unfolding reject_form reject_good
returns-then-not-reject_ok c = search contents_laws

pub returns : goal.returns
unfolding reject_form reject_good reject_bytes
returns c = search contents_laws
