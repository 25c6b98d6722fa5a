use Rattle.sheets.specs.Record.{abstract_at}
use Rattle.std.proofs.Common.{rules}
use Rattle.sheets.proofs.record.abstract_at.Goals as goal

pub returns : goal.returns
unfolding abstract_at
returns c = search rules
