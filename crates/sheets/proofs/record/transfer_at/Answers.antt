use Rattle.sheets.specs.Record.{transfer_at}
use Rattle.std.proofs.Common.{rules}
use Rattle.sheets.proofs.record.transfer_at.Goals as goal

pub returns : goal.returns
unfolding transfer_at
returns c = search rules
