use Rattle.sheets.proofs.RecordLaws.{at_laws}
use Rattle.std.proofs.Common.{◌+◌, ◌<◌, arith, length}
use Rattle.sheets.proofs.record.name_at.Goals.{then-s-lt-RECORD-via-then-s-lt-RECORD, then-s-lt-RECORD-via-else-s-lt-RECORD+then-s-at}
use Rattle.sheets.proofs.record.name_at.Goals as goal

pub returns-then-s-lt-RECORD : goal.returns-then-s-lt-RECORD
returns-then-s-lt-RECORD c =
    let h : length c.args.s.now < c.args.at + 132
    = elim c.then-s-lt-RECORD.branch [ then-s-lt-RECORD-via-then-s-lt-RECORD w ↦ omega arith | then-s-lt-RECORD-via-else-s-lt-RECORD+then-s-at w ↦ omega arith ] in
    search at_laws

pub returns : goal.returns
returns c = search at_laws
