-- What was read, or why not: as the valid RQ or AC says, whose side and PDU are those that were given.
use Rattle.std.proofs.Common.{◌≡◌, arith}
use Rattle.std.proofs.lemmas.Grind.{common_steps}
use Rattle.reading.specs.Associate.{refused, associate_as}
use Rattle.reading.proofs.ReadLaws.{read_other, read_narrow, read_few, read_done, fields_placed}
use Rattle.reading.proofs.associate.read.Goals as goal
use Rattle.reading.proofs.associate.read.Goals.{then-room-n-via-then-room-n, then-room-n-via-else-room-n+then-role_room-n}

pub returns-in_err-valid-clause-answer : goal.returns-in_err-valid-clause-answer
returns-in_err-valid-clause-answer c =
    let e : associate_as c.from_residual.result ≡ refused 7 = grind (arith, common_steps) in
    rw e (read_other c.args.pdu.now c.args.sheet.now c.args.roles.now c.args.side c.in_err-valid.ensures.1)

pub returns-then-room-n-clause-answer : goal.returns-then-room-n-clause-answer
returns-then-room-n-clause-answer c =
    rw (← c.in_ok-valid.ensures.0, ← c.in_ok-valid.ensures.1) (elim c.then-room-n.branch [
      | then-room-n-via-then-room-n w ↦ read_narrow c.in_ok-valid.valid.pdu.now c.args.sheet.now c.args.roles.now c.in_ok-valid.valid.side c.in_ok-valid.valid.is_valid c.counts-n.result c.counts-n.ensures w.if-room-n.true
      | then-room-n-via-else-room-n+then-role_room-n w ↦ read_few c.in_ok-valid.valid.pdu.now c.args.sheet.now c.args.roles.now c.in_ok-valid.valid.side c.in_ok-valid.valid.is_valid c.counts-n.result c.counts-n.ensures w.if-room-n.false w.if-role_room-n.true
    ])

pub returns-clause-answer : goal.returns-clause-answer
returns-clause-answer c =
    rw (c.fields.ensures, ← c.in_ok-valid.ensures.0, ← c.in_ok-valid.ensures.1) (read_done c.in_ok-valid.valid.pdu.now c.args.sheet.now c.args.roles.now c.in_ok-valid.valid.side c.in_ok-valid.valid.is_valid c.counts-n.result c.counts-n.ensures c.if-room-n.false c.if-role_room-n.false c.fill.new.sheet c.fill.new.roles c.fill.ensures)

pub returns-clause-placed : goal.returns-clause-placed
returns-clause-placed c = rw c.fields.ensures (fields_placed _ _ _)
