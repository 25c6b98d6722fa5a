-- Where the bytes have no room.
use Rattle.std.proofs.Common.{arith}
use Rattle.octets.proofs.PutLaws.{no_place, no_room}
use Rattle.octets.proofs.put.Goals as goal

pub returns-then-out-at : goal.returns-then-out-at
returns-then-out-at c = no_place c.args.out.now c.args.at c.args.bytes.now c.if-out-at.true

pub returns-then-out-at-2 : goal.returns-then-out-at-2
returns-then-out-at-2 c = no_room c.args.out.now c.args.at c.args.bytes.now (omega arith) (omega arith)
