-- A name too long, one that goes on as none does, and the ends.
use Rattle.std.proofs.Common.{arith}
use Rattle.names.proofs.NameLaws.{long, stopped, done_start, done_zero, done_digits}
use Rattle.names.proofs.name.name_ok.Goals as goal

pub returns-then-s-gt64 : goal.returns-then-s-gt64
returns-then-s-gt64 c = long c.args.s.now c.if-s-gt64.true

pub returns-in_default : goal.returns-in_default
returns-in_default c = stopped c.args.s.now c.loop-b.part c.loop-b.b-index c.loop-b.invariant c.in_default.ensures (omega arith) (omega arith)

pub returns-in-Start : goal.returns-in-Start
returns-in-Start c = done_start c.args.s.now c.loop-b.part c.loop-b.b-index c.loop-b.invariant c.in-Start.is (omega arith) (omega arith)

pub returns-in-Zero : goal.returns-in-Zero
returns-in-Zero c = done_zero c.args.s.now c.loop-b.part c.loop-b.b-index c.loop-b.invariant c.in-Zero.is (omega arith) (omega arith)

pub returns-in-Digits : goal.returns-in-Digits
returns-in-Digits c = done_digits c.args.s.now c.loop-b.part c.loop-b.b-index c.loop-b.invariant c.in-Digits.is (omega arith) (omega arith)
