-- The answers to the contexts of the runs gone over are put; the rest have room.
use Rattle.choosing.proofs.CallLaws.{Reached}
use Rattle.choosing.proofs.put_answers.Given as goal

abbrev pub invariant-loop-run : goal.invariant-loop-run
invariant-loop-run l = Reached l.fn.answer l.proposal l.site l.answer l.n l.run-iterator.rest.now
