-- The loop of `listen`: how many calls were made, what is not used yet, and what is lent to the next call.
use Rattle.listen.specs.Host.{lent_by}
use Rattle.listen.specs.Window.{rest_of}
use Rattle.listen.proofs.Feeds.{Going}
use Rattle.listen.proofs.Host.listen.Given as goal

abbrev pub invariant-loop-call : goal.invariant-loop-call
invariant-loop-call g l = Going (lent_by l.initial.self) l._call (rest_of l.window) (lent_by l.self)
