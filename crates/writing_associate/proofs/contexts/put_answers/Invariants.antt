-- The items of the records gone over are there, and the rest has room.
use Rattle.std.proofs.Common.{drop}
use Rattle.writing_associate.specs.Private.ContextItems.{answer_items}
use Rattle.writing_associate.proofs.ItemLaws.{Writing}
use Rattle.writing_associate.proofs.contexts.put_answers.Given as goal

abbrev pub invariant-loop-r : goal.invariant-loop-r
invariant-loop-r l = Writing l.fn.out l.from (answer_items l.rs) l.out l.n (answer_items (drop l.r-index l.rs))
