-- The items of the records gone over are there, and the rest has room.
use Rattle.std.proofs.Common.{drop}
use Rattle.writing_associate.specs.Private.ContextItems.{name_items}
use Rattle.writing_associate.proofs.ItemLaws.{Writing}
use Rattle.writing_associate.proofs.contexts.put_names.Given as goal

abbrev pub invariant-loop-r : goal.invariant-loop-r
invariant-loop-r l = Writing l.fn.out l.from (name_items l.rs) l.out l.n (name_items (drop l.r-index l.rs))
