-- The header is copied, then the body; both at once where the piece opens with them.
use Rattle.receiving.proofs.GatherLaws.{gather_laws}
use Rattle.receiving.proofs.gather.gather.Goals as goal

pub slice_bounds-put-end : goal.slice_bounds-put-end
slice_bounds-put-end c = search gather_laws

pub overflow_add-count : goal.overflow_add-count
overflow_add-count c = search gather_laws

pub returns-then-count-lead-lt-HEADER : goal.returns-then-count-lead-lt-HEADER
returns-then-count-lead-lt-HEADER c = search gather_laws

pub returns-then-len-gt-LONGEST : goal.returns-then-len-gt-LONGEST
returns-then-len-gt-LONGEST c = search gather_laws

pub overflow_add-count-2 : goal.overflow_add-count-2
overflow_add-count-2 c = search gather_laws

pub slice_bounds-copy-count : goal.slice_bounds-copy-count
slice_bounds-copy-count c = search gather_laws

pub slice_bounds-copy-start : goal.slice_bounds-copy-start
slice_bounds-copy-start c = search gather_laws

pub slice_bounds-copy-end : goal.slice_bounds-copy-end
slice_bounds-copy-end c = search gather_laws

pub copy-requires : goal.copy-requires
copy-requires c = search gather_laws

pub overflow_add-count-3 : goal.overflow_add-count-3
overflow_add-count-3 c = search gather_laws

pub returns : goal.returns
returns c = search gather_laws
