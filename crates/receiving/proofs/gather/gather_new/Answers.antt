-- What one copy leaves.
use Rattle.receiving.proofs.NewLaws.{new_laws}
use Rattle.receiving.proofs.gather.gather_new.Goals as goal

pub returns-then-len-gt-LONGEST : goal.returns-then-len-gt-LONGEST
returns-then-len-gt-LONGEST c = search new_laws

pub slice_bounds-put-end-2 : goal.slice_bounds-put-end-2
slice_bounds-put-end-2 c = search new_laws

pub returns : goal.returns
returns c = search new_laws
