-- `put_counts`: none for 1 and 1.
use Rattle.writing_associate.proofs.UserLaws.{put_counts_laws}
use Rattle.writing_associate.proofs.user.put_counts.Goals as goal

pub returns-then-one_and_one : goal.returns-then-one_and_one
returns-then-one_and_one c = search put_counts_laws

pub put_item-requires : goal.put_item-requires
put_item-requires c = search put_counts_laws

pub returns : goal.returns
returns c = search put_counts_laws
