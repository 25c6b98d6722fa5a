-- `titles_of`: the calling title behind the called one.
use Rattle.writing_associate.proofs.AssociateLaws.{titles_laws}
use Rattle.writing_associate.proofs.titles_of.Goals as goal

pub returns : goal.returns
returns c = search titles_laws
