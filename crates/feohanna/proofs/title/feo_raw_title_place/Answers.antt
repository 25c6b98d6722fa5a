-- The three numbers of each answer of the title check.
use Rattle.feohanna.proofs.TitlesLaws.{telling}
use Rattle.feohanna.proofs.title.feo_raw_title_place.Goals as goal

pub returns-in-Ok-Some : goal.returns-in-Ok-Some
returns-in-Ok-Some c = search telling

pub returns-in-Ok-None : goal.returns-in-Ok-None
returns-in-Ok-None c = search telling

pub returns-in-Err : goal.returns-in-Err
returns-in-Err c = search telling

pub overflow_cast-place : goal.overflow_cast-place
overflow_cast-place c = search telling
