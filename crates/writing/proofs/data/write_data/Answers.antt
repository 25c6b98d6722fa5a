-- `write_data`: refused, or written in both parts.
use Rattle.writing.proofs.DataLaws.{data_laws}
use Rattle.writing.proofs.data.write_data.Goals as goal

pub returns-then-not-pdvs_ok : goal.returns-then-not-pdvs_ok
returns-then-not-pdvs_ok c = search data_laws

pub returns-then-most_of-n : goal.returns-then-most_of-n
returns-then-most_of-n c = search data_laws

pub returns-then-out-n : goal.returns-then-out-n
returns-then-out-n c = search data_laws

pub returns : goal.returns
returns c = search data_laws
