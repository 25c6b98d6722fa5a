-- One name for what antt unfolds to compute with Table 9-10 and its actions: to unfold it is to unfold each of these.
-- Assumes nothing.
use Rattle.laws.specs.Lists.{among}
use Rattle.table.specs.Table.{table, cell_of, is_received}
use Rattle.table.specs.Actions.{actions, does_of, next_of, shows_of, artim_of}

unfoldable pub table_unfolded : Unit {0}
unfolding among table cell_of is_received actions does_of next_of shows_of artim_of
table_unfolded = tt
