-- Each byte that goes is a space, and where none goes the trim keeps all.
use Rattle.std.proofs.Common.{rules, ◌∙◌}
use Rattle.titles.proofs.TrimLaws.{last_goes, last_stays, none_last}
use Rattle.titles.proofs.equal.trimmed.Goals as goal

pub loop-t-2-preserved : goal.loop-t-2-preserved
loop-t-2-preserved c = last_goes c.loop-t-2.t.now c.in-32-t.len_at_least (search rules) ∙ c.loop-t-2.invariant

pub returns-in_default-t : goal.returns-in_default-t
returns-in_default-t c = none_last c.loop-t-2.t.now c.in_default-t.len_below ∙ c.loop-t-2.invariant

pub returns-in_default-t-2 : goal.returns-in_default-t-2
returns-in_default-t-2 c = last_stays c.loop-t-2.t.now c.in_default-t.len_at_least (search rules) ∙ c.loop-t-2.invariant
