use Rattle.std.proofs.Common.{rules}
use Rattle.laws.proofs.Places.{part_tail}
use Rattle.std.proofs.Common.{arith}
use Rattle.sheets.proofs.RunLaws.{on_short, on_few, on_next}
use Rattle.sheets.proofs.record.goes_on.Goals as goal

pub returns-in_default : goal.returns-in_default
returns-in_default c = on_short _ _ (omega (arith, c.in_default.ensures.lookup))

pub returns-in_default-0₀ : goal.returns-in_default-0₀
returns-in_default-0₀ c = on_few _ _ _ _ (search (rules, part_tail)) c.as_chunks.ensures.front c.as_chunks.ensures.front_len c.in_default-0₀.len_below

pub returns-in-len2-up : goal.returns-in-len2-up
returns-in-len2-up c = on_next _ _ _ _ (search (rules, part_tail)) c.as_chunks.ensures.front c.as_chunks.ensures.front_len _ c.in-len2-up.len_at_least c.same_run.ensures
