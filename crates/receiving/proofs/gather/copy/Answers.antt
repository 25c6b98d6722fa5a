-- A run of bytes stands at its place, in one copy or in two.
use Rattle.std.proofs.Common.{arith}
use Rattle.receiving.proofs.CopyLaws.{copied, copied_lines}
use Rattle.receiving.proofs.gather.copy.Goals as goal

pub returns-then-bytes-lt256 : goal.returns-then-bytes-lt256
returns-then-bytes-lt256 c = copied _ _ _ c.requires _ _ c.put.ensures

pub returns : goal.returns
returns c =
    copied_lines _ _ _ c.requires _ (omega arith) _ _ c.split_at.ensures.front c.split_at.ensures.back _ _ c.put-2.ensures _ _ c.put-3.ensures
