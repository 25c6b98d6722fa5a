-- No UID of the records gone over comes again; the rest decides.
use Rattle.std.proofs.Common.{◌≡◌, map, length}
use Rattle.laws.specs.Lists.{differ}
use Rattle.roles.specs.Record.{uid_at}
use Rattle.roles.proofs.good.uids_differ.Given as goal

abbrev pub invariant-loop-r : goal.invariant-loop-r
invariant-loop-r l = differ (map (λ r. uid_at r 0) l.rs) ≡ differ (map (λ r. uid_at r 0) l.rest)

abbrev pub decreases-loop-r : goal.decreases-loop-r
decreases-loop-r l = length l.rest
