-- `feo_raw_fresh` meets its contract.
-- Assumes nothing.
use borrow.Author.Rules.{rules}
use Rattle.feohanna.proofs.FreshLaws.{freshly}
use Rattle.feohanna.proofs.fresh.feo_raw_fresh.Statement.{statement}
use Rattle.feohanna.proofs.fresh.feo_raw_fresh.Tie as tie

pub feo_raw_fresh_spec : {M : Type 1} → statement M
feo_raw_fresh_spec =
    tie.close
    (tie.spec
    (λ c κs. search rules) (λ c κs. search rules) (λ c. search freshly))  -- fresh-requires, bytes-of-requires, returns
