-- `cell` meets its contract. Outside the table there is no action; inside, the constant is the printed table, by its one computed test (Right).
-- Assumes nothing.
use mathlib.Core.Path.{sym}
use Rattle.table.specs.Table.{table}
use Rattle.table.proofs.Right.{cells, cell_at, outside}
use borrow.Author.Rules.{rules}
use Rattle.table.proofs.cell.Statement.{statement}
use Rattle.table.proofs.cell.Tie as tie

pub cell_spec : {M : Type 1} → statement M
unfolding cells table
cell_spec =
    tie.close
    (tie.spec
    (λ c. sym (search outside))  -- returns
    (λ c. sym (search outside))  -- returns-2
    (λ c. sym (search outside))  -- returns-3
    (λ c. sym (search outside))  -- returns-4
    (λ c κs. search rules) (λ c. search rules)  -- place-requires, array-read-result
    (λ c. search (rules, cell_at)))  -- returns-5
