-- For the private functions: a holder's items in one pass, where their order counts. RuleLaws.keeps_is says what it comes to.
use Rattle.std.specs.Prelude.{ℕ, Bool, false, ◌&&◌, List, eqb}
use Rattle.items.specs.Items.{Walk, done, broken, item}

-- which bodies are good for which type; the state after an item of a type; the state that may stand at the end. A type that the rule does not know is good
-- with any body and leaves the state
pub record Rule : Type 0 where
  pub good : ℕ → List ℕ → Bool
  pub next : ℕ → ℕ → ℕ
  pub last : ℕ

-- the items fill the holder and keep the rule, from a state on
unfoldable pub keeps : Rule → ℕ → Walk → Bool
keeps R st done = eqb st R.last
keeps R st broken = false
keeps R st (item t b w) = R.good t b && keeps R (R.next st t) w
