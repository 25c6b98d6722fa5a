-- The presentation contexts of an association: those that a requestor proposes, and an acceptor's answers to them.
use Rattle.std.specs.Prelude.{ℕ, Bool, ◌&&◌, cond, List, map, length, leb, eqb}
use Rattle.laws.specs.Lists.{all, empty, distinct}
use Rattle.numbers.specs.Results.{ACCEPTED}
use Rattle.octets.specs.Octets.{odd}
use Rattle.names.specs.Name.{name_ok}

-- a proposed context: its abstract name, and the transfer names offered for it
pub record Context : Type 0 where
  pub id : ℕ
  pub abstr : List ℕ
  pub transfers : List (List ℕ)

-- an answered context: a refused one has no transfer name
pub record Answered : Type 0 where
  pub id : ℕ
  pub result : ℕ
  pub transfer : List ℕ

abbrev pub context_id : Context → ℕ
context_id c = c.id

abbrev pub answered_id : Answered → ℕ
answered_id c = c.id

-- "20H: ID odd, .., one 30H, then one or more 40H, each with a name."
unfoldable pub context_ok : Context → Bool
context_ok c = odd c.id && (name_ok c.abstr && (leb 1 (length c.transfers) && all name_ok c.transfers))

-- "exactly one 40H with a name"; "4 for a refused record to be sent that carries a transfer name"
unfoldable pub transfer_name_ok : ℕ → List ℕ → Bool
transfer_name_ok result x = cond (eqb result ACCEPTED) (name_ok x) (empty x)

-- "21H: ID odd, .., result 0 to 4, .."
unfoldable pub answered_ok : Answered → Bool
answered_ok c = odd c.id && (leb c.result 4 && transfer_name_ok c.result c.transfer)

-- "one or more contexts"; "An ID that comes twice makes the PDU invalid."
unfoldable pub contexts_ok : List Context → Bool
contexts_ok cs = leb 1 (length cs) && (all context_ok cs && distinct (map context_id cs))

unfoldable pub all_answered_ok : List Answered → Bool
all_answered_ok cs = leb 1 (length cs) && (all answered_ok cs && distinct (map answered_id cs))
