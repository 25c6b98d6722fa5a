-- For the private functions: the test of one record by itself. No public contract cites it.
use Rattle.std.specs.Prelude.{ℕ, Bool, ◌&&◌, List}
use Rattle.roles.specs.Role.{role_ok}
use Rattle.roles.specs.Sheet.{role_in, unused_zero}

-- a record that may stand in a role sheet
unfoldable pub record_ok : List ℕ → Bool
record_ok r = unused_zero r && role_ok (role_in r)
