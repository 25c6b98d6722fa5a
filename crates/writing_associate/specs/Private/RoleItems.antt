-- For the private functions: the 54H items of a role sheet, over its records.
use Rattle.std.specs.Prelude.{ℕ, List, map}
use Rattle.items.specs.Wire.{item_bytes, sequence}
use Rattle.roles.specs.Sheet.{role_in}
use Rattle.user_items.specs.Sent.{role_body, role_item}

-- the item of a record
unfoldable pub role_bytes : List ℕ → List ℕ
role_bytes r = item_bytes 0x54 (role_body (role_in r))

-- of all
unfoldable pub role_items : List (List ℕ) → List ℕ
role_items rs = sequence (map role_item (map role_in rs))
