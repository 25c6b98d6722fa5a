-- The sub-items of the user information, 50H: "exactly one 51H of length 4, the maximum length .. Sub-item order is not tested", and by request E4 of document 02
-- "52H (implementation class UID, a name), 55H (version name, 1 to 16 title characters), 53H (length 4, two operation counts ..) and 54H (two-byte UID length, a
-- name, two role bytes of 0 or 1, filling it). At most one of 52H, 53H and 55H; 54H at most once per UID. .. other types are still skipped."
use Rattle.std.specs.Prelude.{ℕ, ◌+◌, Bool, ◌&&◌, cond, List, [], ◌∷◌, map, length, take, drop, get_or, leb, eqb}
use Rattle.laws.specs.Lists.{all, differ}
use Rattle.octets.specs.Octets.{be16}
use Rattle.names.specs.Name.{name_ok}
use Rattle.titles.specs.Title.{title_byte}
use Rattle.items.specs.Items.{Walk, walk, filled, bodies}
use Rattle.roles.specs.Role.{Role, role_ok}

-- a kind of sub-item: its type, the test of its body, and what of a body must not come twice
pub record Kind : Type 0 where
  pub type : ℕ
  pub good : List ℕ → Bool
  pub once : List ℕ → List ℕ

-- what must not come twice, where at most one of a kind may come: the same for every body
abbrev pub alike : List ℕ → List ℕ
alike b = []

-- ---- the bodies
unfoldable pub four_long : List ℕ → Bool
four_long b = eqb (length b) 4

unfoldable pub version_ok : List ℕ → Bool
version_ok b = leb 1 (length b) && (leb (length b) 16 && all title_byte b)

-- the name in a 54H, behind its two-byte length
unfoldable pub uid_in : List ℕ → List ℕ
uid_in b = take (be16 b 0) (drop 2 b)

-- where it starts in the body, 0 where that has not even a length
unfoldable pub uid_from : List ℕ → ℕ
uid_from b = cond (leb 2 (length b)) 2 0

-- the role in a 54H: the role bytes, SCU's first, stand behind the name
unfoldable pub role_of : List ℕ → Role
role_of b = record { uid = uid_in b; scu = get_or b (2 + be16 b 0) 0; scp = get_or b (3 + be16 b 0) 0 }

-- "filling it"
unfoldable pub good_54h : List ℕ → Bool
good_54h b = eqb (length b) (2 + be16 b 0 + 2) && role_ok (role_of b)

-- ---- the kinds
abbrev pub user_kinds : List Kind
user_kinds =
    record { type = 0x51; good = four_long; once = alike }
    ∷ record { type = 0x52; good = name_ok; once = alike }
    ∷ record { type = 0x53; good = four_long; once = alike }
    ∷ record { type = 0x54; good = good_54h; once = uid_in }
    ∷ record { type = 0x55; good = version_ok; once = alike }
    ∷ []

-- every sub-item of a kind is good, and nothing comes twice that must not
unfoldable pub kept : Walk → Kind → Bool
kept w k = all k.good (bodies k.type w) && differ (map k.once (bodies k.type w))

-- the sub-items fill their holder; there is a 51H; and each kind is kept
unfoldable pub sub_items_ok : Walk → Bool
sub_items_ok w = filled w && (leb 1 (length (bodies 0x51 w)) && all (kept w) user_kinds)

unfoldable pub good_50h : List ℕ → Bool
good_50h b = sub_items_ok (walk b)
