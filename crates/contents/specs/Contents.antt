-- The items of an RQ and of an AC: "Known items in order: one 10H, one or more contexts (20H in RQ, 21H in AC), one 50H. Every other type is skipped
-- wherever it stands. The same filling and skipping holds inside items."
use Rattle.std.specs.Prelude.{ℕ, Bool, true, ◌&&◌, cond, List, [], ◌∷◌, ◌++◌, map, length, drop, get_or, replicate, leb, eqb}
use Rattle.laws.specs.Lists.{distinct}
use Rattle.numbers.specs.Results.{ACCEPTED}
use Rattle.octets.specs.Octets.{be32, odd}
use Rattle.names.specs.Name.{name_ok}
use Rattle.items.specs.Items.{Walk, walk, filled, bodies, first, good_bodies, holds}
use Rattle.user_items.specs.Kinds.{good_50h}

-- ---- the types that each holder knows: an RQ or an AC, with k for the type of a context, 20H or 21H
abbrev pub top_known : ℕ → List ℕ
top_known k = 0x10 ∷ k ∷ 0x50 ∷ []

-- a 20H
abbrev pub context_known : List ℕ
context_known = 0x30 ∷ 0x40 ∷ []

-- a 21H
abbrev pub answer_known : List ℕ
answer_known = 0x40 ∷ []

-- ---- what the rules below share: how many items of a type there are
abbrev pub count_of : ℕ → Walk → ℕ
count_of t w = length (bodies t w)

-- exactly one item of a type in a holder that its items fill
unfoldable pub one : ℕ → Walk → Bool
one t w = filled w && eqb (count_of t w) 1

-- a body that is a name, of whichever type
abbrev pub named : ℕ → List ℕ → Bool
named t b = name_ok b

-- ---- "20H: ID odd, three reserved bytes, one 30H, then one or more 40H, each with a name."
-- with n 40H
abbrev pub context_order : ℕ → List ℕ
context_order n = 0x30 ∷ replicate n 0x40

unfoldable pub subs_ok : Walk → Bool
subs_ok w = leb 1 (count_of 0x40 w) && holds context_known named (context_order (count_of 0x40 w)) w

unfoldable pub good_20h : List ℕ → Bool
good_20h b = leb 4 (length b) && (odd (get_or b 0 0) && subs_ok (walk (drop 4 b)))

-- ---- "21H: ID odd, reserved, result 0 to 4, reserved, exactly one 40H with a name"
-- what follows the four bytes: "for results 1 to 4 all that follows the four fixed bytes is left untested", its filling too
unfoldable pub transfer_item_ok : ℕ → Walk → Bool
transfer_item_ok result w = cond (eqb result ACCEPTED) (one 0x40 w && good_bodies answer_known named w) true

unfoldable pub good_21h : List ℕ → Bool
good_21h b = leb 4 (length b) && (odd (get_or b 0 0) && (leb (get_or b 2 0) 4 && transfer_item_ok (get_or b 2 0) (walk (drop 4 b))))

-- ---- the items. "10H: one name."
unfoldable pub context_good : ℕ → List ℕ → Bool
context_good k b = cond (eqb k 0x20) (good_20h b) (good_21h b)

unfoldable pub top_good : ℕ → ℕ → List ℕ → Bool
top_good k t b = cond (eqb t 0x10) (name_ok b) (cond (eqb t k) (context_good k b) (cond (eqb t 0x50) (good_50h b) true))

-- "one 10H, one or more contexts, one 50H", with n contexts
abbrev pub top_order : ℕ → ℕ → List ℕ
top_order k n = 0x10 ∷ (replicate n k ++ (0x50 ∷ []))

unfoldable pub top_ok : ℕ → Walk → Bool
top_ok k w = leb 1 (count_of k w) && holds (top_known k) (top_good k) (top_order k (count_of k w)) w

-- the ID of a context's body
abbrev pub body_id : List ℕ → ℕ
body_id b = get_or b 0 0

unfoldable pub ids : ℕ → Walk → List ℕ
ids k w = map body_id (bodies k w)

-- "An ID that comes twice makes the PDU invalid."
unfoldable pub items_ok : ℕ → List ℕ → Bool
items_ok k s = top_ok k (walk s) && distinct (ids k (walk s))

-- the maximum length of an RQ or an AC, from its items
unfoldable pub maximum_in : List ℕ → ℕ
maximum_in s = be32 (first (bodies 0x51 (walk (first (bodies 0x50 (walk s)))))) 0
