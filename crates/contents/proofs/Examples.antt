-- Worked examples of the items' order, and of which are known where: antt computes both sides.
-- Assumes nothing.
use Prim.Native.Nat.{ℕ}
use mathlib.Core.Bool.{true, not, ◌&&◌}
use mathlib.Core.List.{List, [], ◌∷◌, ◌++◌}
use mathlib.Core.Path.{◌≡◌, refl}
use Rattle.laws.specs.Lists.{all, distinct}
use Rattle.laws.specs.Text.{bytes}
use Rattle.octets.specs.Octets.{be32}
use Rattle.names.specs.Name.{name_ok}
use Rattle.items.specs.Wire.{item_bytes}
use Rattle.items.proofs.Examples.{items_open}
use Rattle.user_items.proofs.Examples.{user_open}
use Rattle.contents.specs.Contents.{one, subs_ok, good_20h, transfer_item_ok, good_21h, context_good, top_good, top_ok, ids, items_ok, maximum_in}

-- what the definitions of the items' rules compute with, by one name for an `unfolding` line
unfoldable pub contents_open : Unit {0}
unfolding items_open user_open items_ok top_ok subs_ok one good_20h transfer_item_ok good_21h context_good top_good ids maximum_in name_ok distinct be32
contents_open = tt

-- an item of a type whose body is the name "1"
abbrev named : ℕ → List ℕ
named t = item_bytes t (bytes "1")

-- with rubbish in their reserved bytes
abbrev context : ℕ → List ℕ → List ℕ
context id subs = item_bytes 0x20 (id ∷ 0xDE ∷ 0xAD ∷ 0xBE ∷ subs)

abbrev proposed : ℕ → List ℕ
proposed id = context id (named 0x30 ++ named 0x40)

abbrev answer_with : ℕ → ℕ → List ℕ → List ℕ
answer_with id result subs = item_bytes 0x21 (id ∷ 0xDE ∷ result ∷ 0xAD ∷ subs)

abbrev answer : List ℕ → List ℕ
answer subs = answer_with 1 0 subs

abbrev maximum : List ℕ
maximum = item_bytes 0x51 (0 ∷ 0 ∷ 0x40 ∷ 0 ∷ [])

abbrev user : List ℕ
user = item_bytes 0x50 maximum

-- ---- items of an RQ
abbrev good : List (List ℕ)
good =
    -- a 30H at the top is of another type
    (named 0x10 ++ (named 0x30 ++ (proposed 1 ++ user)))
    -- a 21H in an RQ too: neither its body nor its ID counts
    ∷ (named 0x10 ++ (proposed 1 ++ (answer [] ++ user)))
    -- what stands in a skipped item is not looked at: a 10H, and a 20H that passes the end
    ∷ (named 0x10 ++ (proposed 1 ++ (user ++ item_bytes 0xF0 (named 0x10 ++ (0x20 ∷ 0 ∷ 0xFF ∷ 0xFF ∷ 1 ∷ [])))))
    -- 52H to 55H outside a 50H are of other types: malformed ones, at the top and in a context
    ∷ (item_bytes 0x52 [] ++ (named 0x10 ++ (context 1 (item_bytes 0x54 [] ++ (named 0x30 ++ named 0x40)) ++ (item_bytes 0x53 (1 ∷ []) ++ (user ++ item_bytes 0x55 [])))))
    -- a 10H inside a 50H is not a second one
    ∷ (named 0x10 ++ (proposed 1 ++ item_bytes 0x50 (named 0x10 ++ maximum)))
    ∷ []

abbrev bad : List (List ℕ)
bad =
    -- nothing at all
    []
    -- a context behind the 50H
    ∷ (named 0x10 ++ (proposed 1 ++ (user ++ proposed 3)))
    -- a 21H is no context of an RQ
    ∷ (named 0x10 ++ (answer (named 0x40) ++ user))
    -- the only 50H stands in a skipped item
    ∷ (named 0x10 ++ (proposed 1 ++ item_bytes 0xF0 user))
    -- a skipped item that passes the end by one byte
    ∷ (named 0x10 ++ (proposed 1 ++ (user ++ (0xF0 ∷ 0 ∷ 0 ∷ 2 ∷ 0 ∷ []))))
    -- the 30H between two 40H
    ∷ (named 0x10 ++ (context 1 (named 0x40 ++ (named 0x30 ++ named 0x40)) ++ user))
    -- two 30H
    ∷ (named 0x10 ++ (context 1 (named 0x30 ++ (named 0x30 ++ named 0x40)) ++ user))
    -- the second 40H has no name
    ∷ (named 0x10 ++ (context 1 (named 0x30 ++ (named 0x40 ++ item_bytes 0x40 (bytes "1."))) ++ user))
    -- a 20H of three bytes
    ∷ (named 0x10 ++ (item_bytes 0x20 (1 ∷ 0 ∷ 0 ∷ []) ++ user))
    -- a malformed 52H in the 50H
    ∷ (named 0x10 ++ (proposed 1 ++ item_bytes 0x50 (maximum ++ item_bytes 0x52 [])))
    -- a second 51H, of another length
    ∷ (named 0x10 ++ (proposed 1 ++ item_bytes 0x50 (maximum ++ item_bytes 0x51 (0 ∷ 0 ∷ 0 ∷ []))))
    ∷ []

-- ---- items of an AC
abbrev good_answers : List (List ℕ)
good_answers =
    -- inside a 21H a 30H is of another type
    (named 0x10 ++ (answer (item_bytes 0x30 [] ++ named 0x40) ++ user))
    -- and in an AC a 20H is
    ∷ (named 0x10 ++ (context 2 [] ++ (answer (named 0x40) ++ user)))
    -- behind the four bytes of a refused 21H: an empty name, nothing, two 40H, one that passes the end, what looks like a 50H
    ∷ (named 0x10 ++ (answer_with 1 1 (item_bytes 0x40 []) ++ user))
    ∷ (named 0x10 ++ (answer_with 1 2 [] ++ user))
    ∷ (named 0x10 ++ (answer_with 1 3 (named 0x40 ++ named 0x40) ++ user))
    ∷ (named 0x10 ++ (answer_with 1 4 (0x40 ∷ 0 ∷ 0xFF ∷ 0xFF ∷ []) ++ user))
    ∷ (named 0x10 ++ (answer (named 0x40) ++ (answer_with 3 4 user ++ user)))
    ∷ []

abbrev bad_answers : List (List ℕ)
bad_answers =
    -- a 20H is no context of an AC
    (named 0x10 ++ (proposed 1 ++ user))
    -- two 40H
    ∷ (named 0x10 ++ (answer (named 0x40 ++ named 0x40) ++ user))
    -- accepted, with an empty name
    ∷ (named 0x10 ++ (answer (item_bytes 0x40 []) ++ user))
    -- refused: result 5; an even ID; three bytes; an ID that came before; one that passes the end by a byte, so that no 50H is left
    ∷ (named 0x10 ++ (answer_with 1 5 (named 0x40) ++ user))
    ∷ (named 0x10 ++ (answer_with 2 4 (named 0x40) ++ user))
    ∷ (named 0x10 ++ (item_bytes 0x21 (1 ∷ 0 ∷ 4 ∷ []) ++ user))
    ∷ (named 0x10 ++ (answer (named 0x40) ++ (answer_with 1 4 [] ++ user)))
    ∷ (named 0x10 ++ (answer (named 0x40) ++ (0x21 ∷ 0 ∷ 0 ∷ 17 ∷ 3 ∷ 0 ∷ 4 ∷ 0 ∷ user)))
    ∷ []

pub judged : (all (items_ok 0x20) good && (all (λ s. not (items_ok 0x20 s)) bad && (all (items_ok 0x21) good_answers && all (λ s. not (items_ok 0x21 s)) bad_answers))) ≡ true
unfolding contents_open
judged = refl
