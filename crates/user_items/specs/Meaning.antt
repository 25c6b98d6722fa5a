-- What a good 50H is, in the paper's words, field by field: `good50H` tells exactly this (proofs/Exactly).
use Rattle.std.specs.Prelude.{ℕ, ◌≤◌, ◌<◌, true, List, [], ◌∷◌, ◌++◌, ◌≡◌, length, get_or}
use Rattle.octets.specs.Octets.{two}
use Rattle.names.specs.Name.{name_ok}
use Rattle.titles.specs.Title.{title_byte}
use Rattle.items.specs.Items.{walk, filled, bodies}
use Rattle.user_items.specs.Kinds.{uid_in}

-- the sub-items of a type in a 50H: how many there are, and the body of the i-th, counted from 0
abbrev pub count : ℕ → List ℕ → ℕ
count t b = length (bodies t (walk b))

abbrev pub body : ℕ → List ℕ → ℕ → List ℕ
body t b i = get_or (bodies t (walk b)) i []

-- at most one of a type, and its body is good
pub record AtMostOne (t : ℕ) (b : List ℕ) (Good : List ℕ → Type 0) : Type 0 where
  pub few : count t b ≤ 1
  pub good : (i : ℕ) → i < count t b → Good (body t b i)

-- "54H (two-byte UID length, a name, two role bytes of 0 or 1, filling it)"
pub record Good54H (b : List ℕ) : Type 0 where
  pub uid : List ℕ
  pub scu : ℕ
  pub scp : ℕ
  pub bytes : b ≡ two (length uid) ++ (uid ++ (scu ∷ scp ∷ []))
  pub name : name_ok uid ≡ true
  pub scu_role : scu ≤ 1
  pub scp_role : scp ≤ 1

-- "55H (version name, 1 to 16 title characters)"
pub record Good55H (b : List ℕ) : Type 0 where
  pub least : 1 ≤ length b
  pub most : length b ≤ 16
  pub characters : (i : ℕ) → i < length b → title_byte (get_or b i 0) ≡ true

pub record Good50H (b : List ℕ) : Type 0 where
  -- "items that fill the rest exactly .. The same filling and skipping holds inside items"
  pub fills : filled (walk b) ≡ true
  -- "exactly one 51H of length 4"
  pub one_maximum : count 0x51 b ≡ 1
  pub maximum : length (body 0x51 b 0) ≡ 4
  -- "52H (implementation class UID, a name) .. 53H (length 4, ..) .. At most one of 52H, 53H and 55H"
  pub class : AtMostOne 0x52 b (λ c. name_ok c ≡ true)
  pub counts : AtMostOne 0x53 b (λ c. length c ≡ 4)
  pub version : AtMostOne 0x55 b Good55H
  pub roles : (i : ℕ) → i < count 0x54 b → Good54H (body 0x54 b i)
  -- "54H at most once per UID": any two at different places have different UIDs
  pub once : (i j : ℕ) → i < j → j < count 0x54 b → uid_in (body 0x54 b i) ≡ uid_in (body 0x54 b j) → ⊥
