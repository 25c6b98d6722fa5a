-- What a choice means, in its own words: "otherwise result 0 with the first site record that matches, so that no better-liked match exists".
use Rattle.std.specs.Prelude.{ℕ, ◌<◌, ◌≡◌, List, [], ◌⊎◌, length, get_or}
use Rattle.numbers.specs.Results.{ACCEPTED, ABSTRACT-NOT-SUPPORTED, TRANSFER-NOT-SUPPORTED}
use Rattle.sheets.specs.Contexts.{Context, Answered}
use Rattle.choosing.specs.Choice.{Liked}

-- x stands at some place of the names
pub record OneOf (x : List ℕ) (xs : List (List ℕ)) : Type 0 where
  pub place : ℕ
  pub there : place < length xs
  pub same : get_or xs place [] ≡ x

-- a site's record matches a context: its abstract name is the context's, and its transfer name was proposed for it
pub record Matches (c : Context) (w : Liked) : Type 0 where
  pub abstract_name : w.abstr ≡ c.abstr
  pub transfer_name : OneOf w.transfer c.transfers

-- the record at a place of the site's sheet, from 0
abbrev pub liked_at : List Liked → ℕ → Liked
liked_at ws k = get_or ws k (record { abstr = []; transfer = [] })

-- the record at some place matches, none at a lower place does, and x is its transfer name
pub record Best (ws : List Liked) (c : Context) (x : List ℕ) : Type 0 where
  pub place : ℕ
  pub there : place < length ws
  pub matching : Matches c (liked_at ws place)
  pub none_better : (k : ℕ) → k < place → Matches c (liked_at ws k) → ⊥
  pub name : (liked_at ws place).transfer ≡ x

-- no record matches, and one has the abstract name
pub record NoCommon (ws : List Liked) (c : Context) : Type 0 where
  pub none : (k : ℕ) → k < length ws → Matches c (liked_at ws k) → ⊥
  pub place : ℕ
  pub there : place < length ws
  pub abstract_name : (liked_at ws place).abstr ≡ c.abstr

-- no record has the abstract name
abbrev pub NotThere : List Liked → Context → Type 0
NotThere ws c = (k : ℕ) → k < length ws → (liked_at ws k).abstr ≡ c.abstr → ⊥

-- the answer a to a context, from the site's records to its result and back
pub record WellChosen (ws : List Liked) (c : Context) (a : Answered) : Type 0 where
  pub same_id : a.id ≡ c.id
  -- what the records say decides the result; with 0 goes the name of the best, and no other
  pub best : (x : List ℕ) → Best ws c x → (a.result ≡ ACCEPTED) × (a.transfer ≡ x)
  pub no_common : NoCommon ws c → a.result ≡ TRANSFER-NOT-SUPPORTED
  pub not_there : NotThere ws c → a.result ≡ ABSTRACT-NOT-SUPPORTED
  -- and the result tells it
  pub accepted : a.result ≡ ACCEPTED → Best ws c a.transfer
  pub no_transfer : a.result ≡ TRANSFER-NOT-SUPPORTED → NoCommon ws c
  pub no_abstract : a.result ≡ ABSTRACT-NOT-SUPPORTED → NotThere ws c
  pub no_other : (a.result ≡ ACCEPTED) ⊎ ((a.result ≡ TRANSFER-NOT-SUPPORTED) ⊎ (a.result ≡ ABSTRACT-NOT-SUPPORTED))
  -- a refused context carries no transfer name
  pub refused : (a.result ≡ ACCEPTED → ⊥) → a.transfer ≡ []

-- the three shut each other out
pub record ShutOut (ws : List Liked) (c : Context) : Type 0 where
  pub best_no_common : (x : List ℕ) → Best ws c x → NoCommon ws c → ⊥
  pub best_not_there : (x : List ℕ) → Best ws c x → NotThere ws c → ⊥
  pub no_common_not_there : NoCommon ws c → NotThere ws c → ⊥
