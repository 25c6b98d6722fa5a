-- Bytes put at a place of a lent buffer, with nothing else changed.
use Rattle.std.specs.Prelude.{ℕ, ◌+◌, ◌≡◌, cond, List, ◌++◌, length, take, drop, leb}

-- the buffer with bs from place `at` on
unfoldable pub put : List ℕ → ℕ → List ℕ → List ℕ
put o at bs = take at o ++ (bs ++ drop (at + length bs) o)

-- the buffer with bs at its start
unfoldable pub front : List ℕ → List ℕ → List ℕ
front o bs = bs ++ drop (length bs) o

-- bs from place `at` on where all of them have room, else the buffer as it was
unfoldable pub placed : List ℕ → ℕ → List ℕ → List ℕ
placed o at bs = cond (leb (at + length bs) (length o)) (put o at bs) o

-- the place behind them, or `at` where they have no room
unfoldable pub place_behind : List ℕ → ℕ → List ℕ → ℕ
place_behind o at bs = cond (leb (at + length bs) (length o)) (at + length bs) at

-- bs were put into o, which is now o', and r is the place behind them
pub record Placed (o : List ℕ) (at : ℕ) (bs : List ℕ) (r : ℕ) (o' : List ℕ) : Type 0 where
  pub behind : r ≡ place_behind o at bs
  pub out : o' ≡ placed o at bs
