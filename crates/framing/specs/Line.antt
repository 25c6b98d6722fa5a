-- Line: two engines that talk over a line which may delay bytes and does nothing else to them.
use Rattle.std.specs.Prelude.{ℕ, Bool, true, false, cond, List, [], ◌∷◌, ◌++◌, map, take, drop}
use Rattle.framing.specs.Runs.{Ran, runs, givens}
use Rattle.framing.specs.Host.{Calls, One, One.one, Item, Item.event, Item.run, item}
use Rattle.framing.specs.Slots.{At, at}

pub data Side : Type 0 where
  left : Side
  right : Side

abbrev pub same_side : Side → Side → Bool
same_side left left = true
same_side left right = false
same_side right left = false
same_side right right = true

-- `bytes` are those that an entry of the trace says were sent
module _ {E T : Type 0} (D : Calls One E T) (bytes : T → List ℕ) where
  -- the bytes sent in a trace
  abbrev pub sent_in : List T → List ℕ
  sent_in [] = []
  sent_in (x ∷ l) = bytes x ++ sent_in l

  -- both ends, and the bytes on the way to each
  pub record Line : Type 0 where
    pub ends : Side → D.S
    pub way : Side → List ℕ

  -- at one end: a local event, or n of the bytes on the way arrive
  pub data Move : Type 0 where
    does : Side → E → Move
    arrive : Side → ℕ → Move

  abbrev pub side_of : Move → Side
  side_of (does k e) = k
  side_of (arrive k n) = k

  abbrev pub item_of : Move → Line → Item One E
  item_of (does k e) w = event one e
  item_of (arrive k n) w = run one (take n (w.way k) ∷ [])

  abbrev pub left_of : Move → Line → List ℕ
  left_of (does k e) w = w.way k
  left_of (arrive k n) w = drop n (w.way k)

  -- what the engine there sends goes on the way to the other end
  abbrev pub move : Move → Line → Ran (At Side T) Line
  move m w =
      let k = side_of m in
      let y = item D (item_of m w) (w.ends k) in
      record {
        trace = map (at k) y.trace;
        end = record {
          ends = λ d. cond (same_side k d) y.end (w.ends d);
          way = λ d. cond (same_side k d) (left_of m w) (w.way d ++ sent_in y.trace);
        };
      }

  abbrev pub talk : List Move → Line → Ran (At Side T) Line
  talk ms w = runs move ms w

  -- what the moves give to the engine at end k
  abbrev pub giving : Side → Move → Line → List (Item One E)
  giving k m w = cond (same_side (side_of m) k) (item_of m w ∷ []) []

  abbrev pub given_at : Side → List Move → Line → List (Item One E)
  given_at k ms w = givens move (giving k) ms w
