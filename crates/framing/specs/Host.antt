-- Hosts: whoever calls an engine, with a script of local events and of runs of bytes on its channels.
use Rattle.std.specs.Prelude.{ℕ, List, [], ◌∷◌, ◌++◌, drop}
use Rattle.laws.specs.Lists.{joined}
use Rattle.framing.specs.Runs.{Ran, stop, following, runs}
use Rattle.framing.specs.Rounds.{by_length}

-- ---- what a host sees

-- of one event: what it is told (the action and the state after), the PDU shown, or nothing, and the bytes sent
pub record Entry (A : Type 0) : Type 0 where
  pub told : A
  pub shown : List ℕ
  pub sent : List ℕ

-- ---- what a host has to give

-- the channel of a box that has one association
pub data One : Type 0 where
  one : One

-- a local event on a channel, or a run of bytes received on it, cut into pieces
pub data Item (C E : Type 0) : Type 0 where
  event : C → E → Item C E
  run : C → List (List ℕ) → Item C E

-- ---- an engine, as a host calls it

-- what comes of a piece: how many of its bytes were used, what is seen of it (nothing where no event came), and the engine after
pub record Heard (T S : Type 0) : Type 0 where
  pub used : ℕ
  pub seen : List T
  pub next : S

-- S is all that is lent to a call, and is lent untouched to the next; a refused call leaves it as it was, and nothing is seen of it
pub record Calls (C E T : Type 0) : Type 1 where
  pub S : Type 0
  pub receive : S → C → List ℕ → Heard T S
  pub on_event : S → C → E → Ran T S

module _ {C E T : Type 0} (D : Calls C E T) where
  open D use {S, receive, on_event}

  -- ---- the host that cuts: "offer unused bytes again before the next local event" (demand 3), and before the next piece

  abbrev pub feed_by : C → (List ℕ → S → Ran T S) → List ℕ → S → Ran T S
  feed_by c go [] s = stop s
  feed_by c go (b ∷ p) s = let a = receive s c (b ∷ p) in following a.seen (go (drop a.used (b ∷ p)) a.next)

  -- What to believe of it is `feed_step`, where each call uses a byte: feed c p s ≡ feed_by c (feed c) p s.
  unfoldable pub feed : C → List ℕ → S → Ran T S
  feed c p s = by_length (λ (q : List ℕ) (z : S). stop z) (feed_by c) p s

  abbrev pub item : Item C E → S → Ran T S
  item (event c e) s = on_event s c e
  item (run c ps) s = runs (feed c) ps s

  abbrev pub script : List (Item C E) → S → Ran T S
  script is s = runs item is s

  -- ---- any host at all

  -- Of the bytes that are still to be used it offers some, p, perhaps none, and keeps back others, t; what p leaves unused, and t behind it, are then
  -- still to be used. So it may go byte by byte, or join what was left with bytes that came since.
  pub data Hosted (c : C) : S → List ℕ → Ran T S → Type 0 where
    done : {s : S} → Hosted c s [] (stop s)
    offer : {s : S} (p t : List ℕ) {x : Ran T S} → Hosted c (receive s c p).next (drop (receive s c p).used p ++ t) x
        → Hosted c s (p ++ t) (following (receive s c p).seen x)

  -- a script in which each run is given by any such host, all of it before the next item
  pub data HostedScript : S → List (Item C E) → Ran T S → Type 0 where
    nothing : {s : S} → HostedScript s [] (stop s)
    gives : {s : S} (c : C) (e : E) {is : List (Item C E)} {y : Ran T S} → HostedScript (on_event s c e).end is y
        → HostedScript s (event c e ∷ is) (following (on_event s c e).trace y)
    feeds : {s : S} (c : C) (ps : List (List ℕ)) {is : List (Item C E)} {x y : Ran T S} → Hosted c s (joined ps) x → HostedScript x.end is y
        → HostedScript s (run c ps ∷ is) (following x.trace y)
