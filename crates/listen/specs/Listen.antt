-- The listen program: the calls that it makes, in their order, whatever is read.
use Rattle.std.specs.Prelude.{◌≡◌, List, [], ◌∷◌, ◌++◌, ℕ, suc, ◌≤◌, length, drop}
use Rattle.framing.specs.Runs.{Ran}
use Rattle.framing.specs.Host.{Entry, One, Item, HostedScript, One.one, Item.event, Item.run}
use Rattle.association.specs.declared.Assoc.{Assoc}
use Rattle.association.specs.Events.{Local, transport_indication, transport_closed}
use Rattle.association.specs.Machine.{Seen}
use Rattle.association.specs.Calls.{Call, receive_of, local_of}
use Rattle.demand_3.specs.Calls.{Lent, leaves, machine}

-- u64::MAX
abbrev pub most : ℕ
most = 18446744073709551615

abbrev pub lent : Assoc → List ℕ → List ℕ → Lent
lent a g o = record { assoc = a; gather = g; out = o }

-- what a local event leaves
abbrev pub given : Lent → Local → Lent
given s e = leaves (local_of s.assoc s.gather s.out e)

-- a call that is offered the bytes p
abbrev pub offering : Lent → List ℕ → Call
offering s p = receive_of s.assoc s.gather p s.out

-- From s on: the number of calls made; all bytes read, in order; those of them that are not used yet; what is lent to the next call. What a call did not use is
-- offered to the next one. Only where all is used is a piece read.
pub data Fed (s : Lent) : ℕ → List ℕ → List ℕ → Lent → Type 0 where
  unread : Fed s 0 [] [] s
  reads : {k : ℕ} {bs : List ℕ} {t : Lent} (b : ℕ) (p : List ℕ) → Fed s k bs [] t → Fed s k (bs ++ (b ∷ p)) (b ∷ p) t
  offers : {k : ℕ} {bs : List ℕ} {b : ℕ} {p : List ℕ} {t : Lent} → Fed s k bs (b ∷ p) t
      → Fed s (suc k) bs (drop (offering t (b ∷ p)).answer.told.used (b ∷ p)) (leaves (offering t (b ∷ p)))

-- How the loop ends: all that was read is used and a read brought nothing, at which it makes a call with no bytes; or it has made `most` calls. What reads bring no contract
-- can say.
pub data Listened (s : Lent) : Lent → Type 0 where
  at_end : {k : ℕ} {bs : List ℕ} {t : Lent} → Fed s k bs [] t → Listened s (leaves (offering t []))
  too_many : {bs p : List ℕ} {t : Lent} → Fed s most bs p t → Listened s t

-- ---- the whole program: transport indication, the input, closed

abbrev pub script_of : List ℕ → List (Item One Local)
script_of bs = event one transport_indication ∷ run one (bs ∷ []) ∷ event one transport_closed ∷ []

-- What leads from s to t, with the bytes bs read: a host of demand 3 that gives that script; or `most` calls between the two events, where bs has no fewer bytes.
pub data Ended (s t : Lent) : Type 0 where
  whole : (bs : List ℕ) (y : Ran (Entry Seen) Lent) → HostedScript machine s (script_of bs) y → y.end ≡ t → Ended s t
  long : {bs p : List ℕ} {u : Lent} → Fed (given s transport_indication) most bs p u → most ≤ length bs → given u transport_closed ≡ t → Ended s t
