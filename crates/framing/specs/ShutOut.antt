-- Engines that the main theorem shuts out. Document 01: "the engine that handles the first PDU or the first piece and afterwards only reports bytes used; and one
-- that reports more bytes used than it gathered or dropped".
use Rattle.std.specs.Prelude.{ℕ, ◌+◌, ◌≤◌, min, ◌≡◌, Bool, true, false, List, [], ◌∷◌, length}
use Rattle.framing.specs.Runs.{runs}
use Rattle.framing.specs.Host.{Calls, Heard, Item, feed, script}

-- ---- two classes of engines, whatever they keep in their state

module _ {C E T : Type 0} (D : Calls C E T) (start : D.S) where
  -- "handles the first PDU .. and afterwards only reports bytes used": wherever a script has led it, of a piece, offered until all is used, it sees one event or none.
  -- So do one that stops work at its first PDU for ever, and one that handles the first PDU of each piece.
  abbrev pub SeesOnePdu : Type 0
  SeesOnePdu = (is : List (Item C E)) (c : C) (p : List ℕ) → length (feed D c p (script D is start).end).trace ≤ 1

  -- "handles .. the first piece and afterwards only reports bytes used": wherever a script has led it, of a run it sees what it sees of the first piece, and no more.
  -- (b ∷ p: a piece that is not empty. An empty one is never offered.)
  abbrev pub SeesOnePiece : Type 0
  SeesOnePiece =
      (is : List (Item C E)) (c : C) (b : ℕ) (p : List ℕ) (ps : List (List ℕ))
      → (runs (feed D c) ((b ∷ p) ∷ ps) (script D is start).end).trace ≡ (feed D c (b ∷ p) (script D is start).end).trace

-- ---- the paper's engines, made from any engine

module _ {C E T : Type 0} (D : Calls C E T) where
  -- an engine that may have stopped work
  pub record MayStop : Type 0 where
    pub own : D.S
    pub stopped : Bool

  abbrev pub working : D.S → MayStop
  working s = record { own = s; stopped = false }

  abbrev pub some_seen : List T → Bool
  some_seen [] = false
  some_seen (x ∷ l) = true

  -- `stops` says whether it stops work after a call of which this was seen
  abbrev stopping_by : (List T → Bool) → Bool → MayStop → C → List ℕ → Heard T MayStop
  stopping_by stops true x c p = record { used = length p; seen = []; next = x }
  stopping_by stops false x c p =
      let a = D.receive x.own c p in
      record { used = a.used; seen = a.seen; next = record { own = a.next; stopped = stops a.seen } }

  abbrev pub stopping : (List T → Bool) → Calls C E T
  stopping stops =
      record {
        S = MayStop;
        receive = λ x c p. stopping_by stops x.stopped x c p;
        on_event = λ x c e. let y = D.on_event x.own c e in record { trace = y.trace; end = record { own = y.end; stopped = x.stopped } };
      }

  abbrev pub first_pdu : Calls C E T
  first_pdu = stopping some_seen

  abbrev pub first_piece : Calls C E T
  first_piece = stopping (λ l. true)

  -- of each piece it reports k bytes more than were used, or all where fewer are left
  abbrev pub over_reporting : ℕ → Calls C E T
  over_reporting k =
      record {
        S = D.S;
        receive = λ s c p. let a = D.receive s c p in record { used = min (a.used + k) (length p); seen = a.seen; next = a.next };
        on_event = D.on_event;
      }
