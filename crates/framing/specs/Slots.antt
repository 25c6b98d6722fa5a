-- Slots: engines of one channel side by side, one for each channel of any number.
use Rattle.std.specs.Prelude.{Bool, cond, List, [], ◌∷◌, ◌++◌, map}
use Rattle.framing.specs.Runs.{Ran}
use Rattle.framing.specs.Host.{Calls, One, One.one, Item, Item.event, Item.run}

-- what is seen, with the slot on which it is seen
pub record At (C X : Type 0) : Type 0 where
  pub slot : C
  pub what : X

abbrev pub at : {C X : Type 0} → C → X → At C X
at c x = record { slot = c; what = x }

-- the slot that an item is given to, and the item as the slot's own engine gets it
abbrev pub slot_of : {C E : Type 0} → Item C E → C
slot_of (event c e) = c
slot_of (run c ps) = c

abbrev pub on_one : {C E : Type 0} → Item C E → Item One E
on_one (event c e) = event one e
on_one (run c ps) = run one ps

-- `same` says whether two channels are one
module _ {C : Type 0} (same : C → C → Bool) where
  -- what is seen on slot k
  abbrev pub own_of : {X : Type 0} → C → List (At C X) → List X
  own_of k [] = []
  own_of k (x ∷ l) = cond (same x.slot k) (x.what ∷ []) [] ++ own_of k l

  abbrev pub giving_to : {E : Type 0} → C → Item C E → List (Item One E)
  giving_to k i = cond (same (slot_of i) k) (on_one i ∷ []) []

  -- the items of a script that are given to slot k
  abbrev pub given_to : {E : Type 0} → C → List (Item C E) → List (Item One E)
  given_to k [] = []
  given_to k (i ∷ is) = giving_to k i ++ given_to k is

  module _ {E T : Type 0} (D : Calls One E T) where
    -- the engines, that of slot c changed
    abbrev pub changed : (C → D.S) → C → D.S → C → D.S
    changed f c s d = cond (same c d) s (f d)

    abbrev pub slots : Calls C E (At C T)
    slots =
        record {
          S = C → D.S;
          receive = λ f c p. let a = D.receive (f c) one p in record { used = a.used; seen = map (at c) a.seen; next = changed f c a.next };
          on_event = λ f c e. let a = D.on_event (f c) one e in record { trace = map (at c) a.trace; end = changed f c a.end };
        }

    -- a run of them all, looked at from slot k
    abbrev pub at_slot : C → Ran (At C T) (C → D.S) → Ran T D.S
    at_slot k x = record { trace = own_of k x.trace; end = x.end k }
