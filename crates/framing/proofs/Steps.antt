-- EXACTLY: of the entries of a trace, those that pass a test are, in order, those of the events that pass a test.
-- Assumes nothing.
use mathlib.Core.Path.{◌≡◌, refl, sym, ap, ◌∙◌}
use mathlib.Core.Bool.{Bool, true, false, cond}
use mathlib.Core.Option.{Option, none, some}
use mathlib.Core.List.{List, [], ◌∷◌, ◌++◌, map, append_assoc, map-append}
use Rattle.laws.specs.Lists.{joined}
use Rattle.framing.specs.Runs.{Ran, runs, givens}
use Rattle.framing.specs.Framing.{Brought, split}
use Rattle.framing.specs.Host.{Entry, One, Item, Item.event, Item.run}
use Rattle.framing.specs.Reference as ref
use Rattle.framing.specs.Reference.{Machine, Reaction}
use Rattle.framing.specs.Taken as steps
use Rattle.framing.specs.Taken.{those, Took}

those_append : {X : Type 0} (f : X → Bool) (l m : List X) → those f (l ++ m) ≡ those f l ++ those f m
those_append f [] m = refl
those_append f (x ∷ l) m = rw (those_append f l m) (sym (append_assoc (cond (f x) (x ∷ []) []) (those f l) (those f m)))

-- a list of steps, where it holds of each
module _ {I T U S : Type 0} (step : I → S → Ran T S) (given : I → S → List U) (f : T → Bool) (h : U → Bool) (g : U → T)
    (each : (i : I) (s : S) → those f (step i s).trace ≡ map g (those h (given i s))) where
  all_steps : (is : List I) (s : S) → those f (runs step is s).trace ≡ map g (those h (givens step given is s))
  unfolding runs givens
  all_steps [] s = refl
  all_steps (i ∷ is) s =
      those_append f (step i s).trace (runs step is (step i s).end).trace
      ∙ rw (each i s, all_steps is (step i s).end, those_append h (given i s), map-append)

module _ (M : Machine) where
  open M use {R, E, A, limit, drops, on_local}

  -- f tests what is seen, and comes to the test h of the event and the record that it met; no local event passes it
  module _ (f : Entry A → Bool) (h : Took M → Bool) (same : (t : Took M) → f (steps.entry_at M t) ≡ h t)
      (never : (r : R) (e : E) (x : Reaction R A) → on_local r e ≡ some x → f (ref.entry M x []) ≡ false) where
    one_kept : (t : Took M) (b : Bool) → cond b (steps.entry_at M t ∷ []) [] ++ [] ≡ map (steps.entry_at M) (cond b (t ∷ []) [] ++ [])
    one_kept t true = refl
    one_kept t false = refl

    one_event : (v : Brought) (r : R) → those f (ref.takes M v r).trace ≡ map (steps.entry_at M) (those h (steps.took M v r))
    one_event v r = by (drops r)
      where
        by : (b : Bool) → those f (ref.takes_by M b v r).trace ≡ map (steps.entry_at M) (those h (cond b [] (record { met = r; came = v } ∷ [])))
        by true = refl
        by false = rw (same (record { met = r; came = v })) (one_kept (record { met = r; came = v }) (h (record { met = r; came = v })))

    local_by : (r : R) (e : E) (b : ref.Box M) (o : Option (Reaction R A)) → on_local r e ≡ o → those f (ref.local_by M o b).trace ≡ []
    local_by r e b none q = refl
    local_by r e b (some x) q = rw (never r e x q)

    one_item : (i : Item One E) (b : ref.Box M) → those f (ref.ref_item M i b).trace ≡ map (steps.entry_at M) (those h (steps.took_of M i b))
    unfolding ref.framed
    one_item (event c e) b = local_by b.state e b (on_local b.state e) refl
    one_item (run c ps) b = all_steps (ref.takes M) (steps.took M) f h (steps.entry_at M) one_event (split limit (b.got ++ joined ps)).events b.state

    -- the entries that pass f are those of the events that pass h
    pub exactly : (is : List (Item One E)) (b : ref.Box M) → those f (ref.reference M is b).trace ≡ map (steps.entry_at M) (those h (steps.taken M is b))
    exactly is b = all_steps (ref.ref_item M) (steps.took_of M) f h (steps.entry_at M) one_item is b

    -- and where each of those shows its PDU, the PDUs shown are, in order, those of the events that pass h
    module _ (shows : (t : Took M) → h t ≡ true → (ref.react M t.met t.came).shows ≡ true) where
      shown_one : (t : Took M) (b : Bool) → h t ≡ b → map (λ (x : Entry A). x.shown) (map (steps.entry_at M) (cond b (t ∷ []) [])) ≡ map (steps.pdu_at M) (cond b (t ∷ []) [])
      shown_one t true e = rw (shows t e)
      shown_one t false e = refl

      shown_those : (l : List (Took M)) → map (λ (x : Entry A). x.shown) (map (steps.entry_at M) (those h l)) ≡ map (steps.pdu_at M) (those h l)
      shown_those [] = refl
      shown_those (t ∷ l) =
          let a : List (Took M) = cond (h t) (t ∷ []) [] in
          let b : List (Took M) = those h l in
          ap (map (λ (x : Entry A). x.shown)) (map-append (steps.entry_at M) a b)
          ∙ map-append (λ (x : Entry A). x.shown) (map (steps.entry_at M) a) (map (steps.entry_at M) b)
          ∙ rw (shown_one t (h t) refl, shown_those l) (sym (map-append (steps.pdu_at M) a b))

      pub shown_exactly : (is : List (Item One E)) (b : ref.Box M)
          → map (λ (x : Entry A). x.shown) (those f (ref.reference M is b).trace) ≡ map (steps.pdu_at M) (those h (steps.taken M is b))
      shown_exactly is b = ap (map (λ (x : Entry A). x.shown)) (exactly is b) ∙ shown_those (steps.taken M is b)
