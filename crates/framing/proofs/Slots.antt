-- Each slot does what its own engine does with the items given to it.
-- Assumes nothing.
use Prim.Native.Nat.{ℕ}
use mathlib.Core.Path.{◌≡◌, refl, sym, ap, ◌∙◌}
use mathlib.Core.Bool.{Bool, true, false, cond}
use mathlib.Core.List.{List, [], ◌∷◌, ◌++◌, map, append_assoc, map-append}
use Rattle.framing.specs.Runs.{Ran, runs, givens}
use Rattle.framing.specs.Host as host
use Rattle.framing.specs.Host.{Calls, One, One.one, Item, Item.event, Item.run, feed}
use Rattle.framing.specs.Slots.{At, at, own_of, giving_to, given_to, changed, slots, at_slot}
use Rattle.framing.proofs.Runs.{runs_one}
use Rattle.framing.proofs.Sim.{View, Same, Alike, simulates, run_fed}

module _ {C : Type 0} (same : C → C → Bool) (same_self : (c : C) → same c c ≡ true) (same-is : (c d : C) → same c d ≡ true → c ≡ d) where
  -- ---- what is seen on a slot

  pub own_append : {X : Type 0} (k : C) (l m : List (At C X)) → own_of same k (l ++ m) ≡ own_of same k l ++ own_of same k m
  own_append k [] m = refl
  own_append k (x ∷ l) m = rw (own_append k l m) (sym (append_assoc (cond (same x.slot k) (x.what ∷ []) []) (own_of same k l) (own_of same k m)))

  pub own_same : {X : Type 0} (k j : C) (l : List X) → same j k ≡ true → own_of same k (map (at j) l) ≡ l
  own_same k j [] e = refl
  own_same k j (x ∷ l) e = rw (e, own_same k j l e)

  pub own_other : {X : Type 0} (k j : C) (l : List X) → same j k ≡ false → own_of same k (map (at j) l) ≡ []
  own_other k j [] e = refl
  own_other k j (x ∷ l) e = rw (e, own_other k j l e)

  module _ {E T : Type 0} (D : Calls One E T) where
    -- ---- an item on slot j is that item of the slot's own engine, and touches no other

    abbrev pub tagged : C → View T (At C T)
    tagged j = record { see = map (at j); nothing = refl; both = λ l m. map-append (at j) l m }

    -- slot j is at z, and every other where it was
    abbrev pub Holds : C → (C → D.S) → List (At C T) → D.S → (C → D.S) → Type 0
    Holds j f₀ rest z f = (f j ≡ z) × ((d : C) → same j d ≡ false → f d ≡ f₀ d)

    pub held : (j : C) (f₀ f : C → D.S) (z : D.S) → ((d : C) → same j d ≡ false → f d ≡ f₀ d) → Holds j f₀ [] z (changed same D f j z)
    held j f₀ f z o = (rw (same_self j), λ d e. rw e (o d e))

    heard : (j : C) (f₀ : C → D.S) (p : List ℕ) (z : D.S) (f : C → D.S) (rest : List (At C T)) → Holds j f₀ (((slots same D).receive f j p).seen ++ rest) z f
        → Alike (tagged j) (Holds j f₀) rest (D.receive z one p) ((slots same D).receive f j p)
    heard j f₀ p z f rest r = rw (← r.0) (record { used = refl; seen = refl; next = held j f₀ f (D.receive (f j) one p).next r.1 })

    -- an item on slot j
    event_at : (j : C) (e : E) (f : C → D.S) → Same (tagged j) (Holds j f) [] (D.on_event (f j) one e) (host.item (slots same D) (event j e) f)
    event_at j e f = record { trace = refl; end = held j f f (D.on_event (f j) one e).end (λ d q. refl) }

    run_at : (j : C) (ps : List (List ℕ)) (f : C → D.S) → Same (tagged j) (Holds j f) [] (runs (feed D one) ps (f j)) (host.item (slots same D) (run j ps) f)
    run_at j ps f = run_fed D (slots same D) (tagged j) (Holds j f) one j (heard j f) ps (f j) f [] (refl, λ d e. refl)

    -- ---- slot k by itself

    abbrev pub seen_at : C → View (At C T) T
    seen_at k = record { see = own_of same k; nothing = refl; both = own_append k }

    abbrev pub Stands : C → List T → (C → D.S) → D.S → Type 0
    Stands k rest f z = f k ≡ z

    -- what came of an item on slot j, looked at from slot k
    pub from : (k j : C) (i : Item One E) (f : C → D.S) (z : D.S) (y : Ran (At C T) (C → D.S)) (rest : List T) → f k ≡ z
        → Same (tagged j) (Holds j f) [] (host.item D i (f j)) y
        → Same (seen_at k) (Stands k) rest y (runs (host.item D) (cond (same j k) (i ∷ []) []) z)
    unfolding runs
    from k j i f z y rest r h = by (same j k) refl
      where
        by : (b : Bool) → same j k ≡ b → Same (seen_at k) (Stands k) rest y (runs (host.item D) (cond b (i ∷ []) []) z)
        by true e =
            let q : j ≡ k = same-is j k e in
            let w : f j ≡ z = ap f q ∙ r in
            rw (runs_one (host.item D) i z)
            (record {
              trace = ap (own_of same k) (sym h.trace) ∙ own_same k j (host.item D i (f j)).trace e ∙ ap (λ (v : D.S). (host.item D i v).trace) w;
              end = ap y.end (sym q) ∙ h.end.0 ∙ ap (λ (v : D.S). (host.item D i v).end) w;
            })
        by false e =
            record { trace = ap (own_of same k) (sym h.trace) ∙ own_other k j (host.item D i (f j)).trace e; end = h.end.1 k e ∙ r }

    each : (k : C) (i : Item C E) (f : C → D.S) (z : D.S) (rest : List T) → Stands k ((runs (host.item D) (giving_to same k i) z).trace ++ rest) f z
        → Same (seen_at k) (Stands k) rest (host.item (slots same D) i f) (runs (host.item D) (giving_to same k i) z)
    each k (event j e) f z rest r = from k j (event one e) f z _ rest r (event_at j e f)
    each k (run j ps) f z rest r = from k j (run one ps) f z _ rest r (run_at j ps f)

    givens_to : (k : C) (is : List (Item C E)) (f : C → D.S) → givens (host.item (slots same D)) (λ i g. giving_to same k i) is f ≡ given_to same k is
    unfolding givens
    givens_to k [] f = refl
    givens_to k (i ∷ is) f = ap (λ (l : List (Item One E)). giving_to same k i ++ l) (givens_to k is (host.item (slots same D) i f).end)

    -- EACH SLOT BY ITSELF: what is seen on slot k, and where it stands, is what its own engine does with the items given to it
    pub alone : (k : C) (is : List (Item C E)) (f : C → D.S)
        → at_slot same D k (host.script (slots same D) is f) ≡ host.script D (given_to same k is) (f k)
    alone k is f =
        let h = simulates (seen_at k) (Stands k) (host.item (slots same D)) (host.item D) (λ i g. giving_to same k i) (each k) is f (f k) [] refl in
        let q = givens_to k is f in
        (λ d. record { trace = h.trace d; end = h.end d }) ∙ ap (λ (js : List (Item One E)). host.script D js (f k)) q
