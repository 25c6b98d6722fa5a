-- SIMULATION: what holds of each step, or of each call, holds of every list of them. A second engine, an engine that also refuses, a log, slots and a line
-- are instances.
-- Assumes nothing.
use Prim.Native.Nat.{ℕ, zero, suc}
use mathlib.Core.Path.{◌≡◌, refl, ◌∙◌}
use mathlib.Core.List.{List, [], ◌∷◌, ◌++◌, append_assoc}
use lib.ListN.{length, drop}
use Rattle.framing.specs.Runs.{Ran, stop, following, runs, givens}
use Rattle.framing.specs.Rounds.{rounds, by_length}
use Rattle.framing.specs.Host as host
use Rattle.framing.specs.Host.{Calls, Heard, Item, feed_by, feed, Hosted, HostedScript, Item.event, Item.run}
use Rattle.framing.proofs.Runs.{runs_append}

-- what of one trace is looked for in the other: all of it, or a part
pub record View (T U : Type 0) : Type 0 where
  pub see : List T → List U
  pub nothing : see [] ≡ []
  pub both : (l m : List T) → see (l ++ m) ≡ see l ++ see m

abbrev pub everything : {T : Type 0} → View T T
everything {T} = record { see = λ l. l; nothing = refl; both = λ l m. refl }

-- `Rel rest s z` relates two states where `rest` is still to be seen: most relations do not look at it, that of a log with little room does
module _ {T U S Z : Type 0} (look : View T U) (Rel : List U → S → Z → Type 0) where
  pub record Same (rest : List U) (x : Ran T S) (y : Ran U Z) : Type 0 where
    pub trace : look.see x.trace ≡ y.trace
    pub end : Rel rest x.end y.end

  pub record Alike (rest : List U) (x : Heard T S) (y : Heard U Z) : Type 0 where
    pub used : x.used ≡ y.used
    pub seen : look.see x.seen ≡ y.seen
    pub next : Rel rest x.next y.next

  here : (rest : List U) (s : S) (z : Z) → Rel rest s z → Same rest (stop s) (stop z)
  here rest s z r = record { trace = look.nothing; end = r }

  then : (rest : List U) (l : List T) (m : List U) (x : Ran T S) (y : Ran U Z) → look.see l ≡ m → Same rest x y → Same rest (following l x) (following m y)
  then rest l m x y e h = record { trace = look.both l x.trace ∙ rw (e, h.trace); end = h.end }

  later : (l m rest : List U) (s : S) (z : Z) → Rel ((l ++ m) ++ rest) s z → Rel (l ++ (m ++ rest)) s z
  later l m rest s z r = rw append_assoc at r

  -- ---- THE LEMMA: each step on the left is some steps on the right, perhaps none, which may depend on where it is taken
  module _ {I J : Type 0} (step : I → S → Ran T S) (pace : J → Z → Ran U Z) (given : I → S → List J)
      (each : (i : I) (s : S) (z : Z) (rest : List U) → Rel ((runs pace (given i s) z).trace ++ rest) s z → Same rest (step i s) (runs pace (given i s) z)) where
    pub simulates : (is : List I) (s : S) (z : Z) (rest : List U) → Rel ((runs pace (givens step given is s) z).trace ++ rest) s z
        → Same rest (runs step is s) (runs pace (givens step given is s) z)
    unfolding runs givens
    simulates [] s z rest r = here rest s z r
    simulates (i ∷ is) s z rest r =
        let x = step i s in
        let y = runs pace (given i s) z in
        let w = runs pace (givens step given is x.end) y.end in
        let q : runs pace (given i s ++ givens step given is x.end) z ≡ following y.trace w = runs_append pace (given i s) (givens step given is x.end) z in
        let e : Same (w.trace ++ rest) x y = each i s z (w.trace ++ rest) (later y.trace w.trace rest s z (rw q at r)) in
        rw q (then rest x.trace y.trace (runs step is x.end) w e.trace (simulates is x.end y.end rest e.end))

  -- ---- in step: each step on the left is the same step on the right
  module _ {I : Type 0} (step : I → S → Ran T S) (pace : I → Z → Ran U Z)
      (each : (i : I) (s : S) (z : Z) (rest : List U) → Rel ((pace i z).trace ++ rest) s z → Same rest (step i s) (pace i z)) where
    pub in_step : (is : List I) (s : S) (z : Z) (rest : List U) → Rel ((runs pace is z).trace ++ rest) s z → Same rest (runs step is s) (runs pace is z)
    unfolding runs
    in_step [] s z rest r = here rest s z r
    in_step (i ∷ is) s z rest r =
        let y = pace i z in
        let w = runs pace is y.end in
        let e = each i s z (w.trace ++ rest) (later y.trace w.trace rest s z r) in
        then rest (step i s).trace y.trace (runs step is (step i s).end) w e.trace (in_step is (step i s).end y.end rest e.end)

-- ---- two engines, call by call
module _ {C K E F T U : Type 0} (X : Calls C E T) (Y : Calls K F U) (look : View T U) (Rel : List U → X.S → Y.S → Type 0) where
  -- a channel of each
  module _ (c : C) (d : K)
      (hears : (p : List ℕ) (s : X.S) (z : Y.S) (rest : List U) → Rel ((Y.receive z d p).seen ++ rest) s z → Alike look Rel rest (X.receive s c p) (Y.receive z d p)) where
    fed_to : (k : ℕ) (p : List ℕ) (s : X.S) (z : Y.S) (rest : List U)
        → Rel ((rounds (λ (q : List ℕ) (v : Y.S). stop v) (feed_by Y d) k p z).trace ++ rest) s z
        → Same look Rel rest (rounds (λ (q : List ℕ) (v : X.S). stop v) (feed_by X c) k p s) (rounds (λ (q : List ℕ) (v : Y.S). stop v) (feed_by Y d) k p z)
    unfolding rounds
    fed_to zero p s z rest r = here look Rel rest s z r
    fed_to (suc k) [] s z rest r = here look Rel rest s z r
    fed_to (suc k) (b ∷ p) s z rest r =
        let a = X.receive s c (b ∷ p) in
        let o = Y.receive z d (b ∷ p) in
        let w = rounds (λ (q : List ℕ) (v : Y.S). stop v) (feed_by Y d) k (drop o.used (b ∷ p)) o.next in
        let h = hears (b ∷ p) s z (w.trace ++ rest) (later look Rel o.seen w.trace rest s z r) in
        then look Rel rest a.seen o.seen _ w h.seen (rw h.used (fed_to k (drop o.used (b ∷ p)) a.next o.next rest h.next))

    pub fed : (p : List ℕ) (s : X.S) (z : Y.S) (rest : List U) → Rel ((feed Y d p z).trace ++ rest) s z → Same look Rel rest (feed X c p s) (feed Y d p z)
    unfolding feed by_length
    fed p s z rest r = fed_to (length p) p s z rest r

    pub run_fed : (ps : List (List ℕ)) (s : X.S) (z : Y.S) (rest : List U) → Rel ((runs (feed Y d) ps z).trace ++ rest) s z
        → Same look Rel rest (runs (feed X c) ps s) (runs (feed Y d) ps z)
    run_fed ps s z rest r = in_step look Rel (feed X c) (feed Y d) fed ps s z rest r

-- ---- two engines with the same channels and local events
module _ {C E T U : Type 0} (X : Calls C E T) (Y : Calls C E U) (look : View T U) (Rel : List U → X.S → Y.S → Type 0)
    (hears : (c : C) (p : List ℕ) (s : X.S) (z : Y.S) (rest : List U) → Rel ((Y.receive z c p).seen ++ rest) s z
    → Alike look Rel rest (X.receive s c p) (Y.receive z c p))
    (does : (c : C) (e : E) (s : X.S) (z : Y.S) (rest : List U) → Rel ((Y.on_event z c e).trace ++ rest) s z
    → Same look Rel rest (X.on_event s c e) (Y.on_event z c e)) where
  pub items : (i : Item C E) (s : X.S) (z : Y.S) (rest : List U) → Rel ((host.item Y i z).trace ++ rest) s z
      → Same look Rel rest (host.item X i s) (host.item Y i z)
  items (event c e) s z rest r = does c e s z rest r
  items (run c ps) s z rest r = run_fed X Y look Rel c c (hears c) ps s z rest r

  -- by the host that cuts
  pub scripts : (is : List (Item C E)) (s : X.S) (z : Y.S) (rest : List U) → Rel ((host.script Y is z).trace ++ rest) s z
      → Same look Rel rest (host.script X is s) (host.script Y is z)
  scripts is s z rest r = in_step look Rel (host.item X) (host.item Y) items is s z rest r

  -- by any host: what it did with the one, it could have done with the other
  pub record HostedAlike (c : C) (s : X.S) (b : List ℕ) (rest : List U) (y : Ran U Y.S) : Type 0 where
    pub run : Ran T X.S
    pub hosted : Hosted X c s b run
    pub same : Same look Rel rest run y

  pub hosted_alike : {c : C} {z : Y.S} {b : List ℕ} {y : Ran U Y.S} (s : X.S) (rest : List U) → Rel (y.trace ++ rest) s z → Hosted Y c z b y
      → HostedAlike c s b rest y
  hosted_alike {c} {z} s rest r host.done = record { run = stop s; hosted = host.done; same = here look Rel rest s z r }
  hosted_alike {c} {z} s rest r (host.offer p t {x = y} h) =
      let o = Y.receive z c p in
      let a = hears c p s z (y.trace ++ rest) (later look Rel o.seen y.trace rest s z r) in
      let m = hosted_alike (X.receive s c p).next rest a.next h in
      record {
        run = following (X.receive s c p).seen m.run;
        hosted = host.offer {s = s} p t {x = m.run} (rw a.used m.hosted);
        same = then look Rel rest (X.receive s c p).seen o.seen m.run y a.seen m.same;
      }

  pub record ScriptAlike (s : X.S) (is : List (Item C E)) (rest : List U) (y : Ran U Y.S) : Type 0 where
    pub run : Ran T X.S
    pub hosted : HostedScript X s is run
    pub same : Same look Rel rest run y

  pub script_alike : {z : Y.S} {is : List (Item C E)} {y : Ran U Y.S} (s : X.S) (rest : List U) → Rel (y.trace ++ rest) s z → HostedScript Y z is y
      → ScriptAlike s is rest y
  script_alike {z} s rest r host.nothing = record { run = stop s; hosted = host.nothing; same = here look Rel rest s z r }
  script_alike {z} s rest r (host.gives c e {y = y} w) =
      let o = Y.on_event z c e in
      let d = does c e s z (y.trace ++ rest) (later look Rel o.trace y.trace rest s z r) in
      let m = script_alike (X.on_event s c e).end rest d.end w in
      record {
        run = following (X.on_event s c e).trace m.run;
        hosted = host.gives c e m.hosted;
        same = then look Rel rest (X.on_event s c e).trace o.trace m.run y d.trace m.same;
      }
  script_alike {z} s rest r (host.feeds c ps {x = x} {y = y} h w) =
      let d = hosted_alike s (y.trace ++ rest) (later look Rel x.trace y.trace rest s z r) h in
      let m = script_alike d.run.end rest d.same.end w in
      record {
        run = following d.run.trace m.run;
        hosted = host.feeds c ps d.hosted m.hosted;
        same = then look Rel rest d.run.trace x.trace m.run y d.same.trace m.same;
      }
