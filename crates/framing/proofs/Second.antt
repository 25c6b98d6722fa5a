-- A SECOND ENGINE whose calls, its state seen through a map, answer as the first's do wherever an invariant holds that the first keeps: the same over every
-- script, and for every host. So too an engine that refuses what it is never handed, or that keeps its record in another form.
-- Assumes nothing.
use Prim.Native.Nat.{ℕ}
use mathlib.Core.Path.{◌≡◌, refl, sym, ap, ◌∙◌, subst}
use mathlib.Core.List.{List, [], ◌++◌}
use Rattle.framing.specs.Runs.{Ran}
use Rattle.framing.specs.Host as host
use Rattle.framing.specs.Host.{Calls, Heard, Item, HostedScript}
use Rattle.framing.proofs.Hosts.{Advances}
use Rattle.framing.proofs.Sim.{everything, Same, Alike, scripts, script_alike}

-- what came of a call, its state seen through a map
abbrev pub heard_by : {T S Z : Type 0} → (Z → S) → Heard T Z → Heard T S
heard_by of x = record { used = x.used; seen = x.seen; next = of x.next }

abbrev pub ran_by : {T S Z : Type 0} → (Z → S) → Ran T Z → Ran T S
ran_by of x = record { trace = x.trace; end = of x.end }

-- Y answers as D does
pub record Answers {C E T : Type 0} (D : Calls C E T) (Inv : D.S → Type 0) (Y : Calls C E T) (of : Y.S → D.S) : Type 0 where
  pub hears : (z : Y.S) (c : C) (p : List ℕ) → Inv (of z) → heard_by of (Y.receive z c p) ≡ D.receive (of z) c p
  pub does : (z : Y.S) (c : C) (e : E) → Inv (of z) → ran_by of (Y.on_event z c e) ≡ D.on_event (of z) c e

module _ {C E T : Type 0} (D : Calls C E T) (Inv : D.S → Type 0) (adv : Advances D Inv) (Y : Calls C E T) (of : Y.S → D.S) (ans : Answers D Inv Y of) where
  abbrev Rel : List T → D.S → Y.S → Type 0
  Rel rest s z = (s ≡ of z) × Inv s

  heard : (c : C) (p : List ℕ) (s : D.S) (z : Y.S) (rest : List T) → Rel ((Y.receive z c p).seen ++ rest) s z
      → Alike everything Rel rest (D.receive s c p) (Y.receive z c p)
  heard c p s z rest r =
      let w : D.receive s c p ≡ heard_by of (Y.receive z c p) =
      ap (λ (v : D.S). D.receive v c p) r.0 ∙ sym (ans.hears z c p (subst Inv r.0 r.1)) in
      record {
        used = ap (λ (h : Heard T D.S). h.used) w;
        seen = ap (λ (h : Heard T D.S). h.seen) w;
        next = (ap (λ (h : Heard T D.S). h.next) w, adv.hears s c p r.1);
      }

  did : (c : C) (e : E) (s : D.S) (z : Y.S) (rest : List T) → Rel ((Y.on_event z c e).trace ++ rest) s z
      → Same everything Rel rest (D.on_event s c e) (Y.on_event z c e)
  did c e s z rest r =
      let w : D.on_event s c e ≡ ran_by of (Y.on_event z c e) =
      ap (λ (v : D.S). D.on_event v c e) r.0 ∙ sym (ans.does z c e (subst Inv r.0 r.1)) in
      record { trace = ap (λ (h : Ran T D.S). h.trace) w; end = (ap (λ (h : Ran T D.S). h.end) w, adv.does s c e r.1) }

  -- by the host that cuts
  pub same_scripts : (is : List (Item C E)) (z : Y.S) → Inv (of z) → ran_by of (host.script Y is z) ≡ host.script D is (of z)
  same_scripts is z i =
      let h = scripts D Y everything Rel heard did is (of z) z [] (refl, i) in
      λ d. record { trace = sym h.trace d; end = sym h.end.0 d }

  -- by any host
  pub same_hosts : {is : List (Item C E)} {z : Y.S} {y : Ran T Y.S} → Inv (of z) → HostedScript Y z is y → HostedScript D (of z) is (ran_by of y)
  same_hosts {is} {z} {y} i w =
      let m = script_alike D Y everything Rel heard did (of z) [] (refl, i) w in
      let e : m.run ≡ ran_by of y = λ d. record { trace = m.same.trace d; end = m.same.end.0 d } in
      subst (HostedScript D (of z) is) e m.hosted
