-- CUT INDEPENDENCE: however the runs of a script are cut, and whatever host gives them, the engine does what the reference does.
-- Assumes nothing.
use Prim.Native.Nat.{ℕ, ◌+◌, ◌≤◌, ◌<◌}
use mathlib.Core.Path.{◌≡◌, refl, sym, ap, ◌∙◌}
use mathlib.Core.List.{List, [], ◌++◌, map, append_assoc, append-nil}
use lib.ListN.{length, take}
use Rattle.framing.specs.Runs.{Ran, following, runs}
use Rattle.framing.specs.Host as host
use Rattle.framing.specs.Host.{Entry, One, Item, Hosted, HostedScript}
use Rattle.framing.specs.Reference as ref
use Rattle.framing.specs.Reference.{Machine}
use Rattle.framing.specs.Engine as eng
use Rattle.framing.specs.Engine.{EngineState}
use Rattle.framing.proofs.Ready.{Laws, Ready, ready_fresh}
use Rattle.framing.proofs.Call.{called, at_rest, Done, told}
use Rattle.framing.proofs.Hosts.{Advances, cut_script}

module _ (M : Machine) (L : Laws M) where
  open M use {R, E, A, limit}

  -- ---- any host

  -- one run, given by any host
  pub hosted : {c : One} {l : EngineState M} {s : List ℕ} {x : Ran (Entry A) (EngineState M)} → Ready M L l → Hosted (eng.engine_calls M) c l s x
      → Done M L x (ref.framed M l.state (take l.count l.gather ++ s))
  hosted {c} {l} ok host.done = record { ready = ok; same = rw append-nil (sym (at_rest M L l ok)) }
  hosted {c} {l} ok (host.offer p t h) =
      let k = called M L l p t ok in
      let ih = hosted k.ready h in
      record {
        ready = ih.ready;
        same = ap (following (eng.seen M (eng.receive M l p))) ih.same ∙ sym (rw append_assoc at k.same);
      }

  onward : (x : Ran (Entry A) (EngineState M)) (y : Ran (Entry A) (EngineState M)) (z : Ran (Entry A) (ref.Box M)) (is : List (Item One E))
      → eng.engine_boxed M x ≡ z → eng.engine_boxed M y ≡ ref.reference M is (eng.engine_box M x.end)
      → eng.engine_boxed M (following x.trace y) ≡ following z.trace (ref.reference M is z.end)
  onward x y z is p q = ap (following x.trace) q ∙ ap (λ (w : Ran (Entry A) (ref.Box M)). following w.trace (ref.reference M is w.end)) p

  -- A WHOLE SCRIPT, each run given by any host, all of it before the next item
  pub hosts : {l : EngineState M} {is : List (Item One E)} {x : Ran (Entry A) (EngineState M)} → Ready M L l → HostedScript (eng.engine_calls M) l is x
      → Done M L x (ref.reference M is (eng.engine_box M l))
  unfolding runs
  hosts ok host.nothing = record { ready = ok; same = refl }
  hosts {l} ok (host.gives c e {is = is} {y = y} w) =
      let d = told M L l c e ok in
      let ih = hosts d.ready w in
      record { ready = ih.ready; same = onward ((eng.engine_calls M).on_event l c e) y _ is d.same ih.same }
  hosts {l} ok (host.feeds c ps {is = is} {x = x} {y = y} h w) =
      let d = hosted ok h in
      let ih = hosts d.ready w in
      record { ready = ih.ready; same = onward x y _ is d.same ih.same }

  -- ---- the host that cuts

  -- each call on a piece that is not empty uses a byte
  pub advances : Advances (eng.engine_calls M) (Ready M L)
  advances =
      record {
        uses = λ l c p ok h. (called M L l p [] ok).at_least h;
        hears = λ l c p ok. (called M L l p [] ok).ready;
        does = λ l c e ok. (told M L l c e ok).ready;
      }

  -- ANY SCRIPT, ANY CUT
  pub cuts : (is : List (Item One E)) (l : EngineState M) → Ready M L l → Done M L (host.script (eng.engine_calls M) is l) (ref.reference M is (eng.engine_box M l))
  cuts is l ok = hosts ok (cut_script (eng.engine_calls M) (Ready M L) advances is l ok)

  -- FROM A FRESH ASSOCIATION, with two buffers of 6 + limit bytes or more, whatever they hold: the same trace and the same end
  pub from_fresh : (is : List (Item One E)) (r : R) (g o : List ℕ) → L.Sound r → 6 + limit ≤ length g → 6 + limit ≤ length o
      → eng.engine_boxed M (host.script (eng.engine_calls M) is (eng.engine_fresh M r g o)) ≡ ref.reference M is (ref.box M r [])
  from_fresh is r g o s hg ho = (cuts is (eng.engine_fresh M r g o) (ready_fresh M L r g o s hg ho)).same

  -- so whatever a reading call makes of the PDUs shown is the same
  pub read_alike : {X : Type 0} (read : List ℕ → X) (is : List (Item One E)) (r : R) (g o : List ℕ) → L.Sound r → 6 + limit ≤ length g → 6 + limit ≤ length o
      → map (λ (x : Entry A). read x.shown) (host.script (eng.engine_calls M) is (eng.engine_fresh M r g o)).trace
      ≡ map (λ (x : Entry A). read x.shown) (ref.reference M is (ref.box M r [])).trace
  read_alike read is r g o s hg ho =
      ap (λ (y : Ran (Entry A) (ref.Box M)). map (λ (x : Entry A). read x.shown) y.trace) (from_fresh is r g o s hg ho)

  -- and wherever it leads the engine is ready
  pub reached : (is : List (Item One E)) (r : R) (g o : List ℕ) → L.Sound r → 6 + limit ≤ length g → 6 + limit ≤ length o
      → Ready M L (host.script (eng.engine_calls M) is (eng.engine_fresh M r g o)).end
  reached is r g o s hg ho = (cuts is (eng.engine_fresh M r g o) (ready_fresh M L r g o s hg ho)).ready

  -- and there each call on a piece that is not empty uses a byte or more of it
  pub uses_a_byte : (is : List (Item One E)) (r : R) (g o : List ℕ) → L.Sound r → 6 + limit ≤ length g → 6 + limit ≤ length o
      → (p : List ℕ) → 0 < length p
      → (0 < (eng.receive M (host.script (eng.engine_calls M) is (eng.engine_fresh M r g o)).end p).used)
      × ((eng.receive M (host.script (eng.engine_calls M) is (eng.engine_fresh M r g o)).end p).used ≤ length p)
  uses_a_byte is r g o s hg ho p h =
      let k = called M L (host.script (eng.engine_calls M) is (eng.engine_fresh M r g o)).end p [] (reached is r g o s hg ho) in
      (k.at_least h, k.at_most)
