-- With room for one record more than there are actions, the log holds a record for each of them, and nothing else differs.
-- Assumes nothing.
use Prim.Native.Nat.{ℕ, ◌+◌, ◌<◌}
use mathlib.Core.Path.{◌≡◌, refl, sym, ap, ◌∙◌}
use mathlib.Core.Bool.{true}
use mathlib.Core.List.{List, [], ◌++◌, map, append_assoc, append-nil, map-append}
use native.Mathlib.Omega.{arith}
use lib.ListN.{length, length-append, length-map}
use lib.Dec.{ltb}
use borrow.Author.Tests.{lt-ltb}
use Rattle.framing.specs.Host as host
use Rattle.framing.specs.Host.{Calls, Item}
use Rattle.framing.specs.Log.{Logged, logged, noting}
use Rattle.framing.proofs.Sim.{everything, Same, Alike, scripts}

module _ {C E T L : Type 0} (D : Calls C E T) (note : T → L) (room : ℕ) (whole : List L) (fits : length whole < room) where
  -- the log, with a record for each thing that is still to be seen, is the whole log
  Rel : List T → Logged D note room → D.S → Type 0
  Rel rest x s = (x.own ≡ s) × (x.log ++ map note rest ≡ whole)

  has_room : (rest : List T) (x : Logged D note room) → x.log ++ map note rest ≡ whole → ltb (length x.log) room ≡ true
  has_room rest x e = lt-ltb (length x.log) room (omega (arith, fits, ap length e, length-append x.log (map note rest)))

  noted : (l rest : List T) (log : List L) → log ++ map note (l ++ rest) ≡ whole → (log ++ map note l) ++ map note rest ≡ whole
  noted l rest log e = append_assoc log (map note l) (map note rest) ∙ rw (map-append) at e

  heard : (c : C) (p : List ℕ) (x : Logged D note room) (s : D.S) (rest : List T) → Rel ((D.receive s c p).seen ++ rest) x s
      → Alike everything Rel rest ((logged D note room).receive x c p) (D.receive s c p)
  unfolding Rel
  heard c p x s rest r =
      let a = D.receive x.own c p in
      let e : x.log ++ map note (a.seen ++ rest) ≡ whole = rw (← r.0) at r.1 in
      rw (← r.0, has_room (a.seen ++ rest) x e) (record { used = refl; seen = refl; next = (refl, noted a.seen rest x.log e) })

  did : (c : C) (e : E) (x : Logged D note room) (s : D.S) (rest : List T) → Rel ((D.on_event s c e).trace ++ rest) x s
      → Same everything Rel rest ((logged D note room).on_event x c e) (D.on_event s c e)
  unfolding Rel
  did c e x s rest r =
      let a = D.on_event x.own c e in
      let q : x.log ++ map note (a.trace ++ rest) ≡ whole = rw (← r.0) at r.1 in
      rw (← r.0, has_room (a.trace ++ rest) x q) (record { trace = refl; end = (refl, noted a.trace rest x.log q) })

module _ {C E T L : Type 0} (D : Calls C E T) (note : T → L) (room : ℕ) where
  -- `length log + (actions) < room` is room for one record more than there are actions
  pub all_logged : (is : List (Item C E)) (s : D.S) (log : List L) → length log + length (host.script D is s).trace < room
      → host.script (logged D note room) is (record { own = s; log = log })
      ≡ record { trace = (host.script D is s).trace; end = noting D note room (host.script D is s).end log (host.script D is s).trace }
  unfolding Rel
  all_logged is s log h =
      let x = host.script D is s in
      let n : length (log ++ map note x.trace) < room = omega (arith, length-append log (map note x.trace), length-map x.trace note) in
      let y = scripts (logged D note room) D everything (Rel D note room (log ++ map note x.trace) n)
      (heard D note room (log ++ map note x.trace) n) (did D note room (log ++ map note x.trace) n)
      is (record { own = s; log = log }) s [] (refl, rw (append-nil x.trace)) in
      let q : (host.script (logged D note room) is (record { own = s; log = log })).end.log ≡ log ++ map note x.trace =
      sym (append-nil (host.script (logged D note room) is (record { own = s; log = log })).end.log) ∙ y.end.1 in
      λ i. record { trace = y.trace i; end = record { own = y.end.0 i; log = q i } }
