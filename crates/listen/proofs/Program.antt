-- THE LISTEN PROGRAM is one of demand 3's hosts: it gives transport indication, all bytes that it reads, each once and in order, and closed.
-- Assumes nothing.
use mathlib.Core.Path.{◌≡◌, refl, sym, ap, subst}
use mathlib.Core.List.{List, [], ◌∷◌, ◌++◌, append_assoc}
use Prim.Native.Nat.{ℕ, ◌+◌, ◌≤◌}
use native.Mathlib.Omega.{arith}
use lib.ListN.{length, length-append, length-drop}
use lib.Seq.{drop-nil}
use Rattle.framing.specs.Runs.{Ran, stop, following}
use Rattle.framing.specs.Host as host
use Rattle.framing.specs.Host.{Entry, Hosted, HostedScript, One.one}
use Rattle.association.specs.Events.{transport_indication, transport_closed}
use Rattle.association.specs.Machine.{Seen}
use Rattle.demand_3.specs.Calls.{Lent, leaves, fresh, machine, box_of, wanted}
use Rattle.demand_3.proofs.Same.{At}
use Rattle.demand_3.proofs.Demand.{at_fresh, any_host}
use Rattle.demand_3.proofs.Every.{at_received, at_given, held_received}
use Rattle.listen.specs.Listen as listen
use Rattle.listen.specs.Listen.{given, offering, Fed, Listened, script_of, Ended}

-- ---- each call uses a byte: no more calls than bytes

pub calls_within : {s t : Lent} {k : ℕ} {bs p : List ℕ} → At s → Fed s k bs p t → At t × (k + length p ≤ length bs)
calls_within r listen.unread = (r, omega arith)
calls_within r (listen.reads {bs = bs} b p f) =
    let h = calls_within r f in
    (h.0, rw (length-append bs (b ∷ p)) (omega (arith, h.1)))
calls_within r (listen.offers {b = b} {p = p} {t = t} f) =
    let h = calls_within r f in
    let m = held_received t h.0 (b ∷ p) in
    (at_received t h.0 (b ∷ p), simp length-drop (omega (arith, h.1, m.at_least (omega arith), m.at_most)))

-- ---- the bytes in order

-- whoever goes on from t with what is left, and u behind it, has gone on from s with all that was read, and u behind it
record Goes (s t : Lent) (bs p : List ℕ) : Type 0 where
  trace : List (Entry Seen)
  goes : (u : List ℕ) (x : Ran (Entry Seen) Lent) → Hosted machine one t (p ++ u) x → Hosted machine one s (bs ++ u) (following trace x)

goes_on : {s t : Lent} {k : ℕ} {bs p : List ℕ} → Fed s k bs p t → Goes s t bs p
goes_on listen.unread = record { trace = []; goes = λ u x h. h }
goes_on (listen.reads {bs = bs} b p f) =
    let g = goes_on f in
    record { trace = g.trace; goes = λ u x h. rw (append_assoc bs (b ∷ p) u) (g.goes ((b ∷ p) ++ u) x h) }
goes_on (listen.offers {b = b} {p = p} {t = t} f) =
    let g = goes_on f in
    let seen = (machine.receive t one (b ∷ p)).seen in
    record { trace = g.trace ++ seen; goes = λ u x h. rw (append_assoc g.trace seen x.trace) (g.goes u (following seen x) (host.offer (b ∷ p) u h)) }

-- nothing is left, and one more call has no bytes
ends : (t : Lent) → Hosted machine one t [] (following (machine.receive t one []).seen (stop (leaves (offering t []))))
ends t =
    let last = leaves (offering t []) in
    host.offer {s = t} [] [] (subst (λ (l : List ℕ). Hosted machine one last (l ++ []) (stop last)) (sym (drop-nil (offering t []).answer.told.used)) host.done)

-- ---- the program

module _ (g o : List ℕ) (hg : 16390 ≤ length g) (ho : 16390 ≤ length o) where
  pub program : {t : Lent} → Listened (given (fresh g o) transport_indication) t → Ended (fresh g o) (given t transport_closed)
  program (listen.at_end {bs = bs} {t = t} f) =
      let h = (goes_on f).goes [] (following (machine.receive t one []).seen (stop (leaves (offering t [])))) (ends t) in
      listen.whole bs _ (host.gives one transport_indication (host.feeds one (bs ∷ []) h (host.gives one transport_closed host.nothing))) refl
  program (listen.too_many f) =
      let h = (calls_within (at_given (fresh g o) (at_fresh g o hg ho) transport_indication) f).1 in
      listen.long f (omega (arith, h)) refl

  -- and such a host comes to where Table 9-10 leads when the whole input is framed at once
  pub as_wanted : (bs : List ℕ) {y : Ran (Entry Seen) Lent} → HostedScript machine (fresh g o) (script_of bs) y → box_of y.end ≡ (wanted (script_of bs)).end
  as_wanted bs w = ap (λ (x : Ran (Entry Seen) _). x.end) (any_host (script_of bs) g o hg ho w)
