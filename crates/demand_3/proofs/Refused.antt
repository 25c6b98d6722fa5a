-- THE REFUSALS that a host meets are, in order, those that the reference's local events get: no others, and all of them.
-- Assumes nothing.
use Prim.Native.Nat.{ℕ, ◌≤◌}
use mathlib.Core.Path.{◌≡◌, refl, sym, ap, ◌∙◌}
use mathlib.Core.List.{List, [], ◌∷◌, ◌++◌}
use lib.ListN.{length}
use Rattle.framing.specs.Runs.{Ran, runs, givens}
use Rattle.framing.specs.Host as host
use Rattle.framing.specs.Host.{Entry, One, Item, Item.event, Item.run}
use Rattle.framing.specs.Reference as ref
use Rattle.framing.proofs.Runs.{runs_one}
use Rattle.framing.proofs.Call.{Done}
use Rattle.framing.proofs.Hosts.{cut_run}
use Rattle.framing.proofs.Sim.{everything, Same, in_step}
use Rattle.framing.proofs.Instances.{second_cuts}
use Rattle.association.specs.Events.{Local}
use Rattle.association.specs.Machine.{Seen, upper}
use Rattle.demand_2.proofs.Kept.{upper_laws}
use Rattle.demand_2.proofs.Calls.{local_refusal_so}
use Rattle.demand_3.specs.Calls.{Lent, fresh, Made, machine, every, refusals, seen_of, refusal_seen, box_of, fresh_box}
use Rattle.demand_3.specs.Every.{Each, looked}
use Rattle.demand_3.specs.Refused.{refused_by, refused_at, refused_in}
use Rattle.demand_3.proofs.Same.{engine, At, same_calls, refused_same}
use Rattle.demand_3.proofs.Demand.{at_fresh, start}
use Rattle.demand_3.proofs.Every.{advances, each_run, never_refused}
use Rattle.demand_3.proofs.Looked.{looked_item}

-- the reference, of which the refusals are seen
abbrev pace : Item One Local → ref.Box upper → Ran ℕ (ref.Box upper)
pace i b = record { trace = refused_at i b; end = (ref.ref_item upper i b).end }

paces : (is : List (Item One Local)) (b : ref.Box upper) → (runs pace is b).trace ≡ refused_in is b
unfolding runs givens
paces [] b = refl
paces (i ∷ is) b = ap (λ (l : List ℕ). refused_at i b ++ l) (paces is (ref.ref_item upper i b).end)

-- ---- one item

abbrev Rel : List ℕ → Lent → ref.Box upper → Type 0
Rel rest s b = (box_of s ≡ b) × At s

-- the end, whatever is looked at
item_done : (i : Item One Local) (s : Lent) → At s
    → Done upper upper_laws (record { trace = (host.item machine i s).trace; end = engine (host.item machine i s).end }) (ref.ref_item upper i (box_of s))
item_done i s r =
    rw (runs_one (host.item machine) i s, runs_one (ref.ref_item upper) i (box_of s)) at (second_cuts upper upper_laws machine engine same_calls (i ∷ []) s r)

same_end : (i : Item One Local) (s : Lent) → (host.item refusals i s).end ≡ (host.item machine i s).end
same_end i s =
    ap (λ (x : Ran ℕ Lent). x.end) (looked_item (λ m. refusal_seen m.call) i s)
    ∙ sym (ap (λ (x : Ran (Entry Seen) Lent). x.end) (looked_item (λ m. seen_of m.call) i s))

end_rel : (i : Item One Local) (s : Lent) (rest : List ℕ) → At s → Rel rest (host.item refusals i s).end (ref.ref_item upper i (box_of s)).end
end_rel i s rest r =
    let d = item_done i s r in
    rw (same_end i s) (ap (λ (x : Ran (Entry Seen) (ref.Box upper)). x.end) d.same, d.ready)

-- no bytes are refused
none_looked : (l : List Made) → Each (λ m. m.call.answer.told.refusal ≡ 0) l → looked (λ m. refusal_seen m.call) l ≡ []
unfolding refusal_seen
none_looked [] h = refl
none_looked (m ∷ l) h = rw h.0 (none_looked l h.1)

item_trace : (i : Item One Local) (s : Lent) → At s → (host.item refusals i s).trace ≡ refused_at i (box_of s)
unfolding refusal_seen refused_by
item_trace (event c e) s r =
    rw (local_refusal_so s.assoc s.gather s.out e ∙ refused_same s r e)
item_trace (run c ps) s r =
    ap (λ (x : Ran ℕ Lent). x.trace) (looked_item (λ m. refusal_seen m.call) (run c ps) s)
    ∙ none_looked (host.item every (run c ps) s).trace
    (each_run (λ m. m.call.answer.told.refusal ≡ 0) (λ z p w. never_refused z w p) r (cut_run every At (advances (λ m. m ∷ [])) c ps s r)).0

each : (i : Item One Local) (s : Lent) (b : ref.Box upper) (rest : List ℕ) → Rel ((pace i b).trace ++ rest) s b → Same everything Rel rest (host.item refusals i s) (pace i b)
each i s b rest h = rw (← h.0) (record { trace = item_trace i s h.1; end = end_rel i s rest h.1 })

-- ---- the whole script
pub refusals_exactly : (is : List (Item One Local)) (g o : List ℕ) → 16390 ≤ length g → 16390 ≤ length o
    → (host.script refusals is (fresh g o)).trace ≡ refused_in is fresh_box
refusals_exactly is g o hg ho =
    (in_step everything Rel (host.item refusals) pace each is (fresh g o) fresh_box [] (start g o, at_fresh g o hg ho)).trace
    ∙ paces is fresh_box
