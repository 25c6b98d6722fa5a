-- What a host looks at does not change what is done: its trace is what it looks at of every call, in order, and the end is the same.
-- Assumes nothing.
use Prim.Native.Nat.{ℕ}
use mathlib.Core.Path.{◌≡◌, refl, sym, subst}
use mathlib.Core.List.{List, [], ◌∷◌, ◌++◌, append_assoc, append-nil}
use Rattle.framing.specs.Runs.{Ran}
use Rattle.framing.specs.Host as host
use Rattle.framing.specs.Host.{One, Item}
use Rattle.framing.proofs.Sim.{View, Alike, Same, scripts, items}
use Rattle.association.specs.Events.{Local}
use Rattle.demand_3.specs.Calls.{Lent, Made, looking, every}
use Rattle.demand_3.specs.Every.{looked}

looked_append : {X T : Type 0} (look : X → List T) (l m : List X) → looked look (l ++ m) ≡ looked look l ++ looked look m
looked_append look [] m = refl
looked_append look (x ∷ l) m = rw (looked_append look l m) (sym (append_assoc (look x) (looked look l) (looked look m)))

module _ {T : Type 0} (look : Made → List T) where
  abbrev view : View Made T
  view = record { see = looked look; nothing = refl; both = looked_append look }

  abbrev Rel : List T → Lent → Lent → Type 0
  Rel rest s z = s ≡ z

  hears : (c : One) (p : List ℕ) (s z : Lent) (rest : List T) → Rel (((looking look).receive z c p).seen ++ rest) s z
      → Alike view Rel rest (every.receive s c p) ((looking look).receive z c p)
  hears c p s z rest e =
      subst (λ (v : Lent). Alike view Rel rest (every.receive v c p) ((looking look).receive z c p)) (sym e)
      (record { used = refl; seen = append-nil _; next = refl })

  does : (c : One) (e : Local) (s z : Lent) (rest : List T) → Rel (((looking look).on_event z c e).trace ++ rest) s z
      → Same view Rel rest (every.on_event s c e) ((looking look).on_event z c e)
  does c l s z rest e =
      subst (λ (v : Lent). Same view Rel rest (every.on_event v c l) ((looking look).on_event z c l)) (sym e)
      (record { trace = append-nil _; end = refl })

  abbrev looks : Ran Made Lent → Ran T Lent
  looks x = record { trace = looked look x.trace; end = x.end }

  -- of a script
  pub looked_script : (is : List (Item One Local)) (s : Lent) → host.script (looking look) is s ≡ looks (host.script every is s)
  looked_script is s =
      let k = scripts every (looking look) view Rel hears does is s s [] refl in
      λ i. record { trace = sym k.trace i; end = sym k.end i }

  -- of an item
  pub looked_item : (i : Item One Local) (s : Lent) → host.item (looking look) i s ≡ looks (host.item every i s)
  looked_item i s =
      let k = items every (looking look) view Rel hears does i s s [] refl in
      λ d. record { trace = sym k.trace d; end = sym k.end d }
