-- Taken: which events of the bytes a machine takes in a script, each with the record that it met. For 'data is indicated exactly'.
use Rattle.std.specs.Prelude.{ℕ, Bool, cond, List, [], ◌∷◌, ◌++◌}
use Rattle.laws.specs.Lists.{joined}
use Rattle.framing.specs.Runs.{givens}
use Rattle.framing.specs.Framing.{Brought, split}
use Rattle.framing.specs.Host.{Entry, One, Item, Item.event, Item.run}
use Rattle.framing.specs.Reference as ref
use Rattle.framing.specs.Reference.{Machine}

-- those of a list that pass a test, in order
abbrev pub those : {X : Type 0} → (X → Bool) → List X → List X
those f [] = []
those f (x ∷ l) = cond (f x) (x ∷ []) [] ++ those f l

module _ (M : Machine) where
  open M use {R, E, A, limit, drops}

  -- an event of the bytes, and the record that its last byte met
  pub record Took : Type 0 where
    pub met : R
    pub came : Brought

  -- an event is taken unless bytes are dropped
  abbrev pub took : Brought → R → List Took
  took v r = cond (drops r) [] (record { met = r; came = v } ∷ [])

  -- those taken of an item: none of a local event, and of a run those of the events that lie in it behind the bytes gathered
  abbrev pub took_of : Item One E → ref.Box M → List Took
  took_of (event c e) b = []
  took_of (run c ps) b = givens (ref.takes M) took (split limit (b.got ++ joined ps)).events b.state

  -- those taken in a script
  abbrev pub taken : List (Item One E) → ref.Box M → List Took
  taken is b = givens (ref.ref_item M) took_of is b

  -- what the host sees of one, and its PDU
  abbrev pub entry_at : Took → Entry A
  entry_at t = ref.entry M (ref.react M t.met t.came) (ref.bytes_of M t.came)

  abbrev pub pdu_at : Took → List ℕ
  pdu_at t = ref.bytes_of M t.came
