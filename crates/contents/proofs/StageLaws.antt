-- The loop over a holder's items, for any order and any test of the bodies: a turn, and its ends. `all` is the answer for the whole.
-- Assumes nothing.
use Prim.Native.Nat.{ℕ}
use mathlib.Core.Bool.{Bool, true, false, cond, and-false}
use mathlib.Core.List.{List}
use mathlib.Core.Path.{◌≡◌, refl, sym, ◌∙◌}
use lib.Dec.{eqb}
use borrow.Author.Rules.{rules}
use borrow.Author.Tests.{not-true, not-false}
use Rattle.items.specs.Items.{Walk, done, broken, item}
use Rattle.items.specs.Private.Rules.{keeps}
use Rattle.contents.specs.declared.order.Order.{Order}
use Rattle.std.specs.Prelude.{Option, Some, None}
use Rattle.contents.specs.Private.Order.{wrong, next}
use Rattle.contents.specs.Private.Stages.{last_type, end_number, next_in, last_stage, rule_of}

-- none leads on from an item out of order
nine : (p q r : Bool) → cond p wrong (cond q wrong (cond r wrong wrong)) ≡ wrong
nine true q r = refl
nine false true r = refl
nine false false true = refl
nine false false false = refl

module _ (o : Order) (good : ℕ → List ℕ → Bool) where
  stays : (t : ℕ) → next_in o wrong t ≡ wrong
  unfolding next
  stays t = nine (eqb t o.first) (eqb t o.many) (eqb t (last_type o.many o.last))

  lost : (w : Walk) → keeps (rule_of o good) wrong w ≡ false
  unfolding keeps
  lost done = go o.last
    where
      go : (l : Option ℕ) → eqb wrong (end_number l) ≡ false
      go None = refl
      go (Some t) = refl
  lost broken = refl
  lost (item t b w) = rw (stays t, lost w) (and-false (good t b))

  -- ---- from a stage on, at what stands first
  module _ (all : Bool) (n : ℕ) (w : Walk) (v : all ≡ keeps (rule_of o good) n w) where
    pub ends : w ≡ done → eqb n (last_stage o) ≡ all
    unfolding keeps
    ends e = sym (v ∙ rw e refl)

    pub breaks : w ≡ broken → false ≡ all
    unfolding keeps
    breaks e = sym (v ∙ rw e refl)

    module _ (t : ℕ) (b : List ℕ) (u : Walk) (e : w ≡ item t b u) (r : Bool) (q : r ≡ good t b) where
      pub bad : r ≡ false → false ≡ all
      unfolding keeps
      bad f = sym (v ∙ rw (e, ← q, f))

      pub on : r ≡ true → (m : ℕ) → m ≡ next_in o n t → all ≡ keeps (rule_of o good) m u
      unfolding keeps
      on f m p = v ∙ rw (e, ← q, f, p)

      pub out : r ≡ true → wrong ≡ next_in o n t → false ≡ all
      out f p = sym (on f wrong p ∙ lost u)

pub ruleset stage_rules = (ends, breaks, bad, on, out, not-true, not-false, rules)
