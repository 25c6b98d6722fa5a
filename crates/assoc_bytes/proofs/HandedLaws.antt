-- What a call on an association hands out.
-- Assumes nothing.
use Prim.Native.Nat.{ℕ, ◌^◌, ◌<◌}
use mathlib.Core.Path.{◌≡◌, refl, sym}
use mathlib.Core.Bool.{Bool, true, false, cond}
use mathlib.Core.List.{List}
use borrow.Author.Rules.{rules}
use lib.Dec.{eqb}
use borrow.Author.Tests.{eq-eqb, ne_eqb, eqb-false}
use Rattle.association.specs.declared.Assoc.{Assoc}
use Rattle.association.specs.declared.Answer.{Answer}
use Rattle.association.specs.Calls.{Call, call}
use Rattle.assoc_bytes.specs.Bytes.{bytes_of, assoc_of}
use Rattle.assoc_bytes.proofs.BytesLaws.{assoc_back}
use Rattle.assoc_bytes.specs.Handed.{handed, stored_of, hand_out, Stored}

pub nothing_stored : (s : List ℕ) (r : Answer) → (r.told.refusal ≡ 0 → ⊥) → s ≡ stored_of s r
unfolding stored_of
nothing_stored s r h = rw (ne_eqb r.told.refusal 0 h)

pub record_stored : (s s' : List ℕ) (r : Answer) → r.told.refusal ≡ 0 → s' ≡ bytes_of r.assoc → s' ≡ stored_of s r
unfolding stored_of
record_stored s s' r h e = rw (eq-eqb r.told.refusal 0 h, e)

-- a call by value, and what is handed out of its answer
pub hands_out : (s : List ℕ) (a : Assoc) (r : Answer) (by_value : Assoc → Call) (n : ℕ) (ns s' g o : List ℕ)
    → a ≡ assoc_of s → call r g o ≡ by_value a → Stored s r n ns s' → handed n ns s' g o ≡ hand_out s by_value
unfolding hand_out
hands_out s a r by_value n ns s' g o x y z = rw (z.refused, z.told, z.assoc, ← x, ← y)

-- whatever the call by value is: where it is refused, nothing is stored, marks above 1 neither
pub refused_stores_nothing : (s : List ℕ) (by_value : Assoc → Call) → ((hand_out s by_value).refusal ≡ 0 → ⊥) → (hand_out s by_value).assoc ≡ s
unfolding hand_out
refused_stores_nothing s by_value h = sym (nothing_stored s (by_value (assoc_of s)).answer h)

-- the next call meets the record that this one answered, where that is the record as it was if refused, and its numbers are of 32 and 64 bits
pub handed_on : (s : List ℕ) (by_value : Assoc → Call)
    → (((by_value (assoc_of s)).answer.told.refusal ≡ 0 → ⊥) → (by_value (assoc_of s)).answer.assoc ≡ assoc_of s)
    → (by_value (assoc_of s)).answer.assoc.peer_max < 2 ^ 32 → (by_value (assoc_of s)).answer.assoc.gathered < 2 ^ 64
    → assoc_of (hand_out s by_value).assoc ≡ (by_value (assoc_of s)).answer.assoc
unfolding hand_out stored_of
handed_on s by_value kept p g = go (eqb (by_value (assoc_of s)).answer.told.refusal 0) refl
  where
    go : (b : Bool) → eqb (by_value (assoc_of s)).answer.told.refusal 0 ≡ b
        → assoc_of (cond b (bytes_of (by_value (assoc_of s)).answer.assoc) s) ≡ (by_value (assoc_of s)).answer.assoc
    go true q = assoc_back (by_value (assoc_of s)).answer.assoc p g
    go false q = sym (kept (eqb-false _ _ q))

pub ruleset storing = (nothing_stored, record_stored, rules)

pub ruleset handing = (hands_out, rules)
