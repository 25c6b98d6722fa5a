-- What a call on an association hands out: its refusal, four numbers, and the association's bytes and the two buffers as it leaves them.
use Rattle.std.specs.Prelude.{ℕ, ◌≡◌, cond, List, [], ◌∷◌, eqb}
use Rattle.numbers.specs.Refusals.{NOT-REFUSED}
use Rattle.association.specs.declared.Assoc.{Assoc}
use Rattle.association.specs.declared.Told.{Told}
use Rattle.association.specs.declared.Answer.{Answer}
use Rattle.association.specs.Calls.{Call}
use Rattle.assoc_bytes.specs.Bytes.{bytes_of, assoc_of}

pub record Handed : Type 0 where
  pub refusal : ℕ
  pub numbers : List ℕ
  pub assoc : List ℕ
  pub gather : List ℕ
  pub out : List ℕ

abbrev pub handed : ℕ → List ℕ → List ℕ → List ℕ → List ℕ → Handed
handed refusal numbers assoc gather out = record { refusal = refusal; numbers = numbers; assoc = assoc; gather = gather; out = out }

-- action, used, sent, shown
abbrev pub answer_numbers : Told → List ℕ
answer_numbers t = t.action ∷ t.used ∷ t.sent ∷ t.shown ∷ []

-- a refused call stores nothing: marks above 1 stay as they are too; an answered one stores marks as 0 or 1
unfoldable pub stored_of : List ℕ → Answer → List ℕ
stored_of s r = cond (eqb r.told.refusal NOT-REFUSED) (bytes_of r.assoc) s

-- r was handed out over the bytes s, which are now s': its refusal, and its numbers
pub record Stored (s : List ℕ) (r : Answer) (refusal : ℕ) (numbers s' : List ℕ) : Type 0 where
  pub refused : refusal ≡ r.told.refusal
  pub told : numbers ≡ answer_numbers r.told
  pub assoc : s' ≡ stored_of s r

-- the call by value, on the association of the bytes
unfoldable pub hand_out : List ℕ → (Assoc → Call) → Handed
hand_out s by_value =
    let c = by_value (assoc_of s) in handed c.answer.told.refusal (answer_numbers c.answer.told) (stored_of s c.answer) c.gather c.out
