-- The calls of a host in C are the calls by value: whatever it calls, one after another, from whatever bytes on, each hands out what the call by value answers. So what is said of every call by
-- value, from a fresh association on, is said of those in C.
-- Assumes nothing.
use Prim.Native.Nat.{ℕ}
use native.Mathlib.Omega.{arith}
use mathlib.Core.Path.{◌≡◌, refl, ap, ◌∙◌}
use mathlib.Core.List.{List, [], ◌∷◌, map}
use Rattle.association.specs.declared.Assoc.{Assoc}
use Rattle.association.specs.Refusals.{refused_with}
use Rattle.association.specs.Record.{idle}
use Rattle.association.specs.Calls.{Call, call}
use Rattle.assoc_bytes.specs.Bytes.{bytes_of, assoc_of}
use Rattle.assoc_bytes.specs.Handed.{hand_out}
use Rattle.assoc_bytes.proofs.BytesLaws.{assoc_back}
use Rattle.assoc_bytes.proofs.HandedLaws.{handed_on}
use Rattle.demand_2.proofs.Calls.{receive_unchanged, local_unchanged}
use Rattle.demand_3.specs.Calls.{fresh, Given, Given.piece, Given.local}
use Rattle.demand_3.specs.Every.{Each}
use Rattle.demand_3.specs.Surface.{answer_to, by_value, in_bytes, call_of, Narrow}

-- a refused call answers the record as it was
kept : (x : Given) (g o : List ℕ) (a : Assoc) → ((answer_to x g o a).answer.told.refusal ≡ 0 → ⊥) → (answer_to x g o a).answer.assoc ≡ a
unfolding refused_with
kept (piece p) g o a r = ap (λ (c : Call). c.answer.assoc) (receive_unchanged a g p o r)
kept (local e) g o a r = ap (λ (c : Call). c.answer.assoc) (local_unchanged a g o e r)

-- the next call meets the record that this one answers
meets : (x : Given) (s g o : List ℕ) → Narrow (answer_to x g o (assoc_of s)) → assoc_of (hand_out s (answer_to x g o)).assoc ≡ (answer_to x g o (assoc_of s)).answer.assoc
meets x s g o n = handed_on s (answer_to x g o) (kept x g o (assoc_of s)) n.0 n.1

pub in_c : (xs : List Given) (s g o : List ℕ) → Each Narrow (by_value xs (record { assoc = assoc_of s; gather = g; out = o }))
    → map call_of (in_bytes xs s g o) ≡ by_value xs (record { assoc = assoc_of s; gather = g; out = o })
unfolding hand_out
in_c [] s g o n = refl
in_c (x ∷ xs) s g o n =
    let c : Call = answer_to x g o (assoc_of s) in
    let e : assoc_of (hand_out s (answer_to x g o)).assoc ≡ c.answer.assoc = meets x s g o n.0 in
    let rest = in_c xs (hand_out s (answer_to x g o)).assoc c.gather c.out (rw e n.1) in
    λ i. call (record { told = c.answer.told; assoc = e i }) c.gather c.out ∷ (rest ∙ ap (λ (a : Assoc). by_value xs (record { assoc = a; gather = c.gather; out = c.out })) e) i

fresh_back : assoc_of (bytes_of idle) ≡ idle
unfolding idle
fresh_back = assoc_back idle (omega arith) (omega arith)

-- from a fresh association on
pub in_c_fresh : (xs : List Given) (g o : List ℕ) → Each Narrow (by_value xs (fresh g o)) → map call_of (in_bytes xs (bytes_of idle) g o) ≡ by_value xs (fresh g o)
in_c_fresh xs g o n =
    in_c xs (bytes_of idle) g o (rw fresh_back n) ∙ ap (λ (a : Assoc). by_value xs (record { assoc = a; gather = g; out = o })) fresh_back
