-- The calls of a host in C, one after another: over the association's bytes, and the same ones by value.
use Rattle.std.specs.Prelude.{ℕ, ◌^◌, ◌<◌, List, [], ◌∷◌, get_or}
use Rattle.association.specs.declared.Assoc.{Assoc}
use Rattle.association.specs.Calls.{Call, call}
use Rattle.assoc_bytes.specs.Bytes.{assoc_of}
use Rattle.assoc_bytes.specs.Handed.{Handed, hand_out}
use Rattle.demand_2.specs.Cells.{calls}
use Rattle.demand_3.specs.Calls.{Lent, leaves, Given, Given.piece, Given.local}

-- one call by value
abbrev pub answer_to : Given → List ℕ → List ℕ → Assoc → Call
answer_to (piece p) g o a = calls.receive a g p o
answer_to (local e) g o a = calls.local a g o e

-- each on the record and the buffers that the one before it left
abbrev pub by_value : List Given → Lent → List Call
by_value [] s = []
by_value (x ∷ xs) s = let c = answer_to x s.gather s.out s.assoc in c ∷ by_value xs (leaves c)

-- each on the bytes and the buffers that the one before it left
abbrev pub in_bytes : List Given → List ℕ → List ℕ → List ℕ → List Handed
in_bytes [] s g o = []
in_bytes (x ∷ xs) s g o = let h = hand_out s (answer_to x g o) in h ∷ in_bytes xs h.assoc h.gather h.out

-- what was handed out, read back: the numbers by their order, the record of the bytes
abbrev pub call_of : Handed → Call
call_of h =
    call
    (record {
      told = record { refusal = h.refusal; action = get_or h.numbers 0 0; used = get_or h.numbers 1 0; sent = get_or h.numbers 2 0; shown = get_or h.numbers 3 0 };
      assoc = assoc_of h.assoc;
    })
    h.gather
    h.out

-- the numbers of the record that a call answers are of 32 and 64 bits, as they are by their types in the code
abbrev pub Narrow : Call → Type 0
Narrow c = (c.answer.assoc.peer_max < 2 ^ 32) × (c.answer.assoc.gathered < 2 ^ 64)
