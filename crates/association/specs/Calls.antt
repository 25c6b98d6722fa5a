-- What a call answers, and how it leaves the two buffers lent to it, for every input.
use Rattle.std.specs.Prelude.{ℕ, cond, List, [], ◌∷◌, ◌++◌, length, eqb, ltb}
use Rattle.std.proofs.Math.Option.{Option, none, some}
use Rattle.laws.specs.Refusals.{first_due}
use Rattle.numbers.specs.Refusals.{NOT-REFUSED, SHORT-OUTPUT}
use Rattle.numbers.specs.Lengths.{BUFFER, TEN}
use Rattle.octets.specs.Put.{front}
use Rattle.framing.specs.Engine as eng
use Rattle.association.specs.declared.Assoc.{Assoc}
use Rattle.association.specs.declared.Answer.{Answer}
use Rattle.association.specs.Record.{standing, with_gathered}
use Rattle.association.specs.Refusals.{record_tests, refused_with}
use Rattle.association.specs.Events.{Local}
use Rattle.association.specs.Performing.{leaving}
use Rattle.association.specs.Machine.{Seen, upper, request_tests, on_local}

pub record Call : Type 0 where
  pub answer : Answer
  pub gather : List ℕ
  pub out : List ℕ

abbrev pub call : Answer → List ℕ → List ℕ → Call
call r g o = record { answer = r; gather = g; out = o }

-- the answer where a refusal is not 0, else what is done
abbrev pub unless : ℕ → Assoc → List ℕ → List ℕ → Call → Call
unless refusal a g o done = cond (eqb refusal NOT-REFUSED) done (call (refused_with refusal a) g o)

-- ---- receiving

-- 6, 3, 6 for L, and 2: "for receiving, always when below 10 bytes"
unfoldable pub receive_refusal : Assoc → List ℕ → List ℕ → ℕ
receive_refusal a g o = first_due (record_tests a g BUFFER ++ ((ltb (length o) TEN, SHORT-OUTPUT) ∷ []))

abbrev pub lent_of : Assoc → List ℕ → List ℕ → eng.EngineState upper
lent_of a g o = record { state = standing a; count = a.gathered; gather = g; out = o }

abbrev pub action_of : Option Seen → ℕ
action_of none = 0
action_of (some s) = s.action

-- the engine's answer as the call's
unfoldable pub heard : eng.EngineAnswer upper → Call
heard x =
    record {
      answer =
          record {
            told = record { refusal = NOT-REFUSED; action = action_of x.told; used = x.used; sent = x.sent; shown = x.shown };
            assoc = with_gathered x.next.state x.next.count;
          };
      gather = x.next.gather;
      out = x.next.out;
    }

unfoldable pub receive_of : Assoc → List ℕ → List ℕ → List ℕ → Call
receive_of a g p o = unless (receive_refusal a g o) a g o (heard (eng.receive upper (lent_of a g o) p))

-- ---- a local event: it uses no bytes and shows no PDU

-- 6, 3, 6 for L; 1, 4, 5 and 2
unfoldable pub local_refusal : Assoc → List ℕ → List ℕ → Local → ℕ
local_refusal a g o e = first_due (record_tests a g a.gathered ++ request_tests (standing a) e (length o))

unfoldable pub local_of : Assoc → List ℕ → List ℕ → Local → Call
local_of a g o e =
    let x = on_local (standing a) e in
    unless (local_refusal a g o e) a g o
    (record {
      answer = record { told = record { refusal = NOT-REFUSED; action = x.told.action; used = 0; sent = length x.sends; shown = 0 }; assoc = leaving x.next a.gathered };
      gather = g;
      out = front o x.sends;
    })
