-- Demand 3, for any engine, so that it can also be said of one that does not meet it; and demand 2's calls as a host sees them, refusals included, from a fresh
-- association on.
use Rattle.std.specs.Prelude.{ℕ, ◌≡◌, cond, List, [], ◌∷◌, length, take, eqb}
use Rattle.numbers.specs.Refusals.{NOT-REFUSED}
use Rattle.framing.specs.Runs.{Ran}
use Rattle.framing.specs.Host as host
use Rattle.framing.specs.Host.{Entry, One, Item, Calls}
use Rattle.framing.specs.Reference as ref
use Rattle.association.specs.declared.Assoc.{Assoc}
use Rattle.association.specs.Record.{standing, idle}
use Rattle.association.specs.Events.{Local}
use Rattle.association.specs.Machine.{Seen, upper}
use Rattle.association.specs.Calls.{Call}
use Rattle.demand_2.specs.Cells.{calls}

-- what is lent to each call, and untouched in between: the record, the gather buffer, the output
pub record Lent : Type 0 where
  pub assoc : Assoc
  pub gather : List ℕ
  pub out : List ℕ

abbrev pub leaves : Call → Lent
leaves c = record { assoc = c.answer.assoc; gather = c.gather; out = c.out }

-- "Start from a fresh association": with two buffers, whatever they hold
abbrev pub fresh : List ℕ → List ℕ → Lent
fresh g o = record { assoc = idle; gather = g; out = o }

-- ---- a call that was made

pub data Given : Type 0 where
  piece : List ℕ → Given
  local : Local → Given

-- how many bytes
abbrev pub bytes_in : Given → ℕ
bytes_in (piece p) = length p
bytes_in (local e) = 0

-- what it was given, what it was lent, what it answered and left
pub record Made : Type 0 where
  pub given : Given
  pub lent : Lent
  pub call : Call

-- ---- demand 2's calls, of which a host looks at some part

module _ {T : Type 0} (look : Made → List T) where
  abbrev pub looking : Calls One Local T
  looking =
      record {
        S = Lent;
        receive = λ s c p.
            let x = calls.receive s.assoc s.gather p s.out in
            record { used = x.answer.told.used; seen = look (record { given = piece p; lent = s; call = x }); next = leaves x };
        on_event = λ s c e.
            let x = calls.local s.assoc s.gather s.out e in
            record { trace = look (record { given = local e; lent = s; call = x }); end = leaves x };
      }

-- THE MACHINE: of each call that took an action a host sees the action, the state after, the first `shown` bytes of the gather buffer as the call left it, and the first `sent` bytes
-- of the output. Of a call that took none, as of one that was refused, it sees nothing.
abbrev pub entry_of : Call → Entry Seen
entry_of c =
    record {
      told = record { action = c.answer.told.action; state = c.answer.assoc.state };
      shown = take c.answer.told.shown c.gather;
      sent = take c.answer.told.sent c.out;
    }

unfoldable pub seen_of : Call → List (Entry Seen)
seen_of c = cond (eqb c.answer.told.action 0) [] (entry_of c ∷ [])

abbrev pub machine : Calls One Local (Entry Seen)
machine = looking (λ m. seen_of m.call)

-- all of it: every call that is made
abbrev pub every : Calls One Local Made
every = looking (λ m. m ∷ [])

-- the refusals alone, each by its number
unfoldable pub refusal_seen : Call → List ℕ
refusal_seen c = cond (eqb c.answer.told.refusal NOT-REFUSED) [] (c.answer.told.refusal ∷ [])

abbrev pub refusals : Calls One Local ℕ
refusals = looking (λ m. refusal_seen m.call)

-- ---- the end

-- where the association stands, and the bytes gathered
abbrev pub box_of : Lent → ref.Box upper
box_of s = ref.box upper (standing s.assoc) (take s.assoc.gathered s.gather)

-- a fresh association's
abbrev pub fresh_box : ref.Box upper
fresh_box = ref.box upper (standing idle) []

-- what a script is to give: each run framed at once behind the bytes already gathered, its events played by Table 9-10, refused events left out
abbrev pub wanted : List (Item One Local) → Ran (Entry Seen) (ref.Box upper)
wanted is = ref.reference upper is fresh_box

-- ---- the demand

-- what was seen, and where it ended
abbrev pub boxed_by : {S : Type 0} → (S → ref.Box upper) → Ran (Entry Seen) S → Ran (Entry Seen) (ref.Box upper)
boxed_by stands x = record { trace = x.trace; end = stands x.end }

abbrev pub boxed : Ran (Entry Seen) Lent → Ran (Entry Seen) (ref.Box upper)
boxed x = boxed_by box_of x

-- DEMAND 3, of any engine: its calls, with whatever state they keep, the state that it starts from, and where it stands in a state. For every script, and so for
-- every cut of its runs, the trace and the end are those wanted.
abbrev pub Demand3 : (D : Calls One Local (Entry Seen)) → D.S → (D.S → ref.Box upper) → Type 0
Demand3 D start stands = (is : List (Item One Local)) → boxed_by stands (host.script D is start) ≡ wanted is
