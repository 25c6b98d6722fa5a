-- From what the callees answer to what an event does: a law for each function between.
-- Assumes nothing.
use Prim.Native.Nat.{ℕ, ◌≤◌}
use mathlib.Core.Path.{◌≡◌, ◌∙◌}
use mathlib.Core.Bool.{Bool, true, false, cond}
use mathlib.Core.List.{List}
use native.Mathlib.Omega.{arith}
use lib.ListN.{length, get_or}
use borrow.Author.Rules.{rules}
use Rattle.std.specs.Prelude.{Option}
use Rattle.numbers.specs.declared.kinds.Kind.{Kind}
use Rattle.numbers.specs.Kinds.{kind_number}
use Rattle.numbers.specs.Refusals.{NOT-REFUSED}
use Rattle.numbers.specs.Lengths.{TEN}
use Rattle.octets.specs.Put.{Placed}
use Rattle.framing.specs.Framing.{Brought.pdu, Brought.over_length}
use Rattle.framing.specs.Reference.{Reaction}
use Rattle.table.specs.Actions.{shows_of}
use Rattle.table.specs.EventNames.{INVALID-RECEIVED}
use Rattle.table.specs.Table.{cell_of}
use Rattle.judging.specs.Pdu.{kind_of}
use Rattle.writing.specs.Ten.{ten_of, ABORT-INVALID}
use Rattle.writing.proofs.TenLaws.{ten_length, ten_out, ten_count}
use Rattle.association.specs.declared.Assoc.{Assoc}
use Rattle.association.specs.declared.Answer.{Answer}
use Rattle.association.specs.declared.Brings.{Brings}
use Rattle.association.specs.Record.{Standing, standing}
use Rattle.association.specs.Events.{event_of_kind, event_of}
use Rattle.association.specs.Performing.{brings, leaving, after, abort_for, ten_by}
use Rattle.association.specs.Machine.{Seen, doing, on_event, upper}
use Rattle.association.proofs.PerformingLaws.{leaves_none}
use Rattle.receiving.specs.Private.Reactions.{tell_of, Done}

-- ---- what an action does, told and written
module _ (action : ℕ) (a : Assoc) (b : Brings) (abort ten : ℕ) (et : ten ≡ ten_by action b.accepts abort) (o o' : List ℕ) (s : ℕ) (h : TEN ≤ length o)
    (P : Placed o 0 (ten_of ten) s o') (shows : Bool) (es : shows ≡ shows_of action b.accepts) (next : Assoc) (en : next ≡ leaving (after action (standing a) b) 0) (u n : ℕ) where
  abbrev x : Reaction Standing Seen
  x = doing action (standing a) b (ten_of (ten_by action b.accepts abort))

  told : (shown : ℕ) → shown ≡ cond shows n 0
      → Done x o u n (record { told = record { refusal = NOT-REFUSED; action = action; used = u; sent = s; shown = shown }; assoc = next }) o'
  unfolding doing tell_of
  told shown e =
      let fits : length (ten_of ten) ≤ length o = omega (arith, ten_length ten) in
      record {
        answer = rw (ten_count ten o o' s P fits, et, e, es, en, leaves_none (after action (standing a) b));
        out = ten_out ten o o' s P fits ∙ rw et;
      }

  pub told_shown : shows ≡ true → (shown : ℕ) → shown ≡ n
      → Done x o u n (record { told = record { refusal = NOT-REFUSED; action = action; used = u; sent = s; shown = shown }; assoc = next }) o'
  told_shown f shown e = told shown (rw f e)

  pub told_hidden : shows ≡ false → (shown : ℕ) → shown ≡ 0
      → Done x o u n (record { told = record { refusal = NOT-REFUSED; action = action; used = u; sent = s; shown = shown }; assoc = next }) o'
  told_hidden f shown e = told shown (rw f e)

-- ---- the two events
module _ (a : Assoc) (action : ℕ) (o : List ℕ) (u n : ℕ) (r : Answer) (o' : List ℕ) where
  pub long_done : action ≡ cell_of INVALID-RECEIVED a.state
      → Done (doing action (standing a) (brings action (standing a) over_length) (ten_of (ten_by action false ABORT-INVALID))) o u n r o'
      → Done (upper.on_long (standing a)) o u n r o'
  unfolding on_event
  long_done ea D = rw ea at D

  pub pdu_done : (p : List ℕ) (k : Option Kind) (kind event first abort : ℕ) (b : Brings) → kind_number k ≡ kind_of p → kind ≡ kind_number k → event ≡ event_of_kind kind → action ≡ cell_of event a.state
      → b ≡ brings action (standing a) (pdu p) → first ≡ get_or p 0 0 → abort ≡ abort_for event first
      → Done (doing action (standing a) b (ten_of (ten_by action b.accepts abort))) o u n r o' → Done (upper.on_pdu (standing a) p) o u n r o'
  unfolding on_event event_of
  pdu_done p k kind event first abort b ek en ev ea eb ef et D = rw (et, ef, eb, ea, ev, en, ek) at D

pub ruleset received_laws = (rules, told_shown, told_hidden, long_done, pdu_done)
