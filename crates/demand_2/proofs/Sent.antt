-- Whatever an answered call sends is nothing or one whole valid PDU of the kind that its action names, of at most 16,390 bytes; and reading what a local event with
-- contents sends gives those contents. For every record, both buffers, every piece and every local event.
-- Assumes nothing.
use Prim.Native.Nat.{ℕ, ◌-◌, ◌≤◌}
use mathlib.Core.Path.{◌≡◌, refl, sym, ap, ◌∙◌}
use mathlib.Core.Bool.{Bool, true, false, cond}
use mathlib.Core.List.{List, []}
use native.Mathlib.Omega.{arith}
use lib.Dec.{eqb}
use lib.ListN.{length, take, drop}
use lib.Seq.{take_at}
use borrow.Author.Tests.{eqb-true, eqb-false}
use Rattle.laws.specs.Lists.{among}
use Rattle.octets.specs.Put.{put, front}
use Rattle.judging.specs.Pdu.{kind_of, type_of}
use Rattle.judging.proofs.KindLaws.{kind_none, kind_whole, whole_length, whole_limit}
use Rattle.framing.specs.Framing.{Frame, frame, Frame.short, Frame.long, Frame.whole, Brought, Brought.pdu, Brought.over_length}
use Rattle.framing.specs.Engine as eng
use Rattle.writing.specs.Ten.{NO-TEN, ten_of}
use Rattle.writing.specs.Form.{Form, form_refusal, sent_bytes, rq_form, ac_form, reject_form, data_form}
use Rattle.writing.proofs.FormLaws.{answered}
use Rattle.round_trips.proofs.SentTrip.{sent_rq, sent_ac, sent_reject, sent_data}
use Rattle.table.specs.EventNames.{INVALID-RECEIVED}
use Rattle.table.specs.Table.{cell_of, is_received}
use Rattle.table.proofs.Unfolded.{table_unfolded}
use Rattle.association.specs.declared.Assoc.{Assoc}
use Rattle.association.specs.Record.{Standing, standing, dropping}
use Rattle.association.specs.Events.{Local, event_of, number_of, carries}
use Rattle.association.specs.Events.{Local.plain, Local.confirm, Local.accept, Local.reject, Local.send}
use Rattle.association.specs.Performing.{brings, after, leaving, ten_by, abort_by}
use Rattle.association.specs.Machine.{upper, local_cell, local_action, plain_form, form_at, doing, on_event, on_local, request_refusal}
use Rattle.association.specs.Calls.{Call, lent_of, heard, local_refusal}
use Rattle.demand_2.specs.Cells.{calls, gathered_with}
use Rattle.demand_2.specs.Sent.{bytes_sent, kind_named, kind_due, AsNamed, sends_contents, ReadsBack, Sending}
use Rattle.demand_2.proofs.Unbroken.{never}
use Rattle.demand_2.proofs.Moves.{received_by}
use Rattle.demand_2.proofs.Sound.{entering_state}
use Rattle.demand_2.proofs.Given.{OwnCell, form_fine, sends_form, cell_own}
use Rattle.demand_2.proofs.Answered.{received, done_local, local_done, takes_of}
use Rattle.demand_2.proofs.Calls.{receive_refusal_so, local_refusal_so}
use Rattle.demand_2.proofs.Named.{ten, IsAbort, is_invalid, is_abort, given_kind, heard_named, given_named, contents_sent}

-- ---- bytes at the start of an output

-- a whole valid PDU has at most 16,390
few : (bs : List ℕ) → (kind_of bs ≡ 0 → bs ≡ []) → length bs ≤ 16390
few bs n = by (eqb (kind_of bs) 0) refl
  where
    by : (b : Bool) → eqb (kind_of bs) 0 ≡ b → length bs ≤ 16390
    by true e = rw (n (eqb-true _ _ e)) (omega arith)
    by false e = let w = kind_whole bs (kind_of bs) refl (eqb-false _ _ e) in omega (arith, whole_length bs w, whole_limit bs w)

module _ (o bs : List ℕ) (c : Call) (eo : c.out ≡ front o bs) (es : c.answer.told.sent ≡ length bs) where
  bytes_are : bytes_sent c ≡ bs
  unfolding front
  bytes_are = ap (λ (n : ℕ). take n c.out) es ∙ (ap (take (length bs)) eo ∙ take_at bs (drop (length bs) o) (length bs) refl)

  as_named : (k : ℕ) → kind_of bs ≡ k → (k ≡ 0 → bs ≡ []) → kind_due c ≡ k → AsNamed c
  as_named k e n d =
      record {
        kind = ap kind_of bytes_are ∙ (e ∙ sym d);
        none = λ z. bytes_are ∙ n (sym d ∙ z);
        some = λ z. d ∙ (sym e ∙ (ap kind_of (sym bytes_are ∙ z) ∙ kind_none));
        most = rw bytes_are (few bs (λ z. n (sym e ∙ z)));
        counted = ap length bytes_are ∙ sym es;
      }

-- ---- receiving

no_action : (s : ℕ) → kind_named 0 s ≡ 0
unfolding table_unfolded kind_named
no_action s = refl

-- no event came
quiet_named : (u : ℕ) (l : eng.EngineState upper) → AsNamed (heard (eng.quiet upper u l))
unfolding heard front
quiet_named u l = as_named l.out [] (heard (eng.quiet upper u l)) refl refl 0 kind_none (λ z. refl) (no_action l.state.state)

-- an event came, and a ten-byte PDU was sent or none
acts_named : (event u n k : ℕ) (s : Standing) (v : Brought) (l : eng.EngineState upper) → is_received event ≡ true → IsAbort (abort_by event v)
    → AsNamed (heard (eng.acts upper u (on_event event s v) n k l))
unfolding heard on_event doing after
acts_named event u n k s v l r w =
    let act = cell_of event s.state in
    let accepts = (brings act s v).accepts in
    let t = ten (ten_by act accepts (abort_by event v)) in
    as_named l.out (on_event event s v).sends (heard (eng.acts upper u (on_event event s v) n k l)) refl refl _ t.kind t.none
    (ap (kind_named act) (entering_state _) ∙ heard_named event s.state r accepts s.requestor (abort_by event v) w)

invalid_received : is_received INVALID-RECEIVED ≡ true
unfolding table_unfolded
invalid_received = refl

received_named : (b : Bool) (f : Frame) (a : Assoc) (g p o : List ℕ) → AsNamed (heard (eng.receive_by upper b f (lent_of a g o) p))
unfolding event_of
received_named true f a g p o = quiet_named (length p) (lent_of a g o)
received_named false short a g p o = quiet_named (length p) (eng.gathering upper (lent_of a g o) (take (length p) p))
received_named false long a g p o =
    acts_named INVALID-RECEIVED (6 - a.gathered) 0 0 (standing a) over_length (eng.gathering upper (lent_of a g o) (take (6 - a.gathered) p)) invalid_received is_invalid
received_named false (whole n) a g p o =
    let bytes = take n (put g a.gathered (take (n - a.gathered) p)) in
    acts_named (event_of (standing a) bytes) (n - a.gathered) n 0 (standing a) (pdu bytes) (eng.gathering upper (lent_of a g o) (take (n - a.gathered) p))
    (received_by (kind_of bytes)).row (is_abort (event_of (standing a) bytes) (type_of bytes))

-- ---- a local event

-- what it sends where its form fits: of the kind due, and its contents
record Gives (e : Local) (action : ℕ) (bs : List ℕ) : Type 0 where
  kind : kind_of bs ≡ given_kind (number_of e) action
  none : given_kind (number_of e) action ≡ 0 → bs ≡ []
  reads : ReadsBack action e bs

-- a form that is not refused sends its PDU
sends_pdu : (f : Form) (room : ℕ) → form_refusal f room ≡ 0 → sent_bytes f room ≡ f.pdu
sends_pdu f room z = (answered f room z).sent

-- one by its number alone has no contents
gives_plain : (n action room : ℕ) → sends_contents action ≡ carries n → form_refusal (plain_form n action) room ≡ 0 → Gives (plain n) action (plain_form n action).pdu
unfolding plain_form
gives_plain n action room c z = by (carries n) refl (answered (plain_form n action) room z).good
  where
    own : Form
    own = record { good = true; most = 16384; pdu = ten_of (ten_by action false NO-TEN) }

    by : (b : Bool) → carries n ≡ b → (cond b (record { good = false; most = 0; pdu = [] }) own).good ≡ true → Gives (plain n) action (cond b (record { good = false; most = 0; pdu = [] }) own).pdu
    by true q g = never false refl g
    by false q g = let t = ten (ten_by action false NO-TEN) in record { kind = rw q t.kind; none = rw q t.none; reads = c ∙ q }

gives : (s : Standing) (e : Local) (room : ℕ) → let action = local_action s e in sends_contents action ≡ carries (number_of e) → form_refusal (form_at s e) room ≡ 0
    → Gives e action (form_at s e).pdu
unfolding carries among
gives s (plain n) room c z = gives_plain n (local_cell n s.state) room c z
gives s (confirm f) room c z = let t = rw (sends_pdu (rq_form f) room z) at (sent_rq room f z) in record { kind = t.kind; none = λ n. absurd (omega arith); reads = t }
gives s (accept f) room c z = let t = rw (sends_pdu (ac_form f) room z) at (sent_ac room f z) in record { kind = t.kind; none = λ n. absurd (omega arith); reads = t }
gives s (reject f) room c z = let t = rw (sends_pdu (reject_form f) room z) at (sent_reject room f z) in record { kind = t.kind; none = λ n. absurd (omega arith); reads = t }
gives s (send f) room c z =
    let t = rw (sends_pdu (data_form s.peer f) room z) at (sent_data room s.peer f z) in
    record { kind = t.kind; none = λ n. absurd (omega arith); reads = t }

module _ (a : Assoc) (g o : List ℕ) (e : Local) (h : local_refusal a g o e ≡ 0) where
  fine : request_refusal (standing a) e (length o) ≡ 0
  fine = (takes_of a g o e h).request_fine

  own_cell : OwnCell (number_of e) a.state
  own_cell = cell_own (standing a) e (length o) fine

  given_bytes : Gives e (local_action (standing a) e) (on_local (standing a) e).sends
  given_bytes =
      rw (sends_form (standing a) e)
      (gives (standing a) e (length o) (rw own_cell.same (contents_sent (number_of e) a.state own_cell.own own_cell.filled)) (form_fine (standing a) e (length o) fine))

  named_local : AsNamed (done_local a g o e)
  unfolding on_local doing after leaving
  named_local =
      as_named o (on_local (standing a) e).sends (done_local a g o e) refl refl _ given_bytes.kind given_bytes.none
      (ap (kind_named (local_action (standing a) e)) (entering_state _)
      ∙ rw own_cell.same (given_named (number_of e) a.state own_cell.own own_cell.filled a.requestor))

  reads_local : ReadsBack (done_local a g o e).answer.told.action e (bytes_sent (done_local a g o e))
  unfolding on_local doing
  reads_local = rw (bytes_are o (on_local (standing a) e).sends (done_local a g o e) refl refl) given_bytes.reads

-- ---- all calls
pub sending : Sending calls
unfolding eng.receive
sending =
    record {
      received = λ a g p o h.
          rw (received a g p o (sym (receive_refusal_so a g p o) ∙ h)) (received_named (dropping (standing a)) (frame 16384 (gathered_with a g p)) a g p o);
      given = λ a g o e h. let z = sym (local_refusal_so a g o e) ∙ h in rw (local_done a g o e z) (named_local a g o e z);
      contents = λ a g o e h. let z = sym (local_refusal_so a g o e) ∙ h in rw (local_done a g o e z) (reads_local a g o e z);
    }
