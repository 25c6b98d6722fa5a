-- One call of the engine, with bytes t still to come: it does what the reference does, and leaves to the reference what it did not use.
-- Assumes nothing.
use Prim.Native.Nat.{ℕ, ◌+◌, ◌-◌, ◌≤◌, ◌<◌}
use mathlib.Core.Path.{◌≡◌, refl, sym, ap, ◌∙◌}
use mathlib.Core.Bool.{Bool, true, false, cond}
use mathlib.Core.Option.{Option, none, some}
use mathlib.Core.List.{List, [], ◌∷◌, ◌++◌}
use native.Mathlib.Omega.{arith}
use lib.ListN.{length, take, drop, length-append}
use lib.Seq.{length-take-le, drop-length, take-length}
use Rattle.octets.specs.Put.{put, front}
use Rattle.octets.proofs.PutLaws.{put_length}
use Rattle.framing.specs.Runs.{Ran, stop, following}
use Rattle.framing.specs.Framing.{Frame, frame, Frame.short, Frame.long, Frame.whole}
use Rattle.framing.specs.Host.{Entry, One, Item.event}
use Rattle.framing.specs.Reference as ref
use Rattle.framing.specs.Reference.{Machine, Reaction}
use Rattle.framing.specs.Engine as eng
use Rattle.framing.specs.Engine.{EngineState, EngineAnswer}
use Rattle.framing.proofs.Framing.{Begins, Begins.no_event, Begins.at_six, Begins.at_end, begins, frame_nil}
use Rattle.framing.proofs.Buffers.{inside, behind, before, take_shown, take_none, take_put, take_front, front_length}
use Rattle.framing.proofs.Ready.{Kept, Laws, Ready}
use Rattle.framing.proofs.Reference.{framed_step, framed_dropped, framed_short}

module _ (M : Machine) (L : Laws M) where
  open M use {R, E, A, limit, drops, on_pdu, on_long, on_local}

  -- WHAT A CALL DOES with a piece p, where t is still to come: of a piece that is not empty it uses a byte or more, and no byte that is not there
  pub record Called (l : EngineState M) (p t : List ℕ) (a : EngineAnswer M) : Type 0 where
    pub at_most : a.used ≤ length p
    pub at_least : 0 < length p → 0 < a.used
    pub ready : Ready M L a.next
    pub same : ref.framed M l.state ((take l.count l.gather ++ p) ++ t)
        ≡ following (eng.seen M a) (ref.framed M a.next.state (take a.next.count a.next.gather ++ (drop a.used p ++ t)))

  -- an event at n bytes, the count gathered among them
  acted : (l : EngineState M) (p t : List ℕ) → Ready M L l
      → (n : ℕ) → length (take l.count l.gather) < n → n ≤ length (take l.count l.gather ++ p) → n ≤ 6 + limit
      → (x : Reaction R A) → Kept M L.Sound x
      → (m : ℕ) (q : List ℕ) → take m (put l.gather l.count (take (n - l.count) p)) ≡ q
      → ref.framed M l.state ((take l.count l.gather ++ p) ++ t)
      ≡ following (ref.entry M x q ∷ []) (ref.framed M x.next (drop n ((take l.count l.gather ++ p) ++ t)))
      → Called l p t (eng.acts M (n - l.count) x m 0 (eng.gathering M l (take (n - l.count) p)))
  acted l p t ok n low high fits x kept m q eq h =
      let lg : length (take l.count l.gather) ≡ l.count = length-take-le l.count l.gather ok.within in
      let ins : n - l.count ≤ length p = inside (take l.count l.gather) p t l.count n lg (omega arith) high in
      let cut : length (take (n - l.count) p) ≡ n - l.count = length-take-le (n - l.count) p ins in
      let len : length (put l.gather l.count (take (n - l.count) p)) ≡ length l.gather =
      put_length l.gather l.count (take (n - l.count) p) (omega (arith, ok.room)) in
      let out : length (front l.out x.sends) ≡ length l.out = front_length l.out x.sends (omega (arith, ok.output, kept.room)) in
      record {
        at_most = ins;
        at_least = λ _. omega arith;
        ready =
            record {
              sound = kept.sound;
              room = omega (arith, ok.room);
              within = omega arith;
              quiet = frame_nil limit;
              dropped = λ _. refl;
              output = omega (arith, ok.output);
            };
        same =
            h
            ∙ rw (
              behind (take l.count l.gather) p t l.count n lg (omega arith) high,
              take_shown x.shows m (put l.gather l.count (take (n - l.count) p)),
              eq,
              take_front l.out x.sends,
            );
      }

  called_by : (l : EngineState M) (p t : List ℕ) → Ready M L l → (b : Bool) → drops l.state ≡ b
      → (f : Frame) → frame limit (take l.count l.gather ++ p) ≡ f → Begins limit (take l.count l.gather) p f
      → Called l p t (eng.receive_by M b f l p)
  called_by l p t ok true eb f ef v =
      record {
        at_most = omega arith;
        at_least = λ h. h;
        ready = ok;
        same = framed_dropped M l.state _ eb ∙ sym (framed_dropped M l.state _ eb);
      }
  called_by l p t ok false eb short ef (no_event a) =
      let lg : length (take l.count l.gather) ≡ l.count = length-take-le l.count l.gather ok.within in
      let fits : l.count + length p ≤ length l.gather = omega (arith, length-append (take l.count l.gather) p, ok.room) in
      let len : length (put l.gather l.count p) ≡ length l.gather = put_length l.gather l.count p fits in
      let now : take (l.count + length p) (put l.gather l.count p) ≡ take l.count l.gather ++ p = take_put l.gather l.count p ok.within in
      rw (take-length p)
      (record {
        at_most = omega arith;
        at_least = λ h. h;
        ready =
            record {
              sound = ok.sound;
              room = omega (arith, ok.room);
              within = omega arith;
              quiet = rw now ef;
              dropped = λ h. let z : ◌≡◌ {A = ℕ} 0 1 = cc in omega arith;
              output = ok.output;
            };
        same = rw (now, drop-length p);
      })
  called_by l p t ok false eb long ef (at_six a b c) =
      acted l p t ok 6 a b (omega arith) (on_long l.state) (L.long l.state ok.sound eb) 0 [] refl (framed_step M l.state _ ∙ rw (eb, c t))
  called_by l p t ok false eb (whole n) ef (at_end a b c d g) =
      let lg : length (take l.count l.gather) ≡ l.count = length-take-le l.count l.gather ok.within in
      let ins : n - l.count ≤ length p = inside (take l.count l.gather) p t l.count n lg (omega arith) c in
      let cut : length (take (n - l.count) p) ≡ n - l.count = length-take-le (n - l.count) p ins in
      let sum : n ≡ l.count + length (take (n - l.count) p) = omega arith in
      let pdu : take n ((take l.count l.gather ++ p) ++ t) ≡ take n (put l.gather l.count (take (n - l.count) p)) =
      before (take l.count l.gather) p t l.count n lg (omega arith) c
      ∙ sym (ap (λ (k : ℕ). take k (put l.gather l.count (take (n - l.count) p))) sum ∙ take_put l.gather l.count (take (n - l.count) p) ok.within) in
      acted l p t ok n a c d (on_pdu l.state (take n (put l.gather l.count (take (n - l.count) p)))) (L.pdu l.state _ ok.sound eb) n _ refl
      (framed_step M l.state _ ∙ rw (eb, g t, pdu))

  -- ONE CALL
  pub called : (l : EngineState M) (p t : List ℕ) → Ready M L l → Called l p t (eng.receive M l p)
  unfolding eng.receive
  called l p t ok =
      called_by l p t ok (drops l.state) refl (frame limit (take l.count l.gather ++ p)) refl
      (begins limit (take l.count l.gather) p ok.quiet)

  -- what is gathered brings no event
  pub at_rest : (l : EngineState M) → Ready M L l → ref.framed M l.state (take l.count l.gather) ≡ stop (eng.engine_box M l)
  at_rest l ok = framed_short M l.state (take l.count l.gather) ok.quiet ∙ by (drops l.state) refl
    where
      by : (b : Bool) → drops l.state ≡ b → stop (ref.box M l.state (cond b [] (take l.count l.gather))) ≡ stop {T = Entry A} (eng.engine_box M l)
      by true e = rw (ok.dropped e)
      by false e = refl

  -- ---- a local event

  -- the engine came to where the reference came, and is ready
  pub record Done (x : Ran (Entry A) (EngineState M)) (y : Ran (Entry A) (ref.Box M)) : Type 0 where
    pub ready : Ready M L x.end
    pub same : eng.engine_boxed M x ≡ y

  told_by : (l : EngineState M) (o : Option (Reaction R A)) → Ready M L l → ((x : Reaction R A) → o ≡ some x → Kept M L.Sound x)
      → Done (record { trace = eng.seen M (eng.engine_local M o l); end = (eng.engine_local M o l).next }) (ref.local_by M o (eng.engine_box M l))
  told_by l none ok kept = record { ready = ok; same = refl }
  told_by l (some x) ok kept =
      record {
        ready = by (drops x.next) refl;
        same = rw (take_front l.out x.sends, take_shown x.shows 0 l.gather, take_none (drops x.next) l.count l.gather);
      }
    where
      k : Kept M L.Sound x
      k = kept x refl

      out : length (front l.out x.sends) ≡ length l.out
      out = front_length l.out x.sends (omega (arith, ok.output, k.room))

      by : (b : Bool) → drops x.next ≡ b
          → Ready M L (record { state = x.next; count = cond b 0 l.count; gather = l.gather; out = front l.out x.sends })
      by true e =
          record { sound = k.sound; room = ok.room; within = omega arith; quiet = frame_nil limit; dropped = λ _. refl; output = omega (arith, out, ok.output) }
      by false e =
          record {
            sound = k.sound;
            room = ok.room;
            within = ok.within;
            quiet = ok.quiet;
            dropped = λ h. let z : ◌≡◌ {A = ℕ} 0 1 = cc in omega arith;
            output = omega (arith, out, ok.output);
          }

  -- A LOCAL EVENT
  pub told : (l : EngineState M) (c : One) (e : E) → Ready M L l → Done ((eng.engine_calls M).on_event l c e) (ref.ref_item M (event c e) (eng.engine_box M l))
  unfolding eng.local
  told l c e ok = told_by l (on_local l.state e) ok (λ x q. L.local l.state e x ok.sound q)
