-- The engines of ShutOut: what a script gives of the two classes, that the paper's engines are of them, and what becomes of a piece that is reported whole.
-- Assumes nothing.
use Prim.Native.Nat.{ℕ, zero, suc, ◌+◌, ◌≤◌}
use mathlib.Core.Path.{◌≡◌, refl, ap, ◌∙◌}
use mathlib.Core.Bool.{Bool, true, false}
use mathlib.Core.List.{List, [], ◌∷◌, ◌++◌, append-nil}
use native.Mathlib.Nat.{min-eq_right}
use native.Mathlib.Omega.{arith}
use lib.ListN.{length, drop, length-append}
use lib.Seq.{drop-length}
use Rattle.framing.specs.Runs.{Ran, stop, following, runs}
use Rattle.framing.specs.Rounds.{rounds, by_length}
use Rattle.framing.specs.Host as host
use Rattle.framing.specs.Host.{Calls, Item, Item.run, feed_by, feed}
use Rattle.framing.specs.ShutOut as out
use Rattle.framing.specs.ShutOut.{SeesOnePdu, SeesOnePiece, MayStop}
use Rattle.framing.proofs.Runs.{runs_append, runs_one}

-- ---- what a script gives

module _ {C E T : Type 0} (D : Calls C E T) (start : D.S) (is : List (Item C E)) (c : C) where
  -- a run behind a script
  behind : (ps : List (List ℕ)) → (host.script D (is ++ run c ps ∷ []) start).trace ≡ (host.script D is start).trace ++ (runs (feed D c) ps (host.script D is start).end).trace
  behind ps =
      ap (λ (x : Ran T D.S). x.trace) (runs_append (host.item D) is (run c ps ∷ []) start)
      ∙ ap (λ (x : Ran T D.S). (host.script D is start).trace ++ x.trace) (runs_one (host.item D) (run c ps) (host.script D is start).end)

  -- a piece more is one event more, or none
  pub one_pdu_more : SeesOnePdu D start → (p : List ℕ)
      → length (host.script D (is ++ run c (p ∷ []) ∷ []) start).trace ≤ length (host.script D is start).trace + 1
  one_pdu_more h p =
      let s = (host.script D is start).end in
      let l : (runs (feed D c) (p ∷ []) s).trace ≡ (feed D c p s).trace = ap (λ (x : Ran T D.S). x.trace) (runs_one (feed D c) p s) in
      rw (behind (p ∷ []), l) (omega (arith, length-append (host.script D is start).trace (feed D c p s).trace, h is c p))

  -- further pieces are nothing more
  pub one_piece_more : SeesOnePiece D start → (b : ℕ) (p : List ℕ) (ps : List (List ℕ))
      → (host.script D (is ++ run c ((b ∷ p) ∷ ps) ∷ []) start).trace ≡ (host.script D (is ++ run c ((b ∷ p) ∷ []) ∷ []) start).trace
  one_piece_more h b p ps = rw (behind ((b ∷ p) ∷ ps), behind ((b ∷ p) ∷ []), h is c b p ps, h is c b p [])

-- ---- the paper's engines are of the classes

module _ {C E T : Type 0} (D : Calls C E T) (stops : List T → Bool) (c : C) where
  abbrev times : ℕ → List ℕ → MayStop D → Ran T (MayStop D)
  times = rounds (λ (q : List ℕ) (z : MayStop D). stop z) (feed_by (out.stopping D stops) c)

  -- one that has stopped sees nothing, and stays stopped
  quiet_to : (k : ℕ) (p : List ℕ) (s : D.S) → times k p (record { own = s; stopped = true }) ≡ stop (record { own = s; stopped = true })
  unfolding rounds
  quiet_to zero p s = refl
  quiet_to (suc k) [] s = refl
  quiet_to (suc k) (b ∷ p) s = quiet_to k (drop (length (b ∷ p)) (b ∷ p)) s

  quiet : (p : List ℕ) (s : D.S) → feed (out.stopping D stops) c p (record { own = s; stopped = true }) ≡ stop (record { own = s; stopped = true })
  unfolding feed by_length
  quiet p s = quiet_to (length p) p s

  pub quiet_run : (ps : List (List ℕ)) (s : D.S) → runs (feed (out.stopping D stops) c) ps (record { own = s; stopped = true }) ≡ stop (record { own = s; stopped = true })
  unfolding runs
  quiet_run [] s = refl
  quiet_run (p ∷ ps) s = rw (quiet p s) (quiet_run ps s)

module _ {C E T : Type 0} (D : Calls C E T) where
  -- where each call sees one event or none
  module _ (few : (s : D.S) (c : C) (p : List ℕ) → length (D.receive s c p).seen ≤ 1) where
    one_to : (c : C) (k : ℕ) (p : List ℕ) (s : D.S) (b : Bool) → length (times D (out.some_seen D) c k p (record { own = s; stopped = b })).trace ≤ 1
    unfolding rounds
    one_to c k p s true = rw (quiet_to D (out.some_seen D) c k p s) (omega arith)
    one_to c zero p s false = omega arith
    one_to c (suc k) [] s false = omega arith
    one_to c (suc k) (b ∷ p) s false =
        let a = D.receive s c (b ∷ p) in
        by a.seen (few s c (b ∷ p)) (drop a.used (b ∷ p)) a.next (λ q z. one_to c k q z false)
      where
        by : (l : List T) → length l ≤ 1 → (q : List ℕ) (z : D.S)
            → ((q : List ℕ) (z : D.S) → length (times D (out.some_seen D) c k q (record { own = z; stopped = false })).trace ≤ 1)
            → length (l ++ (times D (out.some_seen D) c k q (record { own = z; stopped = out.some_seen D l })).trace) ≤ 1
        by [] h q z go = go q z
        by (x ∷ l) h q z go = rw (quiet_to D (out.some_seen D) c k q z, append-nil l) h

    pub first_pdu_sees : (s : MayStop D) → SeesOnePdu (out.first_pdu D) s
    unfolding feed by_length
    first_pdu_sees s is c p = let x = (host.script (out.first_pdu D) is s).end in one_to c (length p) p x.own x.stopped

  -- after its first piece it has stopped
  has_stopped : (c : C) (b : ℕ) (p : List ℕ) (s : D.S) (z : Bool) → (feed (out.first_piece D) c (b ∷ p) (record { own = s; stopped = z })).end.stopped ≡ true
  unfolding feed by_length rounds
  has_stopped c b p s true = rw (quiet D (λ l. true) c (b ∷ p) s)
  has_stopped c b p s false =
      let a = D.receive s c (b ∷ p) in
      rw (quiet_to D (λ l. true) c (length p) (drop a.used (b ∷ p)) a.next)

  pub first_piece_sees : (s : MayStop D) → SeesOnePiece (out.first_piece D) s
  unfolding runs
  first_piece_sees s is c b p ps = by (feed (out.first_piece D) c (b ∷ p) x) (has_stopped c b p x.own x.stopped)
    where
      x : MayStop D
      x = (host.script (out.first_piece D) is s).end

      by : (y : Ran T (MayStop D)) → y.end.stopped ≡ true → y.trace ++ (runs (feed (out.first_piece D) c) ps y.end).trace ≡ y.trace
      by y e =
          let q : y.end ≡ record { own = y.end.own; stopped = true } = λ i. record { own = y.end.own; stopped = e i } in
          rw (q, quiet_run D (λ l. true) c ps y.end.own) (append-nil y.trace)

-- ---- a piece that is reported whole

module _ {C E T : Type 0} (D : Calls C E T) (k : ℕ) (c : C) where
  nothing_left : (n : ℕ) (s : D.S) → rounds (λ (q : List ℕ) (z : D.S). stop {T = T} z) (feed_by (out.over_reporting D k) c) n [] s ≡ stop s
  unfolding rounds
  nothing_left zero s = refl
  nothing_left (suc n) s = refl

  -- one call, and nothing of it is offered again
  pub reported_whole : (b : ℕ) (p : List ℕ) (s : D.S) → length (b ∷ p) ≤ (D.receive s c (b ∷ p)).used + k
      → feed (out.over_reporting D k) c (b ∷ p) s ≡ record { trace = (D.receive s c (b ∷ p)).seen; end = (D.receive s c (b ∷ p)).next }
  unfolding feed by_length rounds
  reported_whole b p s h =
      rw (min-eq_right h, drop-length (b ∷ p), nothing_left (length p) (D.receive s c (b ∷ p)).next) (rw (append-nil (D.receive s c (b ∷ p)).seen))

  -- such a piece behind a script
  pub reported_behind : (is : List (Item C E)) (start : D.S) (b : ℕ) (p : List ℕ)
      → let x = host.script (out.over_reporting D k) is start in
      let a = D.receive x.end c (b ∷ p) in
      length (b ∷ p) ≤ a.used + k → host.script (out.over_reporting D k) (is ++ run c ((b ∷ p) ∷ []) ∷ []) start ≡ following x.trace (record { trace = a.seen; end = a.next })
  reported_behind is start b p h =
      let x = host.script (out.over_reporting D k) is start in
      runs_append (host.item (out.over_reporting D k)) is (run c ((b ∷ p) ∷ []) ∷ []) start
      ∙ ap (following x.trace)
      (runs_one (host.item (out.over_reporting D k)) (run c ((b ∷ p) ∷ [])) x.end
      ∙ (runs_one (feed (out.over_reporting D k) c) (b ∷ p) x.end ∙ reported_whole b p x.end h))
