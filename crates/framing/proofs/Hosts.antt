-- Where each call uses a byte: the host's loop without fuel, and that the host that cuts is one of those that `Hosted` speaks of.
-- Assumes nothing.
use Prim.Native.Nat.{ℕ, zero, suc, ◌≤◌, ◌<◌}
use mathlib.Core.Path.{◌≡◌, refl, sym, ap, subst}
use mathlib.Core.List.{List, [], ◌∷◌, ◌++◌, append_assoc}
use native.Mathlib.Omega.{arith}
use lib.ListN.{length, drop, length-drop}
use Rattle.laws.specs.Lists.{joined}
use Rattle.framing.specs.Runs.{Ran, stop, following, runs}
use Rattle.framing.specs.Host as host
use Rattle.framing.specs.Host.{Calls, Item, feed_by, feed, Hosted, HostedScript, Item.event, Item.run}
use Rattle.framing.proofs.Rounds.{without_fuel}

-- an invariant of an engine, by which each call on a piece that is not empty uses a byte
pub record Advances {C E T : Type 0} (D : Calls C E T) (Inv : D.S → Type 0) : Type 0 where
  pub uses : (s : D.S) (c : C) (p : List ℕ) → Inv s → 0 < length p → 0 < (D.receive s c p).used
  pub hears : (s : D.S) (c : C) (p : List ℕ) → Inv s → Inv (D.receive s c p).next
  pub does : (s : D.S) (c : C) (e : E) → Inv s → Inv (D.on_event s c e).end

module _ {C E T : Type 0} (D : Calls C E T) (Inv : D.S → Type 0) (adv : Advances D Inv) where
  open D use {S, receive, on_event}

  -- ---- the equation without fuel

  shorter : (c : C) (go to : List ℕ → S → Ran T S) (p : List ℕ)
      → ((t : List ℕ) → length t < length p → (s : S) → Inv s → go t s ≡ to t s) → (s : S) → Inv s → feed_by D c go p s ≡ feed_by D c to p s
  shorter c go to [] same s i = refl
  shorter c go to (b ∷ p) same s i =
      let a = receive s c (b ∷ p) in
      ap (following a.seen)
      (same (drop a.used (b ∷ p)) (simp length-drop (omega (arith, adv.uses s c (b ∷ p) i (omega arith)))) a.next (adv.hears s c (b ∷ p) i))

  -- WHAT `feed` IS: nothing to do, or one call, and then the same with what it did not use
  pub feed_step : (c : C) (p : List ℕ) (s : S) → Inv s → feed D c p s ≡ feed_by D c (feed D c) p s
  unfolding feed
  feed_step c p s i =
      without_fuel (λ (q : List ℕ) (z : S). stop z) (feed_by D c) (λ (f g : S → Ran T S). (z : S) → Inv z → f z ≡ g z)
      (shorter c) (λ z j. refl) (λ to z j. refl) (λ go z j. refl) p s i

  -- ---- the host that cuts is a host

  -- y is what came of offering p until all of it was used: a host that goes on with t goes on from there
  record Fed (c : C) (p : List ℕ) (s : S) (y : Ran T S) : Type 0 where
    inv : Inv y.end
    host : (t : List ℕ) (x : Ran T S) → Hosted D c y.end t x → Hosted D c s (p ++ t) (following y.trace x)

  fed_nothing : (c : C) (s : S) → Inv s → Fed c [] s (feed D c [] s)
  fed_nothing c s i = subst (Fed c [] s) (sym (feed_step c [] s i)) (record { inv = i; host = λ t x w. w })

  fed_to : (k : ℕ) (c : C) (p : List ℕ) (s : S) → length p ≤ k → Inv s → Fed c p s (feed D c p s)
  fed_to zero c [] s h i = fed_nothing c s i
  fed_to zero c (b ∷ p) s h i = absurd (omega arith)
  fed_to (suc k) c [] s h i = fed_nothing c s i
  fed_to (suc k) c (b ∷ p) s h i =
      let a = receive s c (b ∷ p) in
      let f : Fed c (drop a.used (b ∷ p)) a.next (feed D c (drop a.used (b ∷ p)) a.next) =
      fed_to k c (drop a.used (b ∷ p)) a.next (simp length-drop (omega (arith, adv.uses s c (b ∷ p) i (omega arith)))) (adv.hears s c (b ∷ p) i) in
      subst (Fed c (b ∷ p) s) (sym (feed_step c (b ∷ p) s i))
      (record {
        inv = f.inv;
        host = λ t x w. rw (append_assoc a.seen (feed D c (drop a.used (b ∷ p)) a.next).trace x.trace) (host.offer (b ∷ p) t (f.host t x w));
      })

  fed : (c : C) (p : List ℕ) (s : S) → Inv s → Fed c p s (feed D c p s)
  fed c p s i = fed_to (length p) c p s (omega arith) i

  -- a run, however it is cut
  pub cut_run : (c : C) (ps : List (List ℕ)) (s : S) → Inv s → Hosted D c s (joined ps) (runs (feed D c) ps s)
  unfolding runs
  cut_run c [] s i = host.done
  cut_run c (p ∷ ps) s i =
      let f = fed c p s i in
      f.host (joined ps) (runs (feed D c) ps (feed D c p s).end) (cut_run c ps (feed D c p s).end f.inv)

  kept_run : (c : C) (ps : List (List ℕ)) (s : S) → Inv s → Inv (runs (feed D c) ps s).end
  unfolding runs
  kept_run c [] s i = i
  kept_run c (p ∷ ps) s i = kept_run c ps (feed D c p s).end (fed c p s i).inv

  -- a script, however its runs are cut
  pub cut_script : (is : List (Item C E)) (s : S) → Inv s → HostedScript D s is (host.script D is s)
  unfolding runs
  cut_script [] s i = host.nothing
  cut_script (event c e ∷ is) s i = host.gives c e (cut_script is (on_event s c e).end (adv.does s c e i))
  cut_script (run c ps ∷ is) s i = host.feeds c ps (cut_run c ps s i) (cut_script is (runs (feed D c) ps s).end (kept_run c ps s i))
