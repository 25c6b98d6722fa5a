-- The reference by its first event; where bytes are dropped; and two runs with no local event between them are one run.
-- Assumes nothing.
use Prim.Native.Nat.{ℕ}
use mathlib.Core.Path.{◌≡◌, refl, ap, ◌∙◌}
use mathlib.Core.Bool.{Bool, true, false, cond}
use mathlib.Core.List.{List, [], ◌∷◌, ◌++◌}
use lib.ListN.{take, drop}
use Rattle.framing.specs.Runs.{Ran, stop, following, runs}
use Rattle.framing.specs.Framing.{Frame, frame, Framed, Brought, split_by, split, Frame.short, Frame.long, Frame.whole}
use Rattle.framing.specs.Host.{Entry}
use Rattle.framing.specs.Reference as ref
use Rattle.framing.specs.Reference.{Machine}
use Rattle.framing.proofs.Runs.{runs_append}
use Rattle.framing.proofs.Split.{split_step, split_append}

module _ (M : Machine) where
  open M use {R, A, limit, drops, on_pdu, on_long}

  -- ---- where bytes are dropped

  pub takes_none : (vs : List Brought) (r : R) → drops r ≡ true → runs (ref.takes M) vs r ≡ stop r
  unfolding runs
  takes_none [] r e = refl
  takes_none (v ∷ vs) r e = rw e (takes_none vs r e)

  pub framed_dropped : (r : R) (s : List ℕ) → drops r ≡ true → ref.framed M r s ≡ stop (ref.box M r [])
  unfolding ref.framed
  framed_dropped r s e = rw (takes_none (split limit s).events r e) (rw e)

  -- ---- its first event, and then the reference on what is behind it

  abbrev first_by : Bool → Frame → R → List ℕ → Ran (Entry A) (ref.Box M)
  first_by true f r s = stop (ref.box M r [])
  first_by false short r s = stop (ref.box M r s)
  first_by false long r s = following (ref.entry M (on_long r) [] ∷ []) (ref.framed M (on_long r).next (drop 6 s))
  first_by false (whole n) r s = following (ref.entry M (on_pdu r (take n s)) (take n s) ∷ []) (ref.framed M (on_pdu r (take n s)).next (drop n s))

  abbrev played : Framed → R → Ran (Entry A) (ref.Box M)
  played x r = let y = runs (ref.takes M) x.events r in record { trace = y.trace; end = ref.holding M y.end x.rest }

  first_by_so : (r : R) (s : List ℕ) (b : Bool) → drops r ≡ b → (f : Frame) → played (split_by f (split limit) s) r ≡ first_by b f r s
  unfolding runs ref.framed
  first_by_so r s true e f = rw (takes_none (split_by f (split limit) s).events r e) (rw e)
  first_by_so r s false e short = rw e
  first_by_so r s false e long = rw e
  first_by_so r s false e (whole n) = rw e

  pub framed_step : (r : R) (s : List ℕ) → ref.framed M r s ≡ first_by (drops r) (frame limit s) r s
  unfolding ref.framed
  framed_step r s = ap (λ (x : Framed). played x r) (split_step limit s) ∙ first_by_so r s (drops r) refl (frame limit s)

  -- bytes that bring no event are gathered, or dropped
  pub framed_short : (r : R) (s : List ℕ) → frame limit s ≡ short → ref.framed M r s ≡ stop (ref.holding M r s)
  framed_short r s e = framed_step r s ∙ rw e (by (drops r))
    where
      by : (b : Bool) → first_by b short r s ≡ stop (ref.box M r (cond b [] s))
      by true = refl
      by false = refl

  -- ---- two runs are one

  -- the reference goes on from where it stood
  abbrev pub onward : Ran (Entry A) (ref.Box M) → List ℕ → Ran (Entry A) (ref.Box M)
  onward x t = following x.trace (ref.framed M x.end.state (x.end.got ++ t))

  pub framed_append : (r : R) (s t : List ℕ) → ref.framed M r (s ++ t) ≡ onward (ref.framed M r s) t
  unfolding ref.framed
  framed_append r s t =
      let x : Framed = split limit s in
      let w : Framed = split limit (x.rest ++ t) in
      let y : Ran (Entry A) R = runs (ref.takes M) x.events r in
      ap (λ (z : Framed). played z r) (split_append limit s t)
      ∙ ap (λ (z : Ran (Entry A) R). record { trace = z.trace; end = ref.holding M z.end w.rest }) (runs_append (ref.takes M) x.events w.events r)
      ∙ ap (following y.trace) (by y.end x.rest (drops y.end) refl)
    where
      by : (q : R) (g : List ℕ) (b : Bool) → drops q ≡ b → played (split limit (g ++ t)) q ≡ played (split limit (cond b [] g ++ t)) q
      by q g true e = rw (takes_none (split limit (g ++ t)).events q e, takes_none (split limit t).events q e) (rw e)
      by q g false e = refl
