-- Framing without fuel; framing as the bytes come.
-- Assumes nothing.
use Prim.Native.Nat.{ℕ, zero, suc, ◌≤◌, ◌<◌}
use mathlib.Core.Path.{◌≡◌, refl, sym, ap, ◌∙◌}
use mathlib.Core.List.{List, [], ◌∷◌, ◌++◌}
use native.Mathlib.Omega.{arith}
use lib.ListN.{length, take, drop, length-drop}
use lib.Seq.{take-append-le, drop-append-le}
use Rattle.framing.specs.Framing as once
use Rattle.framing.specs.Framing.{Frame, frame, Framed, no_event, leading, split_by, split, Frame.short, Frame.long, Frame.whole}
use Rattle.framing.proofs.Rounds.{without_fuel}
use Rattle.framing.proofs.Framing.{Begins, Begins.at_six, Begins.at_end, begins, frame_nil}

module _ (limit : ℕ) where
  -- ---- the equation without fuel

  shorter_by : (go to : List ℕ → Framed) (s : List ℕ) → ((t : List ℕ) → length t < length s → go t ≡ to t)
      → (f : Frame) → Begins limit [] s f → split_by f go s ≡ split_by f to s
  shorter_by go to s same short v = refl
  shorter_by go to s same long (at_six a b c) = rw (same (drop 6 s) (simp length-drop (omega arith)))
  shorter_by go to s same (whole n) (at_end a b c d e) = rw (same (drop n s) (simp length-drop (omega arith)))

  -- WHAT `split` IS: the event that s begins with, if any, and then the events in what is behind it
  pub split_step : (s : List ℕ) → split limit s ≡ split_by (frame limit s) (split limit) s
  unfolding split
  split_step s =
      without_fuel no_event (λ go t. split_by (frame limit t) go t) (λ x y. x ≡ y)
      (λ go to t same. shorter_by go to t same (frame limit t) (begins limit [] t (frame_nil limit)))
      refl (λ to. rw (frame_nil limit)) (λ go. rw (frame_nil limit)) s

  pub split_nil : split limit [] ≡ no_event []
  split_nil = split_step [] ∙ rw (frame_nil limit)

  -- ---- as the bytes come

  abbrev pub onward : Framed → List ℕ → Framed
  onward x t = let y = split limit (x.rest ++ t) in record { events = x.events ++ y.events; rest = y.rest }

  append_by : (s t : List ℕ) (f : Frame) → Begins limit [] s f
      → ((u : List ℕ) → length u < length s → split limit (u ++ t) ≡ onward (split limit u) t)
      → split limit (s ++ t) ≡ onward (split_by f (split limit) s) t
  append_by s t short v ih = refl
  append_by s t long (at_six a b c) ih =
      split_step (s ++ t) ∙ rw (c t, drop-append-le 6 s t b) (ap (leading once.over_length) (ih (drop 6 s) (simp length-drop (omega arith))))
  append_by s t (whole n) (at_end a b c d g) ih =
      split_step (s ++ t)
      ∙ rw (g t, drop-append-le n s t c, take-append-le n s t c) (ap (leading (once.pdu (take n s))) (ih (drop n s) (simp length-drop (omega arith))))

  append_to : (k : ℕ) (s t : List ℕ) → length s ≤ k → split limit (s ++ t) ≡ onward (split limit s) t
  append_to zero [] t h = rw split_nil
  append_to zero (x ∷ s) t h = absurd (omega arith)
  append_to (suc k) s t h =
      append_by s t (frame limit s) (begins limit [] s (frame_nil limit)) (λ u lt. append_to k u t (omega arith))
      ∙ ap (λ (x : Framed). onward x t) (sym (split_step s))

  -- the events of a beginning are the first events of the whole
  pub split_append : (s t : List ℕ) → split limit (s ++ t) ≡ onward (split limit s) t
  split_append s t = append_to (length s) s t (omega arith)
