-- What bytes begin with stays when more bytes come behind them. All the arithmetic of framing is in here, once.
-- Assumes nothing.
use Prim.Native.Nat.{ℕ, ◌+◌, ◌≤◌, ◌<◌}
use mathlib.Core.Path.{◌≡◌, refl, ◌∙◌}
use mathlib.Core.Bool.{Bool, true, false, cond}
use mathlib.Core.List.{List, [], ◌++◌}
use native.Mathlib.Omega.{arith}
use native.Mathlib.Decide.{dec_lt}
use lib.ListN.{length, take, length-append, get_or-append}
use lib.Seq.{get_or-take}
use lib.Dec.{ltb}
use borrow.Author.Tests.{lt-ltb, le-ltb, ltb-true, ltb-false}
use Rattle.octets.specs.Octets.{be16, be32}
use Rattle.framing.specs.Framing.{length_field, Frame, frame}
use Rattle.framing.specs.Framing.{Frame.short, Frame.long, Frame.whole}

-- ---- the length field

pub length_append_field : (s t : List ℕ) → 6 ≤ length s → length_field (s ++ t) ≡ length_field s
unfolding length_field be32 be16
length_append_field s t h =
    let a : 2 < length s = omega arith in
    let b : 3 < length s = omega arith in
    let c : 4 < length s = omega arith in
    let d : 5 < length s = omega arith in
    simp get_or-append

-- that of the bytes gathered is read from the buffer
pub length_take_field : (c : ℕ) (s : List ℕ) → 6 ≤ c → length_field (take c s) ≡ length_field s
unfolding length_field be32 be16
length_take_field c s h =
    let a : 2 < c = omega arith in
    let b : 3 < c = omega arith in
    let d : 4 < c = omega arith in
    let e : 5 < c = omega arith in
    simp get_or-take

-- ---- the four ways in which bytes can begin

pub data View (limit : ℕ) (s : List ℕ) : Frame → Type 0 where
  few : length s < 6 → View limit s short
  part : 6 ≤ length s → length_field s ≤ limit → length s < 6 + length_field s → View limit s short
  over : 6 ≤ length s → limit < length_field s → View limit s long
  full : 6 ≤ length s → length_field s ≤ limit → 6 + length_field s ≤ length s → View limit s (whole (6 + length_field s))

pub view : (limit : ℕ) (s : List ℕ) → View limit s (frame limit s)
unfolding frame
view limit s = go (ltb (length s) 6) refl (ltb limit (length_field s)) refl (ltb (length s) (6 + length_field s)) refl
  where
    go : (a : Bool) → ltb (length s) 6 ≡ a → (b : Bool) → ltb limit (length_field s) ≡ b → (c : Bool) → ltb (length s) (6 + length_field s) ≡ c
        → View limit s (cond a short (cond b long (cond c short (whole (6 + length_field s)))))
    go true ea b eb c ec = few (ltb-true _ _ ea)
    go false ea true eb c ec = over (ltb-false _ _ ea) (ltb-true _ _ eb)
    go false ea false eb true ec = part (ltb-false _ _ ea) (ltb-false _ _ eb) (ltb-true _ _ ec)
    go false ea false eb false ec = full (ltb-false _ _ ea) (ltb-false _ _ eb) (ltb-false _ _ ec)

pub frame_few : (limit : ℕ) (s : List ℕ) → length s < 6 → frame limit s ≡ short
unfolding frame
frame_few limit s h = simp (lt-ltb (length s) 6 h)

pub frame_part : (limit : ℕ) (s : List ℕ) → 6 ≤ length s → length_field s ≤ limit → length s < 6 + length_field s → frame limit s ≡ short
unfolding frame
frame_part limit s h l k = simp (le-ltb (length s) 6 h, le-ltb limit (length_field s) l, lt-ltb (length s) (6 + length_field s) k)

pub frame_over : (limit : ℕ) (s : List ℕ) → 6 ≤ length s → limit < length_field s → frame limit s ≡ long
unfolding frame
frame_over limit s h l = simp (le-ltb (length s) 6 h, lt-ltb limit (length_field s) l)

pub frame_full : (limit : ℕ) (s : List ℕ) → 6 ≤ length s → length_field s ≤ limit → 6 + length_field s ≤ length s
    → frame limit s ≡ whole (6 + length_field s)
unfolding frame
frame_full limit s h l k = simp (le-ltb (length s) 6 h, le-ltb limit (length_field s) l, le-ltb (length s) (6 + length_field s) k)

pub frame_nil : (limit : ℕ) → frame limit [] ≡ short
unfolding frame
frame_nil limit = refl

-- ---- where the event falls

-- What g ++ p begins with, where g brought no event yet: the event, if any, falls into p and fits the gather buffer, and bytes t that come behind do not
-- change it.
pub data Begins (limit : ℕ) (g p : List ℕ) : Frame → Type 0 where
  no_event : length (g ++ p) < 6 + limit → Begins limit g p short
  at_six : length g < 6 → 6 ≤ length (g ++ p) → ((t : List ℕ) → frame limit ((g ++ p) ++ t) ≡ long) → Begins limit g p long
  at_end : {n : ℕ} → length g < n → 6 ≤ n → n ≤ length (g ++ p) → n ≤ 6 + limit → ((t : List ℕ) → frame limit ((g ++ p) ++ t) ≡ whole n)
      → Begins limit g p (whole n)

-- six bytes or more that brought no event are part of a PDU whose length is within the limit: refusal 6's test of L
pub no_event_yet : (limit : ℕ) (g : List ℕ) → frame limit g ≡ short → 6 ≤ length g → (length_field g ≤ limit) × (length g < 6 + length_field g)
no_event_yet limit g e h = go (frame limit g) (view limit g) e
  where
    go : (f : Frame) → View limit g f → f ≡ short → (length_field g ≤ limit) × (length g < 6 + length_field g)
    go short (few x) e = omega arith
    go short (part x y z) e = (y, z)
    go long (over x y) e = let z : ◌≡◌ {A = ℕ} 0 1 = cc in omega arith
    go (whole m) (full x y z) e = let z : ◌≡◌ {A = ℕ} 0 1 = cc in omega arith

-- and they have room in the gather buffer
pub no_event_fits : (limit : ℕ) (g : List ℕ) → frame limit g ≡ short → length g < 6 + limit
no_event_fits limit g e = go (dec_lt (length g) 6)
  where
    go : Dec (length g < 6) → length g < 6 + limit
    go (yes x) = omega arith
    go (no x) = let h : 6 ≤ length g = omega arith in omega (arith, no_event_yet limit g e h)

pub begins : (limit : ℕ) (g p : List ℕ) → frame limit g ≡ short → Begins limit g p (frame limit (g ++ p))
begins limit g p e = go (dec_lt (length g) 6) (frame limit (g ++ p)) (view limit (g ++ p))
  where
    grown : (t : List ℕ) → 6 ≤ length (g ++ p) → 6 ≤ length ((g ++ p) ++ t)
    grown t a = rw (length-append (g ++ p) t) (omega arith)

    go : Dec (length g < 6) → (h : Frame) → View limit (g ++ p) h → Begins limit g p h
    go d short (few a) = no_event (omega arith)
    go d short (part a b c) = no_event (omega arith)
    go (yes x) long (over a b) = at_six x a (λ t. frame_over limit ((g ++ p) ++ t) (grown t a) (rw (length_append_field (g ++ p) t a) b))
    go (no x) long (over a b) =
        let h : 6 ≤ length g = omega arith in
        absurd (omega (arith, no_event_yet limit g e h, length_append_field g p h))
    go d (whole n) (full a b c) =
        at_end (short_of d) (omega arith) c (omega arith)
        (λ t. frame_full limit ((g ++ p) ++ t) (grown t a) (rw (length_append_field (g ++ p) t a) b)
        (rw (length_append_field (g ++ p) t a, length-append (g ++ p) t) (omega arith))
        ∙ rw (length_append_field (g ++ p) t a))
      where
        short_of : Dec (length g < 6) → length g < 6 + length_field (g ++ p)
        short_of (yes x) = omega arith
        short_of (no x) = let h : 6 ≤ length g = omega arith in omega (arith, no_event_yet limit g e h, length_append_field g p h)
