-- Laws of numbers in bytes: what the code reads, at a place and past the end.
-- Assumes nothing.
use Prim.Native.Nat.{ℕ, ◌+◌, ◌-◌, ◌^◌, ◌<◌, ◌≤◌, min}
use mir.Syntax.{w16, w32}
use Rattle.std.specs.Int.{from_be_bytes}
use mathlib.Core.Path.{◌≡◌, refl, sym, ap, ◌∙◌}
use mathlib.Core.Bool.{Bool, true, false}
use mathlib.Core.List.{List}
use lib.ListN.{length, drop, get_or, get_or-eq_default, set}
use lib.Seq.{get_or-drop, get_or-set_same, get_or-set_other}
use borrow.Author.Count.{below_more}
use native.Mathlib.Omega.{arith}
use native.Mathlib.Decide.{dec_lt}
use Rattle.laws.specs.Lists.{same_bytes}
use Rattle.laws.proofs.Booleans.{held}
use Rattle.laws.proofs.Same.{same_equal}
use Rattle.octets.specs.Octets.{be16, be32}

-- ---- bytes that end otherwise are not the same
pub ends_differ : (a b : List ℕ) → (get_or a (length a - 1) 0 ≡ get_or b (length b - 1) 0 → ⊥) → false ≡ same_bytes a b
ends_differ a b n = go (same_bytes a b) refl
  where
    go : (d : Bool) → same_bytes a b ≡ d → false ≡ d
    go true e = absurd (n (ap (λ (l : List ℕ). get_or l (length l - 1) 0) (same_equal a b (held _ e))))
    go false e = refl

-- ---- numbers in bytes: what stands past the end
module _ (s : List ℕ) (at : ℕ) where
  pub past_16 : length s ≤ at → 0 ≡ be16 s at
  unfolding be16
  past_16 h = rw (get_or-eq_default s 0 h, get_or-eq_default s 0 {n = at + 1} (omega arith))

pub past_32 : (s : List ℕ) (at : ℕ) → length s ≤ at → 0 ≡ be32 s at
unfolding be32
past_32 s at h = rw (← past_16 s at h, ← past_16 s (at + 2) (omega arith))

-- ---- the reading code
-- the place k further on, as the code counts it
saturated : (s : List ℕ) (at k n : ℕ) → n ≡ min (at + k) (2 ^ 64 - 1) → length s < 2 ^ 64 → get_or s n 0 ≡ get_or s (at + k) 0
saturated s at k n e h = go (dec_lt (at + k) (2 ^ 64))
  where
    go : Dec (at + k < 2 ^ 64) → get_or s n 0 ≡ get_or s (at + k) 0
    go (yes l) = let m : n ≡ at + k = omega arith in rw m
    go (no l) = get_or-eq_default s 0 (omega arith) ∙ sym (get_or-eq_default s 0 {n = at + k} (omega arith))

pub filled : (xs s : List ℕ) (at i b n : ℕ) → i < length xs → ((k : ℕ) → k < i → get_or xs k 0 ≡ get_or s (at + k) 0) → b ≡ get_or s n 0 → n ≡ min (at + i) (2 ^ 64 - 1) → length s < 2 ^ 64
    → (k : ℕ) → k < i + 1 → get_or (set xs i b) k 0 ≡ get_or s (at + k) 0
filled xs s at i b n l v e q h =
    below_more (λ (k : ℕ). get_or (set xs i b) k 0 ≡ get_or s (at + k) 0) i
    (λ k m. get_or-set_other xs i k b 0 (λ z. omega arith) ∙ v k m)
    (get_or-set_same xs i b 0 l ∙ (e ∙ saturated s at i n q h))

-- a turn of the loop that copies: one byte more is that of s
pub copied : (xs s : List ℕ) (i : ℕ) → i < length xs → ((k : ℕ) → k < i → get_or xs k 0 ≡ get_or s k 0) → (k : ℕ) → k < i + 1 → get_or (set xs i (get_or s i 0)) k 0 ≡ get_or s k 0
copied xs s i l v =
    let b = get_or s i 0 in
    below_more (λ (k : ℕ). get_or (set xs i b) k 0 ≡ get_or s k 0) i (λ k m. get_or-set_other xs i k b 0 (λ z. omega arith) ∙ v k m) (get_or-set_same xs i b 0 l)

pub joined_16 : (s bytes : List ℕ) (at : ℕ) → ((k : ℕ) → k < 2 → get_or bytes k 0 ≡ get_or s (at + k) 0) → from_be_bytes w16 bytes ≡ be16 s at
unfolding be16
joined_16 s bytes at f =
    let z : at + 0 ≡ at = omega arith in
    let a = f 0 (omega arith) in
    let b = f 1 (omega arith) in
    rw (a, b, z)

pub joined_32 : (s bytes : List ℕ) (at : ℕ) → ((k : ℕ) → k < 4 → get_or bytes k 0 ≡ get_or s (at + k) 0) → from_be_bytes w32 bytes ≡ be32 s at
unfolding be32 be16
joined_32 s bytes at f =
    let z : at + 0 ≡ at = omega arith in
    let m : at + 2 + 1 ≡ at + 3 = omega arith in
    let a = f 0 (omega arith) in
    let b = f 1 (omega arith) in
    let c = f 2 (omega arith) in
    let d = f 3 (omega arith) in
    rw (a, b, c, d, z, m) (omega arith)

-- the number at a place, seen from another
pub be16_drop : (s : List ℕ) (at k : ℕ) → be16 (drop at s) k ≡ be16 s (at + k)
unfolding be16
be16_drop s at k =
    let e : at + (k + 1) ≡ at + k + 1 = omega arith in
    rw (get_or-drop at s k 0, get_or-drop at s (k + 1) 0, e)
