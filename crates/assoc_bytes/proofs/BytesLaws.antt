-- An association as bytes: there and back, and each way through the code that makes one of the other.
-- Assumes nothing.
use Prim.Native.Nat.{ℕ, zero, suc, ◌+◌, ◌*◌, ◌/◌, ◌%◌, ◌^◌, ◌<◌, ◌≤◌}
use native.Mathlib.Omega.{arith}
use mathlib.Core.Path.{◌≡◌, refl, sym, ap, ◌∙◌}
use mathlib.Core.Bool.{Bool, true, false}
use mathlib.Core.List.{List, [], ◌∷◌, ◌++◌}
use lib.ListN.{length, get_or}
use borrow.Author.Rules.{rules}
use Rattle.association.specs.declared.Assoc.{Assoc}
use Rattle.assoc_bytes.specs.Low.{low, low_at}
use Rattle.assoc_bytes.specs.Bytes.{byte_of, is_set, bytes_of, assoc_of}
use Rattle.std.specs.Int.{w32, w64, to_le_bytes, from_le_bytes}
use Rattle.std.proofs.lemmas.Nat.{shr-shr}
use Rattle.assoc_bytes.proofs.LowLaws.{low_back, low_there, run, run_all}

-- ---- there and back
mark_back : (m : Bool) → is_set (byte_of m) ≡ m
mark_back true = refl
mark_back false = refl

-- a record to bytes, and back, is the record; its numbers are of 32 and 64 bits
pub assoc_back : (a : Assoc) → a.peer_max < 2 ^ 32 → a.gathered < 2 ^ 64 → assoc_of (bytes_of a) ≡ a
unfolding assoc_of bytes_of
assoc_back a p g =
    let x = mark_back a.deaf in
    let y = mark_back a.artim in
    let z = mark_back a.requestor in
    let u = low_back 4 a.peer_max p in
    let v = low_back 8 a.gathered g in
    λ i. record { state = a.state; deaf = x i; artim = y i; requestor = z i; peer_max = u i; gathered = v i }

mark_there : (b : ℕ) → b ≤ 1 → byte_of (is_set b) ≡ b
mark_there zero h = refl
mark_there (suc zero) h = refl
mark_there (suc (suc b)) h = absurd (omega arith)

-- 16 bytes to a record, and back, are the bytes, where each mark is 0 or 1
pub bytes_back : (s : List ℕ) → length s ≡ 16 → ((i : ℕ) → get_or s i 0 < 256)
    → get_or s 1 0 ≤ 1 → get_or s 2 0 ≤ 1 → get_or s 3 0 ≤ 1 → bytes_of (assoc_of s) ≡ s
unfolding assoc_of bytes_of run
bytes_back s l b d t q =
    let x = mark_there (get_or s 1 0) d in
    let y = mark_there (get_or s 2 0) t in
    let z = mark_there (get_or s 3 0) q in
    let u = low_there 4 s 4 b in
    let v = low_there 8 s 8 b in
    (λ i. (get_or s 0 0 ∷ x i ∷ y i ∷ z i ∷ u i) ++ v i) ∙ run_all 16 s l

-- ---- in code
-- byte i of n, as std says it and as `low` does
module _ (n : ℕ) where
  two : n / 256 ^ 2 ≡ n / 256 / 256
  two = sym (shr-shr n 8 8)

  three : n / 256 ^ 3 ≡ n / 256 / 256 / 256
  three = sym (shr-shr n 16 8) ∙ ap (λ (k : ℕ). k / 256) two

  four : n / 256 ^ 4 ≡ n / 256 / 256 / 256 / 256
  four = sym (shr-shr n 24 8) ∙ ap (λ (k : ℕ). k / 256) three

  five : n / 256 ^ 5 ≡ n / 256 / 256 / 256 / 256 / 256
  five = sym (shr-shr n 32 8) ∙ ap (λ (k : ℕ). k / 256) four

  six : n / 256 ^ 6 ≡ n / 256 / 256 / 256 / 256 / 256 / 256
  six = sym (shr-shr n 40 8) ∙ ap (λ (k : ℕ). k / 256) five

  seven : n / 256 ^ 7 ≡ n / 256 / 256 / 256 / 256 / 256 / 256 / 256
  seven = sym (shr-shr n 48 8) ∙ ap (λ (k : ℕ). k / 256) six

  low_four : to_le_bytes w32 n ≡ low 4 n
  low_four = λ i. n % 256 ∷ n / 256 % 256 ∷ two i % 256 ∷ three i % 256 ∷ []

  low_eight : to_le_bytes w64 n ≡ low 8 n
  low_eight = λ i. n % 256 ∷ n / 256 % 256 ∷ two i % 256 ∷ three i % 256 ∷ four i % 256 ∷ five i % 256 ∷ six i % 256 ∷ seven i % 256 ∷ []

pub bytes_made : (a : Assoc) (p g : List ℕ) → p ≡ to_le_bytes w32 a.peer_max → g ≡ to_le_bytes w64 a.gathered
    → a.state ∷ byte_of a.deaf ∷ byte_of a.artim ∷ byte_of a.requestor ∷ get_or p 0 0 ∷ get_or p 1 0 ∷ get_or p 2 0 ∷ get_or p 3 0
    ∷ get_or g 0 0 ∷ get_or g 1 0 ∷ get_or g 2 0 ∷ get_or g 3 0 ∷ get_or g 4 0 ∷ get_or g 5 0 ∷ get_or g 6 0 ∷ get_or g 7 0 ∷ []
    ≡ bytes_of a
unfolding bytes_of
bytes_made a p g u v = rw (u ∙ low_four a.peer_max, v ∙ low_eight a.gathered)

-- the number of four bytes, and of eight
from_four : (a b c d : ℕ) → from_le_bytes w32 (a ∷ b ∷ c ∷ d ∷ []) ≡ a + 256 * (b + 256 * (c + 256 * (d + 256 * 0)))
from_four a b c d = let e : a + b * 256 + c * 65536 + d * 16777216 ≡ a + 256 * (b + 256 * (c + 256 * (d + 256 * 0))) = omega arith in e

from_eight : (a b c d e f g h : ℕ) → from_le_bytes w64 (a ∷ b ∷ c ∷ d ∷ e ∷ f ∷ g ∷ h ∷ [])
    ≡ a + 256 * (b + 256 * (c + 256 * (d + 256 * (e + 256 * (f + 256 * (g + 256 * (h + 256 * 0)))))))
from_eight a b c d e f g h =
    let sum : a + b * 256 + c * 65536 + d * 16777216 + e * 4294967296 + f * 1099511627776 + g * 281474976710656 + h * 72057594037927936
    ≡ a + 256 * (b + 256 * (c + 256 * (d + 256 * (e + 256 * (f + 256 * (g + 256 * (h + 256 * 0))))))) = omega arith in
    sum

pub assoc_made : (s : List ℕ) (p g : ℕ) → p ≡ from_le_bytes w32 (get_or s 4 0 ∷ get_or s 5 0 ∷ get_or s 6 0 ∷ get_or s 7 0 ∷ [])
    → g ≡ from_le_bytes w64 (get_or s 8 0 ∷ get_or s 9 0 ∷ get_or s 10 0 ∷ get_or s 11 0 ∷ get_or s 12 0 ∷ get_or s 13 0 ∷ get_or s 14 0 ∷ get_or s 15 0 ∷ [])
    → record { state = get_or s 0 0; gathered = g; deaf = is_set (get_or s 1 0); artim = is_set (get_or s 2 0); requestor = is_set (get_or s 3 0); peer_max = p } ≡ assoc_of s
unfolding assoc_of
assoc_made s p g u v =
    let x : p ≡ low_at 4 s 4 = u ∙ from_four _ _ _ _ in
    let y : g ≡ low_at 8 s 8 = v ∙ from_eight _ _ _ _ _ _ _ _ in
    λ i. record { state = get_or s 0 0; gathered = y i; deaf = is_set (get_or s 1 0); artim = is_set (get_or s 2 0); requestor = is_set (get_or s 3 0); peer_max = x i }

pub ruleset making = (rules, bytes_made, assoc_made)
