-- Numbers low byte first: there and back, over the width.
-- Assumes nothing.
use Prim.Native.Nat.{ℕ, zero, suc, ◌+◌, ◌*◌, ◌/◌, ◌%◌, ◌^◌, ◌<◌}
use native.Mathlib.Omega.{arith}
use native.Mathlib.Nat.{pow-suc}
use native.Mathlib.Numerals.{add-one}
use mathlib.Core.Path.{◌≡◌, refl, ap, ◌∙◌}
use mathlib.Core.List.{List, [], ◌∷◌}
use lib.ListN.{length, get_or}
use Rattle.assoc_bytes.specs.Low.{low, low_at}

-- the number in bytes
abbrev valued : List ℕ → ℕ
valued [] = 0
valued (b ∷ s) = b + 256 * valued s

-- a number as bytes, and back
pub low_back : (n x : ℕ) → x < 256 ^ n → valued (low n x) ≡ x
low_back zero x h = omega arith
low_back (suc n) x h =
    let e : 256 ^ suc n ≡ 256 ^ n * 256 = pow-suc 256 n in
    let i : valued (low n (x / 256)) ≡ x / 256 = low_back n (x / 256) (omega arith) in
    omega arith

-- the n bytes from a place on
unfoldable pub run : ℕ → List ℕ → ℕ → List ℕ
run zero s at = []
run (suc n) s at = get_or s at 0 ∷ run n s (at + 1)

-- bytes as a number, and back
pub low_there : (n : ℕ) (s : List ℕ) (at : ℕ) → ((i : ℕ) → get_or s i 0 < 256) → low n (low_at n s at) ≡ run n s at
unfolding run
low_there zero s at b = refl
low_there (suc n) s at b =
    let h = b at in
    let m : (get_or s at 0 + 256 * low_at n s (at + 1)) % 256 ≡ get_or s at 0 = omega arith in
    let d : (get_or s at 0 + 256 * low_at n s (at + 1)) / 256 ≡ low_at n s (at + 1) = omega arith in
    rw (m, d, low_there n s (at + 1) b)

run_behind : (n : ℕ) (x : ℕ) (s : List ℕ) (at : ℕ) → run n (x ∷ s) (at + 1) ≡ run n s at
unfolding run
run_behind zero x s at = refl
run_behind (suc n) x s at =
    let e : get_or (x ∷ s) (at + 1) 0 ≡ get_or s at 0 = ap (λ (k : ℕ). get_or (x ∷ s) k 0) (add-one at) in
    rw (e, run_behind n x s (at + 1))

-- all of them
pub run_all : (n : ℕ) (s : List ℕ) → length s ≡ n → run n s 0 ≡ s
unfolding run
run_all zero [] h = refl
run_all zero (x ∷ s) h = absurd (omega arith)
run_all (suc n) [] h = absurd (omega arith)
run_all (suc n) (x ∷ s) h = ap (λ (r : List ℕ). x ∷ r) (run_behind n x s 0 ∙ run_all n s (omega arith))
