-- One bit of a number, `odd (n / 2 ^ j)`: of an or, of a power of two; numbers of k bits that have the same bits are equal.
-- Assumes nothing.
use Prim.Native.Nat.{ℕ, zero, suc, ◌+◌, ◌*◌, ◌/◌, ◌%◌, ◌^◌, ◌<◌, max}
use native.Mathlib.Nat.{div-eq_of_lt, pow-suc, mul-div-mul_right}
use native.Mathlib.Omega.{arith}
use mathlib.Core.Bool.{false, ◌||◌}
use mathlib.Core.Path.{◌≡◌, refl, sym, ap, ◌∙◌}
use lib.Arith.{lt-one, digits_mod}
use lib.Bits.{bit_or, or_step, or_shr}
use lib.Pow.{pow-lt, shr-shr}
use lib.Dec.{eqb, eqb-zero-suc, eqb-suc-zero, eqb-suc-suc}
use Rattle.laws.proofs.Booleans.{held}
use Rattle.octets.specs.Octets.{odd}

-- ---- an or
max_bit : (x y : ℕ) → x < 2 → y < 2 → max x y < 2
max_bit zero zero h l = h
max_bit zero (suc zero) h l = l
max_bit (suc zero) zero h l = h
max_bit (suc zero) (suc zero) h l = h
max_bit (suc (suc x)) y h l = absurd (omega arith)
max_bit zero (suc (suc y)) h l = absurd (omega arith)
max_bit (suc zero) (suc (suc y)) h l = absurd (omega arith)

or_bit : (x y : ℕ) → x < 2 → y < 2 → eqb (max x y) 1 ≡ (eqb x 1 || eqb y 1)
or_bit zero zero h l = refl
or_bit zero (suc zero) h l = refl
or_bit (suc zero) zero h l = refl
or_bit (suc zero) (suc zero) h l = refl
or_bit (suc (suc x)) y h l = absurd (omega arith)
or_bit zero (suc (suc y)) h l = absurd (omega arith)
or_bit (suc zero) (suc (suc y)) h l = absurd (omega arith)

odd_or : (a b : ℕ) → odd (bit_or a b) ≡ (odd a || odd b)
odd_or a b =
    let h : a % 2 < 2 = omega arith in
    let l : b % 2 < 2 = omega arith in
    ap odd (or_step a b) ∙ (ap (λ (n : ℕ). eqb n 1) (digits_mod (bit_or (a / 2) (b / 2)) (max_bit (a % 2) (b % 2) h l)) ∙ or_bit (a % 2) (b % 2) h l)

pub bit_or_so : (a b j : ℕ) → odd (bit_or a b / 2 ^ j) ≡ (odd (a / 2 ^ j) || odd (b / 2 ^ j))
bit_or_so a b j = ap odd (or_shr a b j) ∙ odd_or (a / 2 ^ j) (b / 2 ^ j)

-- ---- a power of two, as it is shifted to its place
one_times : (n : ℕ) → 1 * n ≡ n
one_times n = omega arith

even : (n : ℕ) → n * 2 % 2 ≡ 0
even n = omega arith

halved : (k j : ℕ) → 2 ^ suc k / 2 ^ suc j ≡ 2 ^ k / 2 ^ j
halved k j = rw (pow-suc 2 k, pow-suc 2 j) (mul-div-mul_right {m = 2} (2 ^ k) (2 ^ j) (omega arith))

power_bit : (k j : ℕ) → odd (2 ^ k / 2 ^ j) ≡ eqb j k
power_bit zero zero = refl
power_bit zero (suc j) = ap odd (div-eq_of_lt {n = 1} {m = 2 ^ suc j} (pow-lt {i = 0} {j = suc j} (omega arith))) ∙ sym (eqb-suc-zero j)
power_bit (suc k) zero = let e : 2 ^ suc k / 1 ≡ 2 ^ suc k = omega arith in rw (e, pow-suc 2 k) (ap (λ (n : ℕ). eqb n 1) (even (2 ^ k)) ∙ sym (eqb-zero-suc k))
power_bit (suc k) (suc j) = ap odd (halved k j) ∙ (power_bit k j ∙ sym (eqb-suc-suc j k))

pub bit_power : (k j : ℕ) → odd (1 * 2 ^ k / 2 ^ j) ≡ eqb j k
bit_power k j = ap (λ (n : ℕ). odd (n / 2 ^ j)) (one_times (2 ^ k)) ∙ power_bit k j

-- ---- the same bits
same_odd : (a b : ℕ) → odd a ≡ odd b → a % 2 ≡ b % 2
same_odd a b e = go (a % 2) (b % 2) (omega arith) (omega arith) e
  where
    go : (x y : ℕ) → x < 2 → y < 2 → eqb x 1 ≡ eqb y 1 → x ≡ y
    go zero zero h l e = refl
    go zero (suc zero) h l e = absurd (held false e)
    go (suc zero) zero h l e = absurd (held false (sym e))
    go (suc zero) (suc zero) h l e = refl
    go (suc (suc x)) y h l e = absurd (omega arith)
    go zero (suc (suc y)) h l e = absurd (omega arith)
    go (suc zero) (suc (suc y)) h l e = absurd (omega arith)

half_lt : (k a : ℕ) → a < 2 ^ suc k → a / 2 < 2 ^ k
half_lt k a h = let e : 2 ^ suc k ≡ 2 ^ k * 2 = pow-suc 2 k in omega arith

pub same_bits : (k a b : ℕ) → a < 2 ^ k → b < 2 ^ k → ((j : ℕ) → j < k → odd (a / 2 ^ j) ≡ odd (b / 2 ^ j)) → a ≡ b
same_bits zero a b h l f = lt-one h ∙ sym (lt-one l)
same_bits (suc k) a b h l f =
    let low : a % 2 ≡ b % 2 = same_odd a b (let at : a / 1 ≡ a = omega arith in let bt : b / 1 ≡ b = omega arith in ap odd (sym at) ∙ (f 0 (omega arith) ∙ ap odd bt)) in
    let high : a / 2 ≡ b / 2 = same_bits k (a / 2) (b / 2) (half_lt k a h) (half_lt k b l) (λ j m. up a j ∙ (f (suc j) (omega arith) ∙ sym (up b j))) in
    omega arith
  where
    up : (n j : ℕ) → odd (n / 2 / 2 ^ j) ≡ odd (n / 2 ^ suc j)
    up n j = let e : 1 + j ≡ suc j = omega arith in ap odd (shr-shr n 1 j ∙ ap (λ (i : ℕ). n / 2 ^ i) e)
