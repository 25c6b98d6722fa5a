-- Copying bytes of a piece behind those gathered: how many are wanted, and a run in one copy or in two.
-- Assumes nothing.
use Prim.Native.Nat.{ℕ, ◌+◌, ◌-◌, ◌≤◌, ◌<◌}
use mathlib.Core.Path.{◌≡◌, sym, ap, ◌∙◌}
use Rattle.std.specs.Prelude.{min}
use mathlib.Core.List.{List, ◌++◌}
use native.Mathlib.Nat.{add-sub_of_le}
use native.Mathlib.Omega.{arith}
use lib.ListN.{length, take, drop, length-append, take-append-drop}
use lib.Seq.{take-add}
use borrow.Author.Rules.{rules}
use Rattle.octets.specs.Put.{put, Placed}
use Rattle.octets.proofs.PutLaws.{put_out, put_length, put_put}

-- ---- how many are wanted
pub record Wanted (have need n w : ℕ) : Type 0 where
  pub some : w ≤ n
  pub upto : have ≤ need → have + w ≤ need
  pub none : need ≤ have → w ≡ 0
  pub all : have + w < need → w ≡ n

pub wanted : (have need n : ℕ) {w : ℕ} → w ≡ min (need - have) n → Wanted have need n w
wanted have need n e =
    record { some = omega arith; upto = λ l. omega arith; none = λ l. omega arith; all = λ l. omega arith }

-- ---- a run of bytes, in one copy or in two
module _ (b : List ℕ) (at : ℕ) (p : List ℕ) (h : at + length p ≤ length b) where
  pub copied : (r : ℕ) (b' : List ℕ) → Placed b at p r b' → b' ≡ put b at p
  copied r b' P = put_out b at p P h

  module _ (k : ℕ) (l : k ≤ length p) (x y : List ℕ) (ex : x ≡ take k p) (ey : y ≡ drop k p) (r : ℕ) (b₁ : List ℕ) (P : Placed b at x r b₁) where
    whole : x ++ y ≡ p
    whole = rw (ex, ey) (take-append-drop k p)

    n : length x + length y ≡ length p
    n = sym (length-append x y) ∙ ap length whole

    lead : b₁ ≡ put b at x
    lead = put_out b at x P (omega (arith, n))

    kept : length b₁ ≡ length b
    kept = ap length lead ∙ put_length b at x (omega (arith, n))

    pub copied_lines : (s : ℕ) (b₂ : List ℕ) → Placed b₁ (at + length x) y s b₂ → b₂ ≡ put b at p
    copied_lines s b₂ Q =
        put_out b₁ (at + length x) y Q (omega (arith, n, kept)) ∙ (rw lead (put_put b at x y (omega (arith, n))) ∙ ap (put b at) whole)

pub ruleset copy_laws = (rules, copied, copied_lines)

-- the first n, and those from there on to m
pub take_on : (n m : ℕ) (l : List ℕ) → n ≤ m → take n l ++ take (m - n) (drop n l) ≡ take m l
take_on n m l h = sym (take-add n (m - n) l) ∙ ap (λ (k : ℕ). take k l) (add-sub_of_le h)
