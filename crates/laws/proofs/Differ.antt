-- `differ` says that any two strings at different places are different.
-- Assumes nothing.
use Prim.Native.Nat.{ℕ, zero, suc, ◌<◌}
use native.Mathlib.Omega.{arith}
use mathlib.Core.Path.{◌≡◌, refl, sym, ◌∙◌}
use mathlib.Core.Bool.{Bool, true, false, not}
use mathlib.Core.List.{List, [], ◌∷◌}
use lib.ListN.{length, get_or}
use borrow.Author.Tests.{not-true}
use Rattle.laws.specs.Lists.{any, same_bytes, differ}
use Rattle.laws.proofs.Booleans.{left_of, right_of, both_of, held, holds}
use Rattle.laws.proofs.Found.{none_at, some_at}
use Rattle.laws.proofs.Same.{same_equal, same_self}

-- no two places have the same string
abbrev pub Apart : List (List ℕ) → Type 0
Apart xs = (i j : ℕ) → i < j → j < length xs → get_or xs i [] ≡ get_or xs j [] → ⊥

pub differ_apart : (xs : List (List ℕ)) → differ xs ≡ true → Apart xs
unfolding differ
differ_apart [] d i j h l q = absurd (omega arith)
differ_apart (x ∷ xs) d i zero h l q = absurd (omega arith)
differ_apart (x ∷ xs) d zero (suc j) h l q =
    let n : any (same_bytes x) xs ≡ false = not-true _ (left_of (not (any (same_bytes x) xs)) (differ xs) d) in
    let f : same_bytes x (get_or xs j []) ≡ false = none_at (same_bytes x) [] xs n j (omega arith) in
    held false (sym f ∙ holds (same_bytes x (get_or xs j [])) (rw (← q) (same_self x)))
differ_apart (x ∷ xs) d (suc i) (suc j) h l q = differ_apart xs (right_of (not (any (same_bytes x) xs)) (differ xs) d) i j (omega arith) (omega arith) q

pub apart_differ : (xs : List (List ℕ)) → Apart xs → differ xs ≡ true
unfolding differ
apart_differ [] f = refl
apart_differ (x ∷ xs) f = both_of _ _ (go (any (same_bytes x) xs) refl) (apart_differ xs (λ i j h l q. f (suc i) (suc j) (omega arith) (omega arith) q))
  where
    go : (b : Bool) → any (same_bytes x) xs ≡ b → not b ≡ true
    go false e = refl
    go true e =
        let w = some_at (same_bytes x) [] xs e in
        let h = w.1.0 in
        absurd (f 0 (suc w.0) (omega arith) (omega arith) (same_equal x (get_or xs w.0 []) (held _ w.1.1)))
