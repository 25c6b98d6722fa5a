-- Our words for lists beside the library's: where code calls a method of the library, its clause speaks the library's.
-- Assumes nothing.
use Rattle.std.proofs.Common.{ℕ, zero, suc, Bool, List, [], ◌∷◌, ◌≡◌, refl, ap, take, drop}
use Rattle.std.specs.List.{list_all, list_any}
use Rattle.std.specs.Simd.{first_chunks}
use Rattle.laws.specs.Lists.{all, any, records}

pub all_list : {A : Type 0} (p : A → Bool) (xs : List A) → list_all p xs ≡ all p xs
all_list p [] = refl
all_list p (x ∷ xs) = rw (all_list p xs)

pub any_list : {A : Type 0} (p : A → Bool) (xs : List A) → list_any p xs ≡ any p xs
any_list p [] = refl
any_list p (x ∷ xs) = rw (any_list p xs)

-- `as_chunks`
pub chunk_records : (k n : ℕ) (xs : List ℕ) → first_chunks k n xs ≡ records k n xs
chunk_records k zero xs = refl
chunk_records k (suc n) xs = ap (λ (rs : List (List ℕ)). take k xs ∷ rs) (chunk_records k n (drop k xs))
