-- Definitions on lists that the documents' rules are written with: tests, and lists cut and joined.
use Rattle.std.specs.Prelude.{Bool, true, false, not, cond, ◌&&◌, ◌||◌, List, [], ◌∷◌, ◌++◌, ℕ, zero, suc, eqb, take, drop}

module _ {A : Type 0} where
  -- every element passes the test
  abbrev pub all : (A → Bool) → List A → Bool
  all p [] = true
  all p (x ∷ xs) = p x && all p xs

  -- some element passes the test
  abbrev pub any : (A → Bool) → List A → Bool
  any p [] = false
  any p (x ∷ xs) = p x || any p xs

  -- the place, from 0, of the first element that passes the test; where none does, how many there are
  abbrev pub first_place : (A → Bool) → List A → ℕ
  first_place p [] = 0
  first_place p (x ∷ xs) = cond (p x) 0 (suc (first_place p xs))

  -- there is no element
  abbrev pub empty : List A → Bool
  empty [] = true
  empty (x ∷ xs) = false

  -- one behind the other
  abbrev pub joined : List (List A) → List A
  joined [] = []
  joined (x ∷ xs) = x ++ joined xs

  -- the first n records of k elements each
  abbrev pub records : ℕ → ℕ → List A → List (List A)
  records k zero xs = []
  records k (suc n) xs = take k xs ∷ records k n (drop k xs)

-- the same bytes, in the same order
abbrev pub same_bytes : List ℕ → List ℕ → Bool
same_bytes [] [] = true
same_bytes [] (y ∷ ys) = false
same_bytes (x ∷ xs) [] = false
same_bytes (x ∷ xs) (y ∷ ys) = eqb x y && same_bytes xs ys

-- x is one of the numbers
unfoldable pub among : ℕ → List ℕ → Bool
among x [] = false
among x (y ∷ ys) = eqb x y || among x ys

-- no number comes twice
unfoldable pub distinct : List ℕ → Bool
distinct [] = true
distinct (x ∷ xs) = not (among x xs) && distinct xs

-- no string of bytes comes twice
unfoldable pub differ : List (List ℕ) → Bool
differ [] = true
differ (x ∷ xs) = not (any (same_bytes x) xs) && differ xs
