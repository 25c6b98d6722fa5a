-- Application entity titles: what an RQ may carry, and when two are equal.
use Rattle.std.specs.Prelude.{Bool, cond, not, ◌&&◌, List, [], ◌∷◌, reverse, ℕ, leb, eqb, length}
use Rattle.laws.specs.Lists.{all, same_bytes}
use Rattle.numbers.specs.Lengths.{TITLE}

abbrev pub space : ℕ → Bool
space b = eqb b 0x20

-- "bytes 20H to 7EH without 5CH"
abbrev pub title_byte : ℕ → Bool
title_byte b = leb 0x20 b && leb b 0x7E && not (eqb b 0x5C)

-- 16 such bytes, "not 16 spaces"
unfoldable pub title_ok : List ℕ → Bool
title_ok t = eqb (length t) TITLE && all title_byte t && not (all space t)

abbrev pub trim_start : List ℕ → List ℕ
trim_start [] = []
trim_start (x ∷ xs) = cond (space x) (trim_start xs) (x ∷ xs)

unfoldable pub trim_end : List ℕ → List ℕ
trim_end s = reverse (trim_start (reverse s))

abbrev pub trim : List ℕ → List ℕ
trim s = trim_end (trim_start s)

-- "Equal when equal after leading and trailing spaces go; inner spaces and case count."
unfoldable pub titles_equal : List ℕ → List ℕ → Bool
titles_equal a b = same_bytes (trim a) (trim b)
