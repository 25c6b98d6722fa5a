-- What the code answers, in the numbers of Own.Checked: beside its refusal, 1 where the title is known, else 0, and the place.
use Rattle.std.specs.Prelude.{ℕ, Option, None, Some, Result, Ok, Err}
use Rattle.numbers.specs.declared.refusals.Refusal.{Refusal}
use Rattle.titles.specs.Own.{Place, Place.At, Place.None, Place.Refused}

abbrev pub known_in : Result (Option ℕ) Refusal → ℕ
known_in (Ok None) = 0
known_in (Ok (Some k)) = 1
known_in (Err e) = 0

abbrev pub place_in : Result (Option ℕ) Refusal → ℕ
place_in (Ok None) = 0
place_in (Ok (Some k)) = k
place_in (Err e) = 0

-- the case that it is
abbrev pub case_of : Result (Option ℕ) Refusal → Place
case_of (Ok None) = Place.None
case_of (Ok (Some k)) = Place.At k
case_of (Err e) = Place.Refused
