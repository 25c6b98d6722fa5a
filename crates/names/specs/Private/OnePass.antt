-- For the private functions: the one-pass reader of names, by what has been read of the present component, None where no name goes on so. No public contract cites it.
use Rattle.std.specs.Prelude.{Bool, true, false, cond, List, [], ◌∷◌, ℕ, eqb, Option, None, Some}
use Rattle.names.specs.Name.{digit}
use Rattle.names.specs.declared.name.Part.{Part}
use Rattle.names.specs.declared.name.Part.TheVariants.{Start, Zero, Digits}

abbrev pub after_dot : Option Part → Option Part
after_dot (Some Start) = None
after_dot (Some Zero) = Some Start
after_dot (Some Digits) = Some Start
after_dot None = None

abbrev pub after_digit : Bool → Option Part → Option Part
after_digit zero (Some Start) = cond zero (Some Zero) (Some Digits)
after_digit zero (Some Zero) = None
after_digit zero (Some Digits) = Some Digits
after_digit zero None = None

abbrev pub next : Option Part → ℕ → Option Part
next p b = cond (eqb b 46) (after_dot p) (cond (digit b) (after_digit (eqb b 48) p) None)

abbrev pub ends : Option Part → Bool
ends (Some Start) = false
ends (Some Zero) = true
ends (Some Digits) = true
ends None = false

-- whether the component begun, with what follows, is read to a good end
abbrev pub reads : Option Part → List ℕ → Bool
reads p [] = ends p
reads p (x ∷ xs) = reads (next p x) xs
