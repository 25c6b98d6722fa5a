-- What a test that holds or does not tells, a conjunction and a disjunction of their parts, and a conjunction over a list of what is made of its elements.
-- Assumes nothing.
use mathlib.Core.Path.{◌≡◌, refl, sym, ◌∙◌}
use mathlib.Core.Bool.{Bool, true, false, ◌&&◌, ◌||◌, or-true}
use mathlib.Core.List.{List, [], ◌∷◌, map}
use lib.Dec.{T}
use Rattle.laws.specs.Lists.{all}

-- a test that holds, as an equation and back
pub holds : (b : Bool) → T b → b ≡ true
holds true t = refl
holds false t = absurd t

pub held : (b : Bool) → b ≡ true → T b
held b e = rw e tt

-- one that cannot hold
pub not_held : (b : Bool) → (b ≡ true → ⊥) → b ≡ false
not_held true n = absurd (n refl)
not_held false n = refl

pub left_of : (a b : Bool) → (a && b) ≡ true → a ≡ true
left_of true b e = refl
left_of false b e = e

pub right_of : (a b : Bool) → (a && b) ≡ true → b ≡ true
right_of true b e = e
right_of false b e = absurd (held false e)

pub both_of : (a b : Bool) → a ≡ true → b ≡ true → (a && b) ≡ true
both_of a b p q = rw (p, q)

pub or_left : (a b : Bool) → (a || b) ≡ false → a ≡ false
or_left true b e = e
or_left false b e = refl

pub or_right : (a b : Bool) → (a || b) ≡ false → b ≡ false
or_right a b e = not_held b (λ q. held false (sym e ∙ (rw q (or-true a))))

pub T-left : (a b : Bool) → T (a && b) → T a
T-left true b t = tt
T-left false b t = absurd t

pub T-right : (a b : Bool) → T (a && b) → T b
T-right true b t = t
T-right false b t = absurd t

pub T-both : (a b : Bool) → T a → T b → T (a && b)
T-both true b t u = u
T-both false b t u = absurd t

pub all_mapped : {A B : Type 0} (p : A → Bool) (q : B → Bool) (f : A → B) → ((x : A) → p x ≡ true → q (f x) ≡ true) → (xs : List A) → all p xs ≡ true → all q (map f xs) ≡ true
all_mapped p q f h [] g = refl
all_mapped p q f h (x ∷ xs) g = both_of _ _ (h x (left_of _ _ g)) (all_mapped p q f h xs (right_of (p x) _ g))
