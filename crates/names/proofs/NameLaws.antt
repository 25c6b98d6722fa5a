-- The one-pass reader of names says what the rule over the components says.
-- Assumes nothing.
use Rattle.std.specs.Prelude.{Option, None, Some}
use Prim.Native.Nat.{ℕ, suc, ◌<◌, ◌≤◌, ◌+◌}
use native.Mathlib.Omega.{arith}
use borrow.Author.Tests.{le-leb, lt-leb, leb-true}
use mathlib.Core.Path.{◌≡◌, refl, sym, ◌∙◌, ap}
use mathlib.Core.Bool.{Bool, true, false, cond, not, ◌&&◌, ◌||◌, and-true, and-false}
use mathlib.Core.List.{List, [], ◌∷◌}
use lib.ListN.{length, drop, get_or}
use lib.Dec.{eqb, leb}
use Rattle.laws.specs.Lists.{all, empty}
use Rattle.names.specs.Name.{digit, component, name_ok, components, ahead}
use Rattle.names.specs.Private.OnePass.{next, reads, after_dot, after_digit, ends}
use Rattle.names.specs.declared.name.Part.{Part}
use Rattle.names.specs.declared.name.Part.TheVariants.{Start, Zero, Digits}
use Rattle.laws.proofs.Booleans.{left_of, right_of}
use Rattle.laws.proofs.Places.{at_cons, at_end}

-- whether h completes the component that is begun
abbrev ok_as : Option Part → List ℕ → Bool
ok_as (Some Start) h = component h
ok_as (Some Zero) h = empty h
ok_as (Some Digits) h = all digit h
ok_as None h = false

abbrev rest : Option Part → List (List ℕ) → Bool
rest p [] = ok_as p []
rest p (h ∷ t) = ok_as p h && all component t

-- ---- a byte that is no dot: d, it is a digit; z, it is '0'
abbrev more : Option Part → Bool → Bool → List ℕ → Bool
more (Some Start) d z h = (d && all digit h) && (not z || empty h)
more (Some Zero) d z h = false
more (Some Digits) d z h = d && all digit h
more None d z h = false

zero_alone : (h : List ℕ) → empty h ≡ (all digit h && empty h)
zero_alone [] = refl
zero_alone (x ∷ h) = sym (and-false (all digit (x ∷ h)))

digit_step : (p : Option Part) (d z : Bool) (h : List ℕ) → ok_as (cond d (after_digit z p) None) h ≡ more p d z h
digit_step (Some Start) true true h = zero_alone h
digit_step (Some Start) true false h = sym (and-true (all digit h))
digit_step (Some Start) false z h = refl
digit_step (Some Zero) true z h = refl
digit_step (Some Zero) false z h = refl
digit_step (Some Digits) true z h = refl
digit_step (Some Digits) false z h = refl
digit_step None true z h = refl
digit_step None false z h = refl

more_is : (p : Option Part) (x : ℕ) (h : List ℕ) → more p (digit x) (eqb x 48) h ≡ ok_as p (x ∷ h)
more_is (Some Start) x h = refl
more_is (Some Zero) x h = refl
more_is (Some Digits) x h = refl
more_is None x h = refl

rest_ahead : (p : Option Part) (x : ℕ) (l : List (List ℕ)) → rest (cond (digit x) (after_digit (eqb x 48) p) None) l ≡ rest p (ahead x l)
rest_ahead p x [] = digit_step p (digit x) (eqb x 48) [] ∙ (more_is p x [] ∙ sym (and-true (ok_as p (x ∷ []))))
rest_ahead p x (h ∷ t) = ap (λ (b : Bool). b && all component t) (digit_step p (digit x) (eqb x 48) h ∙ more_is p x h)

-- ---- a dot
rest_bad : (l : List (List ℕ)) → rest None l ≡ false
rest_bad [] = refl
rest_bad (h ∷ t) = refl

start_ahead : (x : ℕ) (l : List (List ℕ)) → rest (Some Start) (ahead x l) ≡ all component (ahead x l)
start_ahead x [] = refl
start_ahead x (h ∷ t) = refl

start_all : (s : List ℕ) → rest (Some Start) (components s) ≡ all component (components s)
start_all [] = refl
start_all (x ∷ s) = go (eqb x 46)
  where
    go : (d : Bool) → rest (Some Start) (cond d ([] ∷ components s) (ahead x (components s))) ≡ all component (cond d ([] ∷ components s) (ahead x (components s)))
    go true = refl
    go false = start_ahead x (components s)

rest_dot : (p : Option Part) (s : List ℕ) → rest (after_dot p) (components s) ≡ rest p ([] ∷ components s)
rest_dot (Some Start) s = rest_bad (components s)
rest_dot (Some Zero) s = start_all s
rest_dot (Some Digits) s = start_all s
rest_dot None s = rest_bad (components s)

-- ---- the whole
rest_step : (p : Option Part) (x : ℕ) (s : List ℕ) (d : Bool) → rest (cond d (after_dot p) (cond (digit x) (after_digit (eqb x 48) p) None)) (components s) ≡ rest p (cond d ([] ∷ components s) (ahead x (components s)))
rest_step p x s true = rest_dot p s
rest_step p x s false = rest_ahead p x (components s)

reads_rest : (p : Option Part) (s : List ℕ) → reads p s ≡ rest p (components s)
reads_rest (Some Start) [] = refl
reads_rest (Some Zero) [] = refl
reads_rest (Some Digits) [] = refl
reads_rest None [] = refl
reads_rest p (x ∷ s) = reads_rest (next p x) s ∙ rest_step p x s (eqb x 46)

pub reads_name : (s : List ℕ) → reads (Some Start) s ≡ all component (components s)
reads_name s = reads_rest (Some Start) s ∙ start_all s

-- ---- what the loop's proof cites
pub name_long : (s : List ℕ) → 64 < length s → name_ok s ≡ false
unfolding name_ok
name_long s h = simp (lt-leb _ _ h, and-false)

name_read : (s : List ℕ) → length s ≤ 64 → name_ok s ≡ reads (Some Start) s
unfolding name_ok
name_read [] h = refl
name_read (x ∷ s) h = simp (le-leb 1 (suc (length s)) (omega arith), le-leb _ _ h) (sym (reads_name (x ∷ s)))

-- what a good name has: 64 bytes at most
pub name_short : (s : List ℕ) → name_ok s ≡ true → length s ≤ 64
unfolding name_ok
name_short s e = leb-true (length s) 64 (right_of (leb 1 (length s)) (leb (length s) 64) (left_of (leb 1 (length s) && leb (length s) 64) _ e))

pub long : (s : List ℕ) → 64 < length s → false ≡ name_ok s
long s h = sym (name_long s h)

module _ (s : List ℕ) (p : Part) (i : ℕ) (v : reads (Some p) (drop i s) ≡ reads (Some Start) s) where
  going : (q : Option Part) → q ≡ next (Some p) (get_or s i 0) → i < length s → reads q (drop (i + 1) s) ≡ reads (Some Start) s
  going q e h = rw e (rw (at_cons s i h) at v)

  pub more_read : (q : Part) → Some q ≡ next (Some p) (get_or s i 0) → i < length s → reads (Some q) (drop (i + 1) s) ≡ reads (Some Start) s
  more_read q e h = going (Some q) e h

  pub stopped : None ≡ next (Some p) (get_or s i 0) → i < length s → length s ≤ 64 → false ≡ name_ok s
  stopped e h l = sym (name_read s l ∙ (sym (going None e h) ∙ (reads_rest None (drop (i + 1) s) ∙ rest_bad (components (drop (i + 1) s)))))

  done : length s ≤ 64 → length s ≤ i → ends (Some p) ≡ name_ok s
  done h l = (rw (at_end s i l) at v) ∙ sym (name_read s h)

  pub done_start : p ≡ Start → length s ≤ 64 → length s ≤ i → false ≡ name_ok s
  done_start e h l = sym (ap (λ (q : Part). ends (Some q)) e) ∙ done h l

  pub done_zero : p ≡ Zero → length s ≤ 64 → length s ≤ i → true ≡ name_ok s
  done_zero e h l = sym (ap (λ (q : Part). ends (Some q)) e) ∙ done h l

  pub done_digits : p ≡ Digits → length s ≤ 64 → length s ≤ i → true ≡ name_ok s
  done_digits e h l = sym (ap (λ (q : Part). ends (Some q)) e) ∙ done h l
