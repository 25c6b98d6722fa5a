-- Laws of a set of IDs: what each function answers, and that the IDs of a set determine its words.
-- Assumes nothing.
use Prim.Native.Nat.{ℕ, zero, suc, ◌+◌, ◌*◌, ◌/◌, ◌%◌, ◌^◌, ◌<◌}
use native.Mathlib.Nat.{zero-div}
use native.Mathlib.Omega.{arith}
use mathlib.Core.Bool.{Bool, true, false, ◌||◌}
use mathlib.Core.List.{List, [], ◌∷◌}
use mathlib.Core.Path.{◌≡◌, refl, sym, ap, ◌∙◌, subst}
use lib.Arith.{digits_div, digits_mod}
use lib.Bits.{bit_and, bit_or, bit_xor, and_mask, or_lt, xor_lt}
use borrow.Author.Rules.{rules}
use lib.Pow.{shl_exact}
use lib.Dec.{eqb}
use lib.ListN.{length, get_or, set, length-set}
use lib.Seq.{get_or-set_same, get_or-set_other, ext_get_or}
use borrow.Author.Tests.{eq-eqb, ne_eqb, eqb-true, eqb-false}
use Rattle.octets.specs.Octets.{odd}
use Rattle.id_set.specs.IdSet.{is_in, Words, Empty, With}
use Rattle.id_set.proofs.BitLaws.{bit_or_so, bit_power, same_bits}

-- ---- `empty`
abbrev no_words : List ℕ
no_words = 0 ∷ 0 ∷ 0 ∷ 0 ∷ []

no_word : (k : ℕ) → get_or no_words k 0 ≡ 0
no_word zero = refl
no_word (suc zero) = refl
no_word (suc (suc zero)) = refl
no_word (suc (suc (suc zero))) = refl
no_word (suc (suc (suc (suc k)))) = refl

pub empty_is : Empty no_words
unfolding is_in
empty_is = record {
  words = record { four = refl; fit = λ k. rw (no_word k) (omega arith) };
  none = λ n. ap (λ (w : ℕ). odd (w / 2 ^ (n % 64))) (no_word (n / 64)) ∙ ap odd (zero-div (2 ^ (n % 64)));
}

-- ---- `contains`
pub has_is : (m : List ℕ) (id : ℕ) → eqb (bit_and (get_or m (id / 64) 0 / 2 ^ (id % 64)) 1) 1 ≡ is_in id m
unfolding is_in
has_is m id = ap (λ (n : ℕ). eqb n 1) (and_mask (get_or m (id / 64) 0 / 2 ^ (id % 64)) 1)

-- ---- `insert`
bit_of : (id : ℕ) → 1 * 2 ^ (id % 64) % 18446744073709551616 ≡ 1 * 2 ^ (id % 64)
bit_of id = shl_exact {a = 1} 1 (id % 64) 64 (omega arith) (omega arith)

-- in one word, equal bits are equal IDs
one_word : (n id : ℕ) → n / 64 ≡ id / 64 → eqb (n % 64) (id % 64) ≡ eqb n id
one_word n id e = go (eqb n id) refl
  where
    go : (b : Bool) → eqb n id ≡ b → eqb (n % 64) (id % 64) ≡ b
    go true q = eq-eqb (n % 64) (id % 64) (ap (λ (k : ℕ). k % 64) (eqb-true n id q))
    go false q = ne_eqb (n % 64) (id % 64) (λ f. eqb-false n id q (omega arith))

or_turned : (a b : Bool) → (a || b) ≡ (b || a)
or_turned true true = refl
or_turned true false = refl
or_turned false true = refl
or_turned false false = refl

-- a set keeps its form, whatever is put into one of its words
pub words_set : {w : List ℕ} {i v : ℕ} → Words w → i < 4 → v < 2 ^ 64 → Words (set w i v)
words_set {w} {i} {v} f h l = record { four = length-set w i v ∙ f.four; fit = fit }
  where
    fit : (k : ℕ) → get_or (set w i v) k 0 < 2 ^ 64
    fit k = go (eqb k i) refl
      where
        go : (b : Bool) → eqb k i ≡ b → get_or (set w i v) k 0 < 2 ^ 64
        go true q = subst (λ (n : ℕ). get_or (set w i v) n 0 < 2 ^ 64) (sym (eqb-true k i q)) (subst (λ (n : ℕ). n < 2 ^ 64) (sym (get_or-set_same w i v 0 (let e = f.four in omega arith))) l)
        go false q = subst (λ (n : ℕ). n < 2 ^ 64) (sym (get_or-set_other w i k v 0 (eqb-false k i q))) (f.fit k)

-- what is put there fits: a word of the set, with another by `|` or by `^`
pub word_fits : {w : List ℕ} (k : ℕ) → Words w → get_or w k 0 < 2 ^ 64
word_fits k f = f.fit k

pub or_fits : (a b : ℕ) → a < 2 ^ 64 → b < 2 ^ 64 → bit_or a b < 2 ^ 64
or_fits = or_lt 64

pub xor_fits : (a b : ℕ) → a < 2 ^ 64 → b < 2 ^ 64 → bit_xor a b < 2 ^ 64
xor_fits = xor_lt 64

pub ruleset kept_laws = (rules, words_set, word_fits, or_fits, xor_fits)

module _ (m : List ℕ) (id : ℕ) where
  -- the word of the ID with its bit, and the set with that word
  abbrev bit_on : ℕ
  bit_on = bit_or (get_or m (id / 64) 0) (1 * 2 ^ (id % 64) % 18446744073709551616)

  abbrev more : List ℕ
  more = set m (id / 64) bit_on

  module _ (s : id < 256) (w : Words m) where
    here : id / 64 < length m
    here = let l : length m ≡ 4 = w.four in omega arith

    bit_fits : 1 * 2 ^ (id % 64) % 18446744073709551616 < 2 ^ 64
    bit_fits = omega arith

    ids : (n : ℕ) → is_in n more ≡ (eqb n id || is_in n m)
    unfolding is_in
    ids n = go (eqb (n / 64) (id / 64)) refl
      where
        go : (b : Bool) → eqb (n / 64) (id / 64) ≡ b → is_in n more ≡ (eqb n id || is_in n m)
        go true q =
            let e : n / 64 ≡ id / 64 = eqb-true _ _ q in
            rw (e, get_or-set_same m (id / 64) bit_on 0 here, bit_or_so (get_or m (id / 64) 0) (1 * 2 ^ (id % 64) % 18446744073709551616) (n % 64), bit_of id, bit_power (id % 64) (n % 64), one_word n id e)
            (or_turned (odd (get_or m (id / 64) 0 / 2 ^ (n % 64))) (eqb n id))
        go false q =
            rw (get_or-set_other m (id / 64) (n / 64) bit_on 0 (eqb-false _ _ q), ne_eqb n id (λ f. eqb-false _ _ q (ap (λ (k : ℕ). k / 64) f)))

    with_is : With m id more
    with_is = record { words = words_set w (omega arith) (or_lt 64 (get_or m (id / 64) 0) _ (w.fit (id / 64)) bit_fits); ids = ids }

-- the same for a set by reference, seen as m, whose words are w
pub inserted : {m w : List ℕ} (id : ℕ) → w ≡ m → id < 256 → Words w
    → With m id (set w (id / 64) (bit_or (get_or w (id / 64) 0) (1 * 2 ^ (id % 64) % 18446744073709551616)))
inserted {m} {w} id e s f = subst (λ (n : List ℕ). With n id (more w id)) e (with_is w id s f)

-- ---- two sets with the same IDs are one
same_word : (a b : List ℕ) → Words a → Words b → ((n : ℕ) → is_in n a ≡ is_in n b) → (k : ℕ) → get_or a k 0 ≡ get_or b k 0
unfolding is_in
same_word a b v w f k = same_bits 64 (get_or a k 0) (get_or b k 0) (v.fit k) (w.fit k) (λ j h. at j h)
  where
    at : (j : ℕ) → j < 64 → odd (get_or a k 0 / 2 ^ j) ≡ odd (get_or b k 0 / 2 ^ j)
    at j h = let g : is_in (k * 64 + j) a ≡ is_in (k * 64 + j) b = f (k * 64 + j) in rw (digits_div k h, digits_mod k h) at g

pub same_set : (a b : List ℕ) → Words a → Words b → ((n : ℕ) → is_in n a ≡ is_in n b) → a ≡ b
same_set a b v w f = ext_get_or 0 a b (v.four ∙ sym w.four) (λ k h. same_word a b v w f k)
