-- Which kind a PDU is: what the code tests of it, and what a kind tells.
-- Assumes nothing.
use Prim.Native.Nat.{ℕ, ◌+◌, ◌-◌, ◌≤◌, ◌<◌}
use native.Mathlib.Omega.{arith}
use mathlib.Core.Bool.{Bool, true, false, ◌&&◌, cond, and-false}
use mathlib.Core.List.{List, []}
use mathlib.Core.Path.{◌≡◌, refl, sym, ap, ◌∙◌}
use lib.ListN.{length, take, drop, get_or}
use lib.Dec.{leb, eqb}
use borrow.Author.Rules.{rules}
use borrow.Author.Tests.{le-leb, lt-leb, leb-true, leb-false, eq-eqb, ne_eqb, eqb-true, eqb-false}
use Rattle.laws.proofs.Booleans.{left_of, right_of, both_of}
use Rattle.laws.proofs.Places.{part_tail}
use Rattle.octets.specs.Octets.{be16, be32, odd}
use Rattle.titles.specs.Title.{title_ok}
use Rattle.contents.specs.Contents.{items_ok, maximum_in}
use Rattle.std.specs.Bool.{then_some}
use Rattle.numbers.specs.declared.kinds.Kind.{Kind}
use Rattle.numbers.specs.Kinds.{type_byte, kind_number}
use Rattle.judging.specs.Pdu.{pdu_length, whole, request_ok, accept_ok, reject_pdu_ok, abort_pdu_ok, valid_as, kind_of, acceptable}

-- ---- `is_whole`
module _ (x : List ℕ) where
  pub whole_short : length x < 6 → false ≡ whole x
  unfolding whole
  whole_short h = simp (ne_eqb (length x) (6 + pdu_length x) (λ e. omega arith))

  module _ (n : ℕ) (h : 6 ≤ length x) (p : n ≡ be32 x 2) where
    pub whole_other : (length x - 6 ≡ n → ⊥) → false ≡ whole x
    unfolding whole
    whole_other q = simp (ne_eqb (length x) (6 + pdu_length x) (λ e. q (omega arith)))

    pub whole_is : length x - 6 ≡ n → leb n 16384 ≡ whole x
    unfolding whole
    whole_is q = simp (eq-eqb (length x) (6 + pdu_length x) (omega arith)) (ap (λ (k : ℕ). leb k 16384) p)

pub ruleset whole_laws = (rules, whole_short, whole_other, whole_is)

-- a PDU whose PDU-length is true and at most 16,384
pub whole_of : (x : List ℕ) → length x ≡ 6 + pdu_length x → pdu_length x ≤ 16384 → whole x ≡ true
unfolding whole
whole_of x e h = both_of _ _ (eq-eqb (length x) (6 + pdu_length x) e) (le-leb (pdu_length x) 16384 h)

-- ---- what a whole PDU has
module _ (x : List ℕ) (w : whole x ≡ true) where
  pub whole_length : length x ≡ 6 + pdu_length x
  unfolding whole
  whole_length = eqb-true _ _ (left_of _ (leb (pdu_length x) 16384) w)

  pub whole_limit : pdu_length x ≤ 16384
  unfolding whole
  whole_limit = leb-true _ _ (right_of (eqb (length x) (6 + pdu_length x)) _ w)

  pub whole_six : 6 ≤ length x
  whole_six = let l = whole_length in omega arith

  -- the PDU-length, by the length of the bytes
  pub below_68 : length x < 74 → leb 68 (pdu_length x) ≡ false
  below_68 h = let l = whole_length in lt-leb 68 (pdu_length x) (omega arith)

  pub from_68 : 74 ≤ length x → leb 68 (pdu_length x) ≡ true
  from_68 h = let l = whole_length in le-leb 68 (pdu_length x) (omega arith)

  pub four_not : (length x ≡ 10 → ⊥) → eqb (pdu_length x) 4 ≡ false
  four_not h = let l = whole_length in ne_eqb (pdu_length x) 4 (λ e. h (omega arith))

  pub four_is : length x ≡ 10 → eqb (pdu_length x) 4 ≡ true
  four_is h = let l = whole_length in eq-eqb (pdu_length x) 4 (omega arith)

  pub ten_four : eqb (length x) 10 ≡ eqb (pdu_length x) 4
  ten_four = go (eqb (length x) 10) refl
    where
      go : (d : Bool) → eqb (length x) 10 ≡ d → d ≡ eqb (pdu_length x) 4
      go true q = sym (four_is (eqb-true _ _ q))
      go false q = sym (four_not (eqb-false (length x) 10 q))

  -- an RQ or AC behind its fixed fields, as the code has the bytes there
  pub request_is : 74 ≤ length x → title_ok (take 16 (drop 10 x)) ≡ true → title_ok (take 16 (drop 26 x)) ≡ true → items_ok 0x20 (take (length x - 74) (drop 74 x)) ≡ request_ok x
  unfolding request_ok
  request_is h t u = rw (from_68 h, t, u, part_tail 74 x)

  pub accept_is : 74 ≤ length x → odd (be16 x 6) ≡ true → items_ok 0x21 (take (length x - 74) (drop 74 x)) ≡ accept_ok x
  unfolding accept_ok
  accept_is h v = rw (from_68 h, v, part_tail 74 x)

-- ---- no type but the seven is valid
others : (x : List ℕ) (t : ℕ) → (leb 1 t && leb t 7) ≡ false → valid_as t x ≡ false
unfolding valid_as
others x t h =
    simp (
      ne_eqb t 1 (λ e. not_in e h refl),
      ne_eqb t 2 (λ e. not_in e h refl),
      ne_eqb t 3 (λ e. not_in e h refl),
      ne_eqb t 4 (λ e. not_in e h refl),
      ne_eqb t 5 (λ e. not_in e h refl),
      ne_eqb t 6 (λ e. not_in e h refl),
      ne_eqb t 7 (λ e. not_in e h refl),
    )
  where
    not_in : {k : ℕ} → t ≡ k → (leb 1 t && leb t 7) ≡ false → (leb 1 k && leb k 7) ≡ true → ⊥
    not_in e q p = cc

-- ---- `kind_of`
module _ (x : List ℕ) where
  pub not_whole : whole x ≡ false → 0 ≡ kind_of x
  unfolding kind_of
  not_whole h = rw h

  pub no_type : (leb 1 (get_or x 0 0) && leb (get_or x 0 0) 7) ≡ false → 0 ≡ kind_of x
  unfolding kind_of
  no_type h = rw (others x (get_or x 0 0) h, and-false (whole x))

  pub of_type : whole x ≡ true → (k : Kind) → type_byte k ≡ get_or x 0 0 → (v : Bool) → v ≡ valid_as (type_byte k) x → kind_number (then_some v k) ≡ kind_of x
  unfolding kind_of
  of_type w k t v e = rw (w, ← t, ← e) (go v)
    where
      go : (b : Bool) → kind_number (then_some b k) ≡ cond b (type_byte k) 0
      go true = refl
      go false = refl

pub ruleset kind_laws = (not_whole, no_type, of_type, whole_six)

-- ---- what a kind tells
module _ (x : List ℕ) where
  -- a whole PDU of that type, valid as such
  both : (k : ℕ) → kind_of x ≡ k → (k ≡ 0 → ⊥) → ((whole x && valid_as (get_or x 0 0) x) ≡ true) × (get_or x 0 0 ≡ k)
  unfolding kind_of
  both k e n = go (whole x && valid_as (get_or x 0 0) x) e
    where
      go : (b : Bool) → cond b (get_or x 0 0) 0 ≡ k → (b ≡ true) × (get_or x 0 0 ≡ k)
      go true q = (refl, q)
      go false q = absurd (n (sym q))

  pub kind_whole : (k : ℕ) → kind_of x ≡ k → (k ≡ 0 → ⊥) → whole x ≡ true
  kind_whole k e n = left_of _ _ (both k e n).0

  pub kind_type : (k : ℕ) → kind_of x ≡ k → (k ≡ 0 → ⊥) → get_or x 0 0 ≡ k
  kind_type k e n = (both k e n).1

  pub kind_valid : (k : ℕ) → kind_of x ≡ k → (k ≡ 0 → ⊥) → valid_as k x ≡ true
  kind_valid k e n = ap (λ (t : ℕ). valid_as t x) (sym (kind_type k e n)) ∙ right_of (whole x) _ (both k e n).0

  -- and the other way: a whole PDU that is valid as its type
  pub kind_of_valid : (k : ℕ) → whole x ≡ true → get_or x 0 0 ≡ k → valid_as k x ≡ true → kind_of x ≡ k
  unfolding kind_of
  kind_of_valid k w t v = rw (t, w, v)

  pub kind_request : kind_of x ≡ 1 → request_ok x ≡ true
  unfolding valid_as
  kind_request e = kind_valid 1 e (λ z. omega arith)

  pub kind_accept : kind_of x ≡ 2 → accept_ok x ≡ true
  unfolding valid_as
  kind_accept e = kind_valid 2 e (λ z. omega arith)

  pub kind_reject : kind_of x ≡ 3 → reject_pdu_ok x ≡ true
  unfolding valid_as
  kind_reject e = kind_valid 3 e (λ z. omega arith)

  pub kind_abort : kind_of x ≡ 7 → abort_pdu_ok x ≡ true
  unfolding valid_as
  kind_abort e = kind_valid 7 e (λ z. omega arith)

  past : (t : ℕ) → 8 ≤ t → (leb 1 t && leb t 7) ≡ false
  past t h = rw (lt-leb t 7 (omega arith), and-false (leb 1 t))

  small : (b : Bool) (t : ℕ) → t < 8 → cond b t 0 < 8
  small true t h = h
  small false t h = omega arith

  pub kind_below : kind_of x < 8
  unfolding kind_of
  kind_below = go (leb 8 (get_or x 0 0)) refl
    where
      go : (b : Bool) → leb 8 (get_or x 0 0) ≡ b → cond (whole x && valid_as (get_or x 0 0) x) (get_or x 0 0) 0 < 8
      go true q = rw (others x (get_or x 0 0) (past (get_or x 0 0) (leb-true _ _ q)), and-false (whole x)) (omega arith)
      go false q = let h : get_or x 0 0 < 8 = leb-false _ _ q in small (whole x && valid_as (get_or x 0 0) x) (get_or x 0 0) h

  -- an RQ or AC has its fixed fields
  pub request_long : kind_of x ≡ 1 → 74 ≤ length x
  unfolding request_ok
  request_long e =
      let g : 68 ≤ pdu_length x = leb-true _ _ (left_of _ (title_ok (take 16 (drop 10 x)) && (title_ok (take 16 (drop 26 x)) && items_ok 0x20 (drop 74 x))) (kind_request e)) in
      let l = whole_length x (kind_whole 1 e (λ z. omega arith)) in
      omega arith

  pub accept_long : kind_of x ≡ 2 → 74 ≤ length x
  unfolding accept_ok
  accept_long e =
      let g : 68 ≤ pdu_length x = leb-true _ _ (left_of _ (odd (be16 x 6) && items_ok 0x21 (drop 74 x)) (kind_accept e)) in
      let l = whole_length x (kind_whole 2 e (λ z. omega arith)) in
      omega arith

  pub request_items : kind_of x ≡ 1 → items_ok 0x20 (drop 74 x) ≡ true
  unfolding request_ok
  request_items e = right_of (title_ok (take 16 (drop 26 x))) _ (right_of (title_ok (take 16 (drop 10 x))) _ (right_of (leb 68 (pdu_length x)) _ (kind_request e)))

  pub accept_items : kind_of x ≡ 2 → items_ok 0x21 (drop 74 x) ≡ true
  unfolding accept_ok
  accept_items e = right_of (odd (be16 x 6)) _ (right_of (leb 68 (pdu_length x)) _ (kind_accept e))

-- ---- `maximum_of`: the bytes behind the fixed ones, as the code has them
pub max_part : (r : ℕ) (x : List ℕ) → r ≡ maximum_in (take (length x - 74) (drop 74 x)) → r ≡ maximum_in (drop 74 x)
max_part r x e = e ∙ rw (part_tail 74 x)

-- ---- no bytes are no PDU
pub kind_none : kind_of [] ≡ 0
unfolding kind_of whole be32 be16
kind_none = refl

pub acceptable_none : acceptable [] ≡ false
unfolding acceptable
acceptable_none = rw kind_none

pub ruleset asked_laws = (request_long, accept_long, max_part)
