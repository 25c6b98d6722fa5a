-- Laws of one record: made of its names, and looked at where it stands in a sheet.
-- Assumes nothing.
use Prim.Native.Nat.{ℕ, zero, suc, ◌+◌, ◌-◌, ◌≤◌, ◌<◌, min}
use native.Mathlib.Omega.{arith}
use native.Mathlib.Nat.{add-sub_cancel_left, sub-zero}
use mathlib.Core.Bool.{Bool, true, false, cond}
use mathlib.Core.List.{List, [], ◌∷◌, ◌++◌, append_assoc, append-nil}
use mathlib.Core.Path.{◌≡◌, refl, sym, ap, ◌∙◌}
use lib.ListN.{length, take, drop, get_or, set, replicate, length-append, length-replicate, length-take, length-drop, replicate-append-replicate}
use lib.Seq.{take_at, drop_at, take-take, take-add, drop-drop, drop-append-add, length-take-le, take_all, get_or-take, get_or-drop}
use lib.Dec.{leb}
use borrow.Author.Rules.{rules}
use borrow.Author.Tests.{le-leb, lt-leb, eq-eqb, ne_eqb, leb-true, leb-false}
use Rattle.laws.specs.Lists.{same_bytes}
use Rattle.octets.specs.Put.{put, Placed}
use Rattle.octets.proofs.PutLaws.{put_out, put_length}
use Rattle.octets.proofs.SliceLaws.{place_from}
use Rattle.sheets.specs.Sheet.{field, record_bytes, record_id, cap, name_in, abstract_of, transfer_of}
use Rattle.sheets.specs.Record.{record_of, record_at, name_at, abstract_at, transfer_at, name_start, same_run}

-- ---- `fill_record`: names put into zeros

-- what is put in behind p
put_behind : (p q a : List ℕ) → put (p ++ q) (length p) a ≡ p ++ (a ++ drop (length a) q)
unfolding put
put_behind p q a = rw (take_at p q (length p) refl, drop-append-add p q (length a))

drop_replicate : (k n v : ℕ) → drop k (replicate n v) ≡ replicate (n - k) v
drop_replicate zero n v = rw (sub-zero n)
drop_replicate (suc k) zero v = let q : 0 - suc k ≡ 0 = omega arith in rw q
drop_replicate (suc k) (suc n) v = let q : suc n - suc k ≡ n - k = omega arith in rw q (drop_replicate k n v)

-- a name put into zeros, n of them behind its field
pub name_put : (p a : List ℕ) (n : ℕ) → length a ≤ 64 → put (p ++ replicate (64 + n) 0) (length p) a ≡ (p ++ field a) ++ replicate n 0
name_put p a n h =
    let q : 64 + n - length a ≡ (64 - length a) + n = omega arith in
    put_behind p (replicate (64 + n) 0) a
    ∙ (rw (drop_replicate (length a) (64 + n) 0, q, ← replicate-append-replicate {A = ℕ} (64 - length a) n 0) (simp append_assoc))

field_behind : (p a : List ℕ) → length a ≤ 64 → length (p ++ field a) ≡ length p + 64
field_behind p a h = simp (length-append, length-replicate) (omega arith)

pub field_length : (a : List ℕ) → length a ≤ 64 → length (field a) ≡ 64
field_length a h = simp (length-append, length-replicate) (omega arith)

pub record_length : (id result : ℕ) (a x : List ℕ) → length a ≤ 64 → length x ≤ 64 → length (record_bytes id result a x) ≡ 132
unfolding record_bytes
record_length id result a x h l = let p = field_length a h in let q = field_length x l in let r = length-append (field a) (field x) in omega arith

-- the first four bytes, and zeros
abbrev head : ℕ → ℕ → List ℕ → List ℕ → List ℕ
head id result a x = set (set (set (set (replicate 132 0) 0 id) 1 result) 2 (length a)) 3 (length x)

pub record_done : (id result : ℕ) (a x m r : List ℕ) (i j : ℕ) → Placed (set (set (set (set (replicate 132 0) 0 id) 1 result) 2 (length a)) 3 (length x)) 4 a i m → Placed m 68 x j r
    → length a ≤ 64 → length x ≤ 64 → r ≡ record_bytes id result a x
unfolding record_bytes
record_done id result a x m r i j e f h l =
    let p : List ℕ = id ∷ result ∷ length a ∷ length x ∷ [] in
    let at : m ≡ put (head id result a x) 4 a = put_out (head id result a x) 4 a e (omega arith) in
    let one : m ≡ (p ++ field a) ++ replicate 64 0 = at ∙ name_put p a 64 h in
    let long : length m ≡ 132 = ap length at ∙ put_length (head id result a x) 4 a (omega arith) in
    let two : put ((p ++ field a) ++ replicate 64 0) 68 x ≡ ((p ++ field a) ++ field x) ++ [] = rw (← field_behind p a h) (name_put (p ++ field a) x 0 l) in
    put_out m 68 x f (omega arith) ∙ (rw one (two ∙ simp (append-nil, append_assoc)))

pub ruleset fill_laws = (rules, record_done)

-- ---- `cut`, `record_of`
pub cut_is : (n : List ℕ) (k : ℕ) → k ≡ min (length n) 64 → take k n ≡ take 64 n
cut_is n k e = go (leb (length n) 64) refl
  where
    go : (b : Bool) → leb (length n) 64 ≡ b → take k n ≡ take 64 n
    go true q = let h = leb-true (length n) 64 q in take_all k n (omega arith) ∙ sym (take_all 64 n h)
    go false q = let h = leb-false (length n) 64 q in let i : k ≡ 64 = omega arith in rw i

pub cut_short : (n : List ℕ) → length (take 64 n) ≤ 64
cut_short n = omega (arith, length-take 64 n)

-- as the caller has it
pub cut_fits : (n c : List ℕ) → c ≡ take 64 n → length c ≤ 64
cut_fits n c e = rw e (cut_short n)

pub ruleset cut_laws = (rules, cut_is)

pub record_is : (id result : ℕ) (a x b y r : List ℕ) → b ≡ take 64 a → y ≡ take 64 x → r ≡ record_bytes id result b y → r ≡ record_of id result a x
unfolding record_of
record_is id result a x b y r p q e = e ∙ rw (p, q)

pub ruleset record_laws = (rules, cut_fits, record_is)

-- for names that fit, `record_of` gives the record of document 01
pub record_whole : (id result : ℕ) (a x : List ℕ) → length a ≤ 64 → length x ≤ 64 → record_of id result a x ≡ record_bytes id result a x
unfolding record_of
record_whole id result a x h l = rw (take_all 64 a h, take_all 64 x l)

-- ---- the parts of a record
pub cap_low : (n : ℕ) → n ≤ 64 → n ≡ cap n
unfolding cap
cap_low n h = simp (le-leb n 64 h)

pub cap_is : (n k : ℕ) → k ≡ min n 64 → k ≡ cap n
unfolding cap
cap_is n k e = go (leb n 64) refl
  where
    go : (b : Bool) → leb n 64 ≡ b → k ≡ cond b n 64
    go true q = let h = leb-true n 64 q in omega arith
    go false q = let h = leb-false n 64 q in omega arith

-- the name in a record of k bytes, and a byte of it, as bytes of the sheet
pub in_record : (n b k : ℕ) (l : List ℕ) → n ≤ k → b ≤ length l → take n (drop b (take (b + k) l)) ≡ take n (drop b l)
in_record n b k l h g = ap (take n) (ap (drop b) (take-add b k l) ∙ drop_at (take b l) (take k (drop b l)) b (length-take-le b l g)) ∙ take-take n k (drop b l) h

pub byte_here : (k : ℕ) (s : List ℕ) (at j : ℕ) → j < k → get_or (take k (drop at s)) j 0 ≡ get_or s (at + j) 0
byte_here k s at j h = get_or-take k (drop at s) j 0 h ∙ get_or-drop at s j 0

-- a name that a record gives fits its field
pub cap_most : (n : ℕ) → cap n ≤ 64
unfolding cap
cap_most n = go (leb n 64) refl
  where
    go : (b : Bool) → leb n 64 ≡ b → cond b n 64 ≤ 64
    go true q = leb-true n 64 q
    go false q = omega arith

pub cut_at : (n : ℕ) (l : List ℕ) → length (take (cap n) l) ≤ 64
cut_at n l = let c = cap_most n in omega (arith, length-take (cap n) l)

pub transfer_most : (r : List ℕ) → length (transfer_of r) ≤ 64
unfolding transfer_of
transfer_most r = cut_at (get_or r 3 0) (drop 68 r)

name_short : (l b : ℕ) (s : List ℕ) (at : ℕ) → length (name_at l b s at) ≤ 64
unfolding name_at
name_short l b s at = go (leb (at + 132) (length s))
  where
    go : (d : Bool) → length (cond d (name_in l b (record_at s at)) []) ≤ 64
    go true = cut_at (get_or (record_at s at) l 0) (drop b (record_at s at))
    go false = omega arith

pub abstract_short : (s : List ℕ) (at : ℕ) → length (abstract_at s at) ≤ 64
unfolding abstract_at
abstract_short = name_short 2 4

pub transfer_short : (s : List ℕ) (at : ℕ) → length (transfer_at s at) ≤ 64
unfolding transfer_at
transfer_short = name_short 3 68

-- ---- the record at a place
module _ (s : List ℕ) (at : ℕ) where
  pub abstract_here : at + 132 ≤ length s → abstract_at s at ≡ abstract_of (record_at s at)
  unfolding abstract_at name_at abstract_of
  abstract_here h = simp (le-leb (at + 132) (length s) h)

  pub transfer_here : at + 132 ≤ length s → transfer_at s at ≡ transfer_of (record_at s at)
  unfolding transfer_at name_at transfer_of
  transfer_here h = simp (le-leb (at + 132) (length s) h)

  -- none stands there
  pub start_none : (k : ℕ) → length s < at + 132 → 0 ≡ name_start s at k
  unfolding name_start
  start_none k h = simp (lt-leb (at + 132) (length s) h)

  pub name_none : (l b : ℕ) → length s < at + 132 → [] ≡ name_at l b s at
  unfolding name_at
  name_none l b h = simp (lt-leb (at + 132) (length s) h)

  module _ (h : 132 ≤ length s) (k : at ≤ length s - 132) where
    pub start_here : (b : ℕ) → at + b ≡ name_start s at b
    unfolding name_start
    start_here b = simp (le-leb (at + 132) (length s) (omega arith))

    pub name_found : (l b n : ℕ) → l < 4 → b ≤ 68 → n ≡ cap (get_or s (at + l) 0) → n ≤ 64 → take (at + b + n - (at + b)) (drop (at + b) s) ≡ name_at l b s at
    unfolding name_at
    name_found l b n i j e m =
        let q : 132 ≡ b + (132 - b) = omega arith in
        rw (add-sub_cancel_left, le-leb (at + 132) (length s) (omega arith), byte_here 132 s at l (omega arith), ← e, ← drop-drop b at s)
        (sym (ap (λ (w : ℕ). take n (drop b (take w (drop at s)))) q ∙ in_record n b (132 - b) (drop at s) (omega arith) (omega (arith, length-drop at s))))

pub ruleset at_laws = (rules, start_none, name_none, start_here, name_found, place_from)

-- ---- a record by itself
module _ (r : List ℕ) (h : length r ≡ 132) where
  whole : record_at r 0 ≡ r
  whole = take_all 132 r (omega arith)

  pub abstract_first : abstract_at r 0 ≡ abstract_of r
  abstract_first = abstract_here r 0 (omega arith) ∙ ap abstract_of whole

  pub transfer_first : transfer_at r 0 ≡ transfer_of r
  transfer_first = transfer_here r 0 (omega arith) ∙ ap transfer_of whole

-- ---- `same_run`, `goes_on`
module _ (r q : List ℕ) where
  pub same_not : (record_id r ≡ record_id q → ⊥) → false ≡ same_run r q
  unfolding same_run
  same_not n = simp (ne_eqb _ _ n)

  pub same_names : (a b : List ℕ) (d : Bool) → length r ≡ 132 → length q ≡ 132 → record_id r ≡ record_id q → a ≡ abstract_at r 0 → b ≡ abstract_at q 0 → d ≡ same_bytes a b → d ≡ same_run r q
  unfolding same_run
  same_names a b d h l i e f t = t ∙ rw (e, f, abstract_first r h, abstract_first q l) (simp (eq-eqb _ _ i))

pub ruleset same_laws = (rules, same_not, same_names)
