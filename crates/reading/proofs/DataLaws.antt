-- Reading a PDV by its number: PDV n of the list is what stands behind those before it, and its fragment is its own part of the PDU.
-- Assumes nothing.
use Prim.Native.Nat.{ℕ, zero, suc, ◌+◌, ◌-◌, ◌≤◌, ◌<◌}
use native.Mathlib.Omega.{arith}
use native.Mathlib.Numerals.{add-one}
use mathlib.Core.Bool.{Bool, true, false}
use mathlib.Core.List.{List, [], ◌∷◌}
use mathlib.Core.Path.{◌≡◌, refl, sym, ap, ◌∙◌}
use lib.ListN.{length, take, drop, get_or, length-drop, drop_of_length-le}
use lib.Seq.{drop-drop, take_all, length-take-le, get_or-drop}
use lib.Dec.{ltb, eqb}
use Rattle.std.specs.Prelude.{None, Some, Result, Ok, Err}
use borrow.Author.Tests.{lt-ltb, le-ltb, ltb-true, ne_eqb, eqb-true, eqb-false}
use Rattle.laws.proofs.Places.{part_tail}
use Rattle.numbers.specs.declared.refusals.Refusal.{Refusal}
use Rattle.numbers.specs.Refusals.{refusal_number, refusal_in}
use Rattle.numbers.proofs.NumberLaws.{refusal_some, answer_once}
use Rattle.pdvs.specs.Data.{Pdv, pdvs, size, pdv_end, item_end}
use Rattle.judging.specs.Pdu.{kind_of}
use Rattle.pdvs.proofs.DataLaws.{pdv_at, PdvItem, pdv_more, pdv_stop}
use Rattle.pdvs.proofs.EndLaws.{item_there, item_none}
use Rattle.judging.proofs.KindLaws.{whole_six, kind_whole}
use Rattle.reading.specs.Data.{pdvs_of, pdv, start_of, DataRead, no_data, data_of, data_as, fragment_of}
use Rattle.reading.specs.declared.data.Pdv.{Pdv as Told}

-- ---- lists
pub size_more : (ps : List Pdv) (k : ℕ) (p : Pdv) (qs : List Pdv) → drop k ps ≡ p ∷ qs → size (take (suc k) ps) ≡ size (take k ps) + (6 + length p.fragment)
size_more [] zero p qs e = let z : ◌≡◌ {A = ℕ} 0 1 = cc in absurd (omega arith)
size_more [] (suc k) p qs e = let z : ◌≡◌ {A = ℕ} 0 1 = cc in absurd (omega arith)
size_more (q ∷ ps) zero p qs e = let z : q ≡ p = cc in rw z (omega arith)
size_more (q ∷ ps) (suc k) p qs e = let h = size_more ps k p qs e in omega arith

drop_more : (ps : List Pdv) (k : ℕ) (p : Pdv) (qs : List Pdv) → drop k ps ≡ p ∷ qs → drop (suc k) ps ≡ qs
drop_more ps k p qs e = rw (← add-one k, ← drop-drop 1 k ps, e)

run_out : (ps : List Pdv) (k : ℕ) → drop k ps ≡ [] → length ps ≤ k
run_out ps k e = let l : length (drop k ps) ≡ length ps - k = length-drop k ps in let z : length (drop k ps) ≡ 0 = rw e in omega arith

take_past : (ps : List Pdv) (k n : ℕ) → drop k ps ≡ [] → k ≤ n → take n ps ≡ take k ps
take_past ps k n e h = let l = run_out ps k e in take_all n ps (omega arith) ∙ sym (take_all k ps l)

-- ---- the PDVs from PDV k on stand behind the first k: one further
module _ (s : List ℕ) (k at : ℕ) (a : at ≡ size (take k (pdvs s))) (ih : drop k (pdvs s) ≡ pdvs (drop at s)) where
  onwards : (d : Bool) → eqb (pdv_end s at) 0 ≡ d → drop (suc k) (pdvs s) ≡ pdvs (drop (size (take (suc k) (pdvs s))) s)
  onwards true q =
      let none : pdvs (drop at s) ≡ [] = pdv_stop s at (pdv_end s at) refl (eqb-true _ _ q) in
      let e : drop k (pdvs s) ≡ [] = ih ∙ none in
      let l = run_out (pdvs s) k e in
      let w : take (suc k) (pdvs s) ≡ take k (pdvs s) = take_past (pdvs s) k (suc k) e (omega arith) in
      let m : length (pdvs s) ≤ suc k = omega arith in
      drop_of_length-le (pdvs s) m ∙ sym (rw (w, ← a) none)
  onwards false q =
      let i = pdv_more s at (pdv_end s at) refl (eqb-false (pdv_end s at) 0 q) in
      let e : drop k (pdvs s) ≡ pdv_at s at (pdv_end s at) ∷ pdvs (drop (pdv_end s at) s) = ih ∙ i.eq in
      let w = size_more (pdvs s) k (pdv_at s at (pdv_end s at)) (pdvs (drop (pdv_end s at) s)) e in
      let l = length-drop (at + 6) s in
      let f : length (take (pdv_end s at - (at + 6)) (drop (at + 6) s)) ≡ pdv_end s at - (at + 6) = length-take-le (pdv_end s at - (at + 6)) (drop (at + 6) s) (omega arith) in
      let z : size (take (suc k) (pdvs s)) ≡ pdv_end s at = omega arith in
      drop_more (pdvs s) k (pdv_at s at (pdv_end s at)) (pdvs (drop (pdv_end s at) s)) e ∙ rw z

pub reach : (s : List ℕ) (k : ℕ) → drop k (pdvs s) ≡ pdvs (drop (size (take k (pdvs s))) s)
reach s zero = refl
reach s (suc k) = onwards s k (size (take k (pdvs s))) refl (reach s k) (eqb (pdv_end s (size (take k (pdvs s)))) 0) refl

-- what `pdv_end` finds behind the first n tells whether there is a PDV n
module _ (s : List ℕ) (n at e : ℕ) (a : at ≡ size (take n (pdvs s))) (p : e ≡ pdv_end s at) where
  from_here : drop n (pdvs s) ≡ pdvs (drop at s)
  from_here = rw a (reach s n)

  pub no_pdv : e ≡ 0 → drop n (pdvs s) ≡ []
  no_pdv z = from_here ∙ pdv_stop s at e p z

  module _ (ne : e ≡ 0 → ⊥) where
    pub the_pdv : drop n (pdvs s) ≡ pdv_at s at e ∷ pdvs (drop e s)
    the_pdv = from_here ∙ (pdv_more s at e p ne).eq

    pub pdv_there : n < length (pdvs s)
    pdv_there = let l = length-drop n (pdvs s) in let c = ap length the_pdv in omega arith

    pub pdv_is : pdv (pdvs s) n ≡ pdv_at s at e
    unfolding pdv
    pdv_is =
        let z : n + 0 ≡ n = omega arith in
        let d : Pdv = record { id = 0; control = 0; fragment = [] } in
        ap (λ (m : ℕ). get_or (pdvs s) m d) (sym z) ∙ (sym (get_or-drop n (pdvs s) 0 d) ∙ ap (λ (l : List Pdv). get_or l 0 d) the_pdv)

-- ---- `pdv_place`
pub record Reaching (number : ℕ) (s : List ℕ) (at k : ℕ) : Type 0 where
  pub place : at ≡ size (take k (pdvs s))
  pub below : k ≤ number

pub reach_start : (number : ℕ) (s : List ℕ) → Reaching number s 0 0
reach_start number s = record { place = refl; below = omega arith }

module _ (number : ℕ) (s : List ℕ) (at k : ℕ) (w : Reaching number s at k) where
  pub reach_done : number ≤ k → at ≡ size (take number (pdvs s))
  reach_done h = let b = w.below in let z : k ≡ number = omega arith in rw (← z) w.place

  pub reach_stop : k < number → None ≡ item_end s at → at ≡ size (take number (pdvs s))
  reach_stop h p = w.place ∙ ap size (sym (take_past (pdvs s) k number (no_pdv s k at (pdv_end s at) w.place refl (item_none s at p)) (omega arith)))

  pub reach_next : k < number → (e : ℕ) → Some e ≡ item_end s at → Reaching number s e (k + 1)
  reach_next h e t =
      let v = item_there s at e t in
      let p : e ≡ pdv_end s at = v.0 in
      let ne : (e ≡ 0 → ⊥) = v.1 in
      let i = pdv_more s at e p ne in
      let d = size_more (pdvs s) k (pdv_at s at e) (pdvs (drop e s)) (the_pdv s k at e w.place p ne) in
      let l = length-drop (at + 6) s in
      let f : length (take (e - (at + 6)) (drop (at + 6) s)) ≡ e - (at + 6) = length-take-le (e - (at + 6)) (drop (at + 6) s) (omega arith) in
      let c = w.place in
      let z : e ≡ size (take (suc k) (pdvs s)) = omega arith in
      record { place = z ∙ ap (λ (m : ℕ). size (take m (pdvs s))) (sym (add-one k)); below = omega arith }

pub ruleset reach_laws = (reach_start, reach_done, reach_stop, reach_next)

-- ---- `read_data`
-- the body of a PDU as the code has it
abbrev body : List ℕ → List ℕ
body x = take (length x - 6) (drop 6 x)

module _ (x : List ℕ) (number : ℕ) where
  pub data_other : (kind_of x ≡ 4 → ⊥) → no_data 7 ≡ data_of x number
  unfolding data_of
  data_other h = rw (ne_eqb (kind_of x) 4 h)

  module _ (h : kind_of x ≡ 4) (at : ℕ) (a : at ≡ size (take number (pdvs (body x)))) where
    place_in : at ≡ size (take number (pdvs (drop 6 x)))
    place_in = a ∙ rw (part_tail 6 x)

    pub data_past : None ≡ item_end (body x) at → no_data 4 ≡ data_of x number
    unfolding data_of pdvs_of
    data_past p =
        let z : pdv_end (drop 6 x) at ≡ 0 = rw (part_tail 6 x) at (item_none (body x) at p) in
        let l = run_out (pdvs (drop 6 x)) number (no_pdv (drop 6 x) number at (pdv_end (drop 6 x) at) place_in refl z) in
        rw (h, le-ltb number (length (pdvs (drop 6 x))) l)

    pub data_is : (e : ℕ) → Some e ≡ item_end (body x) at
        → record { refusal = 0; id = get_or (body x) (at + 4) 0; control = get_or (body x) (at + 5) 0; start = 6 + at + 6; len = e - (at + 6) } ≡ data_of x number
    unfolding data_of pdvs_of start_of
    data_is e p =
        let w = item_there (body x) at e p in
        let q : e ≡ pdv_end (drop 6 x) at = w.0 ∙ rw (part_tail 6 x) in
        let ne : (e ≡ 0 → ⊥) = w.1 in
        let i = pdv_more (drop 6 x) at e q ne in
        let l = length-drop (at + 6) (drop 6 x) in
        let f : length (take (e - (at + 6)) (drop (at + 6) (drop 6 x))) ≡ e - (at + 6) = length-take-le (e - (at + 6)) (drop (at + 6) (drop 6 x)) (omega arith) in
        let g = pdv_is (drop 6 x) number at e place_in q ne in
        let t : ltb number (length (pdvs (drop 6 x))) ≡ true = lt-ltb number (length (pdvs (drop 6 x))) (pdv_there (drop 6 x) number at e place_in q ne) in
        rw (part_tail 6 x, h, t, g, f, ← place_in)

pub data_six : (x : List ℕ) → kind_of x ≡ 4 → 6 ≤ length x
data_six x h = whole_six x (kind_whole x 4 h (λ z. omega arith))

pub ruleset data_laws = (data_other, data_past, data_is, data_six)

-- ---- what a reading that is not refused tells
module _ (x : List ℕ) (n : ℕ) (v : kind_of x ≡ 4) (h : n < length (pdvs_of x)) where
  -- where PDV n stands and ends in the body
  abbrev pub at_n : ℕ
  at_n = size (take n (pdvs (drop 6 x)))

  abbrev pub end_n : ℕ
  end_n = pdv_end (drop 6 x) at_n

  pub there : end_n ≡ 0 → ⊥
  unfolding pdvs_of
  there z = let l = run_out (pdvs (drop 6 x)) n (no_pdv (drop 6 x) n at_n end_n refl refl z) in omega arith

  stands : PdvItem (drop 6 x) at_n end_n
  stands = pdv_more (drop 6 x) at_n end_n refl there

  fragment_n : (pdv (pdvs_of x) n).fragment ≡ take (end_n - (at_n + 6)) (drop (6 + at_n + 6) x)
  unfolding pdvs_of
  fragment_n =
      let z : 6 + (at_n + 6) ≡ 6 + at_n + 6 = omega arith in
      ap (λ (p : Pdv). p.fragment) (pdv_is (drop 6 x) n at_n end_n refl refl there) ∙ (rw (drop-drop (at_n + 6) 6 x, z))

  pub length_n : length (pdv (pdvs_of x) n).fragment ≡ end_n - (at_n + 6)
  length_n =
      let i = stands in
      let l = length-drop 6 x in
      let m = length-drop (6 + at_n + 6) x in
      ap length fragment_n ∙ length-take-le (end_n - (at_n + 6)) (drop (6 + at_n + 6) x) (omega arith)

  -- the answer
  pub data_in : data_of x n ≡ record { refusal = 0; id = (pdv (pdvs_of x) n).id; control = (pdv (pdvs_of x) n).control; start = start_of (pdvs_of x) n; len = length (pdv (pdvs_of x) n).fragment }
  unfolding data_of
  data_in = rw (v, lt-ltb n (length (pdvs_of x)) h)

  -- the part that is handed back is the fragment of PDV n
  pub fragment_is : fragment_of x n ≡ (pdv (pdvs_of x) n).fragment
  unfolding fragment_of start_of pdvs_of
  fragment_is = rw data_in (rw length_n (sym fragment_n))

  -- and it lies within the PDU
  fragment_within : start_of (pdvs_of x) n + length (pdv (pdvs_of x) n).fragment ≤ length x
  unfolding start_of pdvs_of
  fragment_within =
      let i = stands in
      let l = length-drop 6 x in
      let m = length_n in
      let s = whole_six x (kind_whole x 4 v (λ z. omega arith)) in
      omega arith

-- nothing is handed back by a refusal: the empty part at place 0
pub fragment_refused : (x : List ℕ) (n : ℕ) → ((data_of x n).refusal ≡ 0 → ⊥) → ((data_of x n).start ≡ 0) × (fragment_of x n ≡ [])
unfolding fragment_of data_of
fragment_refused x n r = go (eqb (kind_of x) 4) refl (ltb n (length (pdvs_of x))) refl
  where
    go : (a : Bool) → eqb (kind_of x) 4 ≡ a → (b : Bool) → ltb n (length (pdvs_of x)) ≡ b → ((data_of x n).start ≡ 0) × (fragment_of x n ≡ [])
    go false p b q = (rw p, rw p)
    go true p false q = (rw (p, q), rw (p, q))
    go true p true q = absurd (r (rw (p, q)))

-- ---- `fragment`
inside : (x : List ℕ) (n : ℕ) → (data_of x n).start + (data_of x n).len ≤ length x
unfolding data_of
inside x n = go (eqb (kind_of x) 4) refl (ltb n (length (pdvs_of x))) refl
  where
    go : (a : Bool) → eqb (kind_of x) 4 ≡ a → (b : Bool) → ltb n (length (pdvs_of x)) ≡ b → (data_of x n).start + (data_of x n).len ≤ length x
    go false p b q = rw p (omega arith)
    go true p false q = rw (p, q) (omega arith)
    go true p true q = rw (p, q) (fragment_within x n (eqb-true _ _ p) (ltb-true _ _ q))

module _ (x : List ℕ) (n i k start len : ℕ) (p : record { refusal = 0; id = i; control = k; start = start; len = len } ≡ data_of x n) where
  pub part_within : start + len ≤ length x
  part_within = let w = inside x n in let a = ap (λ (d : DataRead). d.start) p in let b = ap (λ (d : DataRead). d.len) p in omega arith

  pub part_is : take (start + len - start) (drop start x) ≡ fragment_of x n
  unfolding fragment_of
  part_is = let z : start + len - start ≡ len = omega arith in rw (z, ← p)

  pub part_start : start ≡ (data_of x n).start
  part_start = ap (λ (d : DataRead). d.start) p

-- of a refusal nothing is handed back
pub part_none : (x : List ℕ) (n : ℕ) (e : Refusal) → no_data (refusal_number e) ≡ data_of x n → ((data_of x n).start ≡ 0) × (fragment_of x n ≡ [])
part_none x n e p = fragment_refused x n (λ z. refusal_some e (ap (λ (d : DataRead). d.refusal) p ∙ z))

-- ---- an answer is told by the record that it is
data_back : DataRead → Told
data_back r = record { id = r.id; control = r.control; start = r.start; len = r.len }

pub data_once : (a b : Result Told Refusal) → data_as a ≡ data_as b → a ≡ b
unfolding data_back
data_once a b e =
    answer_once a b (refusals a b e) (λ x y p q. ap data_back (ap data_as (sym p) ∙ (e ∙ ap data_as q)))
  where
    said : (r : Result Told Refusal) → refusal_in r ≡ (data_as r).refusal
    said (Ok r) = refl
    said (Err n) = refl

    refusals : (a b : Result Told Refusal) → data_as a ≡ data_as b → refusal_in a ≡ refusal_in b
    refusals a b e = said a ∙ (ap (λ (r : DataRead). r.refusal) e ∙ sym (said b))
