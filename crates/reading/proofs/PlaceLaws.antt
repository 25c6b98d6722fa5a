-- Reading a PDV by its place: each way through the code; and on a valid P-DATA-TF, from place 6 on, the PDVs in order and none behind the last.
-- Assumes nothing.
use Prim.Native.Nat.{ℕ, zero, suc, ◌+◌, ◌-◌, ◌%◌, ◌≤◌, ◌<◌}
use native.Mathlib.Omega.{arith}
use mathlib.Core.Bool.{Bool, true, false, ◌&&◌, cond, and-false}
use mathlib.Core.List.{List, [], ◌∷◌}
use mathlib.Core.Path.{◌≡◌, refl, sym, ap, ◌∙◌}
use lib.ListN.{length, take, drop, get_or, length-drop}
use lib.Seq.{take_all, get_or-drop}
use lib.Dec.{leb, eqb}
use borrow.Author.Tests.{le-leb, lt-leb, leb-true, leb-false, le-ltb, eq-eqb, ne_eqb, eqb-true}
use Rattle.laws.specs.Lists.{all}
use Rattle.laws.specs.Parts.{part_end}
use Rattle.laws.proofs.Booleans.{left_of, right_of}
use Rattle.laws.proofs.Parts.{part_there}
use Rattle.numbers.specs.Kinds.{DATA-TF}
use Rattle.octets.specs.Octets.{be32}
use Rattle.std.specs.Prelude.{None, Some}
use Rattle.pdvs.specs.Data.{Pdv, pdvs, size, pdv_ok, pdvs_ok, item_end}
use Rattle.pdvs.proofs.EndLaws.{item_there, item_none}
use Rattle.pdvs.proofs.DataLaws.{be32_drop}
use Rattle.judging.specs.Pdu.{data_ok, valid_as, kind_of}
use Rattle.judging.proofs.KindLaws.{whole_six, kind_whole, kind_valid}
use Rattle.reading.specs.Data.{pdvs_of, pdv, start_of, no_data, data_of, pdv_stands, data_at, place_after}
use Rattle.reading.proofs.DataLaws.{size_more, the_pdv, pdv_is, at_n, end_n, there, length_n, data_in}

-- ---- `pdv_at`
module _ (x : List ℕ) (at : ℕ) where
  pub at_header : at < 6 → no_data 4 ≡ data_at x at
  unfolding data_at pdv_stands
  at_header h = simp (lt-leb 6 at h)

  pub at_even : (get_or x (at + 4) 0 % 2 ≡ 1 → ⊥) → no_data 4 ≡ data_at x at
  unfolding data_at pdv_stands
  at_even o =
      simp (
        ne_eqb (get_or x (at + 4) 0 % 2) 1 o,
        and-false (leb (at + 4 + be32 x at) (length x)),
        and-false (leb 2 (be32 x at)),
        and-false (leb 6 at),
      )

  pub at_none : None ≡ item_end x at → no_data 4 ≡ data_at x at
  unfolding data_at pdv_stands part_end
  at_none p =
      simp (
        go (leb 2 (be32 x at)) (leb (at + 4 + be32 x at) (length x)) (eqb (get_or x (at + 4) 0 % 2) 1) (item_none x at p),
        and-false (leb 6 at),
      )
    where
      go : (a b c : Bool) → cond (a && b) (at + 4 + be32 x at) 0 ≡ 0 → (a && (b && c)) ≡ false
      go false b c q = refl
      go true false c q = refl
      go true true c q = absurd (omega arith)

  pub at_is : (e : ℕ) → Some e ≡ item_end x at → 6 ≤ at → get_or x (at + 4) 0 % 2 ≡ 1
      → record { refusal = 0; id = get_or x (at + 4) 0; control = get_or x (at + 5) 0; start = at + 6; len = e - (at + 6) } ≡ data_at x at
  unfolding data_at pdv_stands
  at_is e t h o =
      let v = item_there x at e t in
      let i = part_there 2 x at (be32 x at) e v.0 v.1 in
      let l : e - (at + 6) ≡ be32 x at - 2 = omega arith in
      rw (le-leb 6 at h, le-leb 2 (be32 x at) i.low, le-leb (at + 4 + be32 x at) (length x) (omega arith), eq-eqb (get_or x (at + 4) 0 % 2) 1 o, l)

pub ruleset place_laws = (at_header, at_none, at_even, at_is)

-- ---- the PDVs in order
each : (f : Pdv → Bool) (ps : List Pdv) (n : ℕ) → all f ps ≡ true → n < length ps → f (pdv ps n) ≡ true
unfolding pdv
each f [] n g h = absurd (omega arith)
each f (p ∷ ps) zero g h = left_of _ _ g
each f (p ∷ ps) (suc n) g h = each f ps n (right_of (f p) _ g) (omega arith)

module _ (x : List ℕ) (v : kind_of x ≡ DATA-TF) where
  six : 6 ≤ length x
  six = whole_six x (kind_whole x 4 v (λ z. omega arith))

  -- its PDVs fill it, and each has an odd ID
  good : (eqb (size (pdvs (drop 6 x))) (length (drop 6 x)) && all (pdv_ok 255) (pdvs (drop 6 x))) ≡ true
  unfolding valid_as data_ok pdvs_ok
  good = right_of (leb 1 (length (pdvs (drop 6 x)))) _ (kind_valid x 4 v (λ z. omega arith))

  filled : size (pdvs (drop 6 x)) ≡ length (drop 6 x)
  filled = eqb-true _ _ (left_of _ (all (pdv_ok 255) (pdvs (drop 6 x))) good)

  -- PDV n by its place
  module _ (n : ℕ) (h : n < length (pdvs_of x)) where
    abbrev here : ℕ
    here = at_n x n v h

    abbrev behind : ℕ
    behind = end_n x n v h

    is_n : pdv (pdvs (drop 6 x)) n ≡ record { id = get_or x (6 + here + 4) 0; control = get_or x (6 + here + 5) 0; fragment = take (behind - (here + 6)) (drop (here + 6) (drop 6 x)) }
    is_n =
        let a : 6 + (here + 4) ≡ 6 + here + 4 = omega arith in
        let b : 6 + (here + 5) ≡ 6 + here + 5 = omega arith in
        pdv_is (drop 6 x) n here behind refl refl (there x n v h) ∙ rw (get_or-drop 6 x (here + 4) 0, get_or-drop 6 x (here + 5) 0, a, b)

    odd_n : eqb (get_or x (6 + here + 4) 0 % 2) 1 ≡ true
    unfolding pdv_ok pdvs_of
    odd_n =
        let g : all (pdv_ok 255) (pdvs (drop 6 x)) ≡ true = right_of (eqb (size (pdvs (drop 6 x))) (length (drop 6 x))) _ good in
        let o : eqb ((pdv (pdvs (drop 6 x)) n).id % 2) 1 ≡ true = left_of _ (leb (pdv (pdvs (drop 6 x)) n).control 255) (each (pdv_ok 255) (pdvs (drop 6 x)) n g h) in
        rw is_n at o

    by_place : data_at x (6 + here) ≡ data_of x n
    unfolding data_at pdv_stands pdvs_of start_of
    by_place =
        let i = part_there 2 (drop 6 x) here (be32 (drop 6 x) here) behind refl (there x n v h) in
        let m = be32_drop x 6 here in
        let l = length-drop 6 x in
        let s = six in
        let f = length_n x n v h in
        let k : be32 x (6 + here) - 2 ≡ behind - (here + 6) = omega arith in
        rw (
          le-leb 6 (6 + here) (omega arith),
          le-leb 2 (be32 x (6 + here)) (omega arith),
          le-leb (6 + here + 4 + be32 x (6 + here)) (length x) (omega arith),
          odd_n,
          data_in x n v h,
          f,
          is_n,
          k,
        )

  -- where a host is after n PDVs: behind the header and those
  place_is : (n : ℕ) → n ≤ length (pdvs_of x) → place_after x n ≡ 6 + size (take n (pdvs (drop 6 x)))
  unfolding place_after pdvs_of start_of
  place_is zero h = refl
  place_is (suc n) h =
      let l : n < length (pdvs_of x) = omega arith in
      let e : data_at x (place_after x n) ≡ data_of x n = ap (data_at x) (place_is n (omega arith)) ∙ by_place n l in
      let d = data_in x n v l in
      let m = size_more (pdvs (drop 6 x)) n _ _ (the_pdv (drop 6 x) n (at_n x n v l) (end_n x n v l) refl refl (there x n v l)) in
      let f : length (pdv (pdvs (drop 6 x)) n).fragment ≡ length (take (end_n x n v l - (at_n x n v l + 6)) (drop (at_n x n v l + 6) (drop 6 x))) = rw (is_n n l) in
      rw (e, d) (omega arith)

  -- after its PDVs it is at the PDU's end
  pub behind_last : place_after x (length (pdvs_of x)) ≡ length x
  unfolding pdvs_of
  behind_last =
      let l = length-drop 6 x in
      let s = six in
      let f = filled in
      let t : take (length (pdvs (drop 6 x))) (pdvs (drop 6 x)) ≡ pdvs (drop 6 x) = take_all (length (pdvs (drop 6 x))) (pdvs (drop 6 x)) (omega arith) in
      let p : place_after x (length (pdvs (drop 6 x))) ≡ 6 + size (take (length (pdvs (drop 6 x))) (pdvs (drop 6 x))) = place_is (length (pdvs (drop 6 x))) (omega arith) in
      p ∙ rw t (omega arith)

  -- and there is no PDV there
  pub none_behind : data_at x (length x) ≡ no_data 4
  unfolding data_at pdv_stands
  none_behind =
      let s = six in
      simp (le-leb 6 (length x) s, lt-leb (length x + 4 + be32 x (length x)) (length x) (omega arith), and-false (leb 2 (be32 x (length x))))

  past_last : (n : ℕ) → length (pdvs_of x) ≤ n → data_of x n ≡ no_data 4
  unfolding data_of
  past_last n h = rw (v, le-ltb n (length (pdvs_of x)) h)

  to_last : (n : ℕ) → n ≤ length (pdvs_of x) → data_at x (place_after x n) ≡ data_of x n
  to_last n h = go (leb (length (pdvs_of x)) n) refl
    where
      go : (b : Bool) → leb (length (pdvs_of x)) n ≡ b → data_at x (place_after x n) ≡ data_of x n
      go false q = ap (data_at x) (place_is n h) ∙ by_place n (leb-false _ _ q)
      go true q =
          let l : length (pdvs_of x) ≤ n = leb-true _ _ q in
          let e : n ≡ length (pdvs_of x) = omega arith in
          ap (λ (k : ℕ). data_at x (place_after x k)) e ∙ (ap (data_at x) behind_last ∙ (none_behind ∙ sym (past_last n l)))

  -- going from place to place gives the PDVs in their order, and then what the numbers past the last give: a refusal leads to place 0, which is refused again
  pub in_order : (n : ℕ) → data_at x (place_after x n) ≡ data_of x n
  unfolding place_after
  in_order zero = to_last zero (omega arith)
  in_order (suc n) = go (in_order n) (leb (length (pdvs_of x)) n) refl
    where
      go : data_at x (place_after x n) ≡ data_of x n → (b : Bool) → leb (length (pdvs_of x)) n ≡ b → data_at x (place_after x (suc n)) ≡ data_of x (suc n)
      go ih false q = let l : n < length (pdvs_of x) = leb-false _ _ q in to_last (suc n) (omega arith)
      go ih true q =
          let l : length (pdvs_of x) ≤ n = leb-true _ _ q in
          rw (ih, past_last n l, past_last (suc n) (omega arith)) (sym (at_header x 0 (omega arith)))
