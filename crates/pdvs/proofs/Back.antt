-- PDV items and their bytes, both ways: good items are the joined bytes of their PDVs, and the joined bytes of PDVs are the items of these.
-- Assumes nothing.
use Prim.Native.Nat.{ℕ, ◌+◌, ◌-◌, ◌/◌, ◌%◌, ◌≤◌, ◌<◌}
use native.Mathlib.Omega.{arith}
use mathlib.Core.Bool.{Bool, true, false, ◌&&◌}
use mathlib.Core.List.{List, [], ◌∷◌, ◌++◌, map}
use mathlib.Core.Path.{◌≡◌, refl, sym, ap, ◌∙◌}
use lib.ListN.{length, take, drop, get_or, length-append, length-drop, take-append-drop}
use lib.Seq.{take_at, drop_at, drop-drop, length-take-le, get_or-drop}
use lib.Dec.{leb, eqb}
use borrow.Author.Tests.{le-leb, leb-true, eqb-true, eqb-false}
use Rattle.laws.specs.Lists.{all, joined}
use Rattle.laws.proofs.Booleans.{left_of, right_of, both_of}
use Rattle.laws.proofs.Parts.{part_there}
use Rattle.octets.specs.Octets.{be16, be32}
use Rattle.pdvs.specs.Data.{Pdv, pdv_step, pdvs, pdv_bytes, pdv_fits, size, pdv_ok, pdvs_ok, pdv_end}
use Rattle.pdvs.proofs.DataLaws.{pdvs_step, pdv_at, pdv_more, pdv_stop}

-- ---- from PDVs to bytes and back
module _ (p : Pdv) (r : List ℕ) (h : 2 + length p.fragment ≤ 0xFFFFFFFF) where
  length_there : be32 (pdv_bytes p ++ r) 0 ≡ 2 + length p.fragment
  unfolding pdv_bytes be32 be16
  length_there = omega arith

  first_there : pdvs (pdv_bytes p ++ r) ≡ p ∷ pdvs r
  unfolding pdv_step pdv_bytes
  first_there =
      let n = length_there in
      let l = length-append p.fragment r in
      let t : (leb 2 (be32 (pdv_bytes p ++ r) 0) && leb (4 + be32 (pdv_bytes p ++ r) 0) (length (pdv_bytes p ++ r))) ≡ true
      = both_of _ _ (le-leb 2 (be32 (pdv_bytes p ++ r) 0) (omega arith)) (le-leb (4 + be32 (pdv_bytes p ++ r) 0) (length (pdv_bytes p ++ r)) (omega arith)) in
      let k : be32 (pdv_bytes p ++ r) 0 - 2 ≡ length p.fragment = omega arith in
      let m : 4 + be32 (pdv_bytes p ++ r) 0 ≡ 6 + length p.fragment = omega arith in
      let f : take (be32 (pdv_bytes p ++ r) 0 - 2) (p.fragment ++ r) ≡ p.fragment = take_at p.fragment r (be32 (pdv_bytes p ++ r) 0 - 2) (sym k) in
      let d : drop (4 + be32 (pdv_bytes p ++ r) 0) (pdv_bytes p ++ r) ≡ r
      = ap (λ (i : ℕ). drop i (pdv_bytes p ++ r)) m ∙ (sym (drop-drop (length p.fragment) 6 (pdv_bytes p ++ r)) ∙ drop_at p.fragment r (length p.fragment) refl) in
      pdvs_step (pdv_bytes p ++ r) ∙ rw (t, f, d)

pub pdvs_of_bytes : (ps : List Pdv) → all pdv_fits ps ≡ true → pdvs (joined (map pdv_bytes ps)) ≡ ps
unfolding pdv_step be32 be16
pdvs_of_bytes [] h = pdvs_step []
pdvs_of_bytes (p ∷ ps) h =
    first_there p (joined (map pdv_bytes ps)) (leb-true _ _ (left_of _ _ h)) ∙ ap (λ (qs : List Pdv). p ∷ qs) (pdvs_of_bytes ps (right_of (pdv_fits p) _ h))

-- ---- from bytes to PDVs and back
six : (s : List ℕ) → 6 ≤ length s → s ≡ get_or s 0 0 ∷ get_or s 1 0 ∷ get_or s 2 0 ∷ get_or s 3 0 ∷ get_or s 4 0 ∷ get_or s 5 0 ∷ drop 6 s
six (a ∷ b ∷ c ∷ d ∷ e ∷ f ∷ s) h = refl
six [] h = absurd (omega arith)
six (a ∷ []) h = absurd (omega arith)
six (a ∷ b ∷ []) h = absurd (omega arith)
six (a ∷ b ∷ c ∷ []) h = absurd (omega arith)
six (a ∷ b ∷ c ∷ d ∷ []) h = absurd (omega arith)
six (a ∷ b ∷ c ∷ d ∷ e ∷ []) h = absurd (omega arith)

-- the first item is the bytes of the first PDV
module _ (s : List ℕ) (b : (i : ℕ) → get_or s i 0 < 256) (e : ℕ) (h : 6 ≤ e) (l : e ≤ length s) (q : e ≡ 4 + be32 s 0) where
  fragment_long : length (take (e - 6) (drop 6 s)) ≡ e - 6
  fragment_long = let d = length-drop 6 s in length-take-le (e - 6) (drop 6 s) (omega arith)

  first_back : s ≡ pdv_bytes (pdv_at s 0 e) ++ drop e s
  unfolding pdv_bytes be32 be16
  first_back =
      let f = fragment_long in
      let b0 = b 0 in
      let b1 = b 1 in
      let b2 = b 2 in
      let b3 = b 3 in
      let n : ℕ = 2 + length (take (e - 6) (drop 6 s)) in
      let z : e ≡ 6 + (e - 6) = omega arith in
      let w0 : get_or s 0 0 ≡ n / 16777216 = omega arith in
      let w1 : get_or s 1 0 ≡ n / 65536 % 256 = omega arith in
      let w2 : get_or s 2 0 ≡ n / 256 % 256 = omega arith in
      let w3 : get_or s 3 0 ≡ n % 256 = omega arith in
      let t : drop 6 s ≡ take (e - 6) (drop 6 s) ++ drop e s
      = sym (take-append-drop (e - 6) (drop 6 s)) ∙ ap (λ (r : List ℕ). take (e - 6) (drop 6 s) ++ r) (drop-drop (e - 6) 6 s ∙ ap (λ (k : ℕ). drop k s) (sym z)) in
      six s (omega arith) ∙ (λ i. w0 i ∷ w1 i ∷ w2 i ∷ w3 i ∷ get_or s 4 0 ∷ get_or s 5 0 ∷ t i)

-- PDV items that fill s are the bytes of its PDVs
back : (ps : List Pdv) (s : List ℕ) → ((i : ℕ) → get_or s i 0 < 256) → pdvs s ≡ ps → size ps ≡ length s → s ≡ joined (map pdv_bytes ps)
back [] s b p z = empty_is s (sym z)
  where
    empty_is : (t : List ℕ) → length t ≡ 0 → t ≡ []
    empty_is [] h = refl
    empty_is (x ∷ t) h = absurd (omega arith)
back (p ∷ ps) s b q z = go (back ps (drop (pdv_end s 0) s)) (eqb (pdv_end s 0) 0) refl
  where
    go : (((i : ℕ) → get_or (drop (pdv_end s 0) s) i 0 < 256) → pdvs (drop (pdv_end s 0) s) ≡ ps → size ps ≡ length (drop (pdv_end s 0) s) → drop (pdv_end s 0) s ≡ joined (map pdv_bytes ps))
        → (d : Bool) → eqb (pdv_end s 0) 0 ≡ d → s ≡ pdv_bytes p ++ joined (map pdv_bytes ps)
    go rest true e =
        let none : pdvs s ≡ [] = pdv_stop s 0 (pdv_end s 0) refl (eqb-true _ _ e) in
        let w : ◌≡◌ {A = ℕ} 0 1 = cc in
        absurd (omega arith)
    go rest false e =
        let n = eqb-false (pdv_end s 0) 0 e in
        let i = pdv_more s 0 (pdv_end s 0) refl n in
        let is : pdv_end s 0 ≡ 4 + be32 s 0 = (part_there 2 s 0 (be32 s 0) (pdv_end s 0) refl n).is in
        let h : 6 ≤ pdv_end s 0 = omega arith in
        let l : pdv_end s 0 ≤ length s = i.to in
        let f = fragment_long s b (pdv_end s 0) h l is in
        let c : pdvs s ≡ pdv_at s 0 (pdv_end s 0) ∷ pdvs (drop (pdv_end s 0) s) = i.eq in
        let u : pdv_at s 0 (pdv_end s 0) ≡ p = cc in
        let v : pdvs (drop (pdv_end s 0) s) ≡ ps = cc in
        let g : length p.fragment ≡ pdv_end s 0 - 6 = ap (λ (x : Pdv). length x.fragment) (sym u) ∙ f in
        let r : size ps ≡ length (drop (pdv_end s 0) s) = (let d = length-drop (pdv_end s 0) s in omega arith) in
        let k = rest (λ j. rw (get_or-drop (pdv_end s 0) s j 0) (b (pdv_end s 0 + j))) v r in
        first_back s b (pdv_end s 0) h l is ∙ (λ j. pdv_bytes (u j) ++ k j)

-- good items; each element of the list is a byte
pub pdvs_back : (most : ℕ) (s : List ℕ) → ((i : ℕ) → get_or s i 0 < 256) → pdvs_ok most s ≡ true → s ≡ joined (map pdv_bytes (pdvs s))
unfolding pdvs_ok
pdvs_back most s b g =
    let h : (eqb (size (pdvs s)) (length s) && all (pdv_ok most) (pdvs s)) ≡ true = right_of (leb 1 (length (pdvs s))) _ g in
    back (pdvs s) s b refl (eqb-true _ _ (left_of _ (all (pdv_ok most) (pdvs s)) h))
