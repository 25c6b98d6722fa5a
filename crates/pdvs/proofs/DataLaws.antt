-- The PDV items of a P-DATA-TF: the equation that `pdvs` is, one step of it at a place of the bytes, and the loop that judges them.
-- Assumes nothing.
use Prim.Native.Nat.{ℕ, zero, suc, ◌+◌, ◌-◌, ◌%◌, ◌≤◌, ◌<◌}
use native.Mathlib.Omega.{arith}
use mathlib.Core.Bool.{Bool, true, false, ◌&&◌, cond, and-false, and-true}
use mathlib.Core.List.{List, [], ◌∷◌}
use mathlib.Core.Path.{◌≡◌, refl, sym, ap, ◌∙◌}
use lib.ListN.{length, take, drop, get_or, length-drop, drop_of_length-le}
use lib.Seq.{drop-drop, get_or-drop, length-take-le}
use lib.Dec.{leb, eqb}
use borrow.Author.Tests.{le-leb, lt-leb, eq-eqb, ne_eqb, eqb-true, eqb-false}
use Rattle.laws.specs.Lists.{all}
use Rattle.laws.proofs.Parts.{stepped, part_there, part_stands, part_not}
use Rattle.octets.specs.Octets.{be16, be32}
use Rattle.octets.proofs.OctetLaws.{be16_drop}
use Rattle.pdvs.specs.Data.{Pdv, pdv_step, pdvs_in, pdvs, size, pdv_ok, pdvs_ok, pdv_end}

-- ---- the equation without a count of steps
pub pdvs_step : (s : List ℕ) → pdvs s ≡ pdv_step pdvs s
unfolding pdvs pdvs_in pdv_step be32 be16
pdvs_step s = stepped pdv_step (λ r. []) (λ go. refl) (λ f g r h. rw (h (drop (4 + be32 r 0) r) (let l = length-drop (4 + be32 r 0) r in omega arith))) s

-- ---- the equation at a place
pub be32_drop : (s : List ℕ) (at k : ℕ) → be32 (drop at s) k ≡ be32 s (at + k)
unfolding be32
be32_drop s at k =
    let e : at + (k + 2) ≡ at + k + 2 = omega arith in
    rw (be16_drop s at k, be16_drop s at (k + 2), e)

-- the PDV that stands at a place and ends at e
abbrev pub pdv_at : List ℕ → ℕ → ℕ → Pdv
pdv_at s at e = record { id = get_or s (at + 4) 0; control = get_or s (at + 5) 0; fragment = take (e - (at + 6)) (drop (at + 6) s) }

pub record PdvItem (s : List ℕ) (at e : ℕ) : Type 0 where
  pub from : at + 6 ≤ e
  pub to : e ≤ length s
  pub eq : pdvs (drop at s) ≡ pdv_at s at e ∷ pdvs (drop e s)

here : (s : List ℕ) (at : ℕ)
    → pdvs (drop at s)
    ≡ cond (leb 2 (be32 s at) && leb (4 + be32 s at) (length s - at))
    (record { id = get_or s (at + 4) 0; control = get_or s (at + 5) 0; fragment = take (be32 s at - 2) (drop (at + 6) s) } ∷ pdvs (drop (at + (4 + be32 s at)) s))
    []
unfolding pdv_step
here s at =
    let z : at + 0 ≡ at = omega arith in
    pdvs_step (drop at s) ∙ rw (be32_drop s at 0, z, length-drop at s, get_or-drop at s 4 0, get_or-drop at s 5 0, drop-drop 6 at s, drop-drop (4 + be32 s at) at s)

-- what `pdv_end` finds: a PDV item, or none
module _ (s : List ℕ) (at e : ℕ) (p : e ≡ pdv_end s at) where
  pub pdv_more : (e ≡ 0 → ⊥) → PdvItem s at e
  pdv_more ne =
      let i = part_there 2 s at (be32 s at) e p ne in
      let n : at + (4 + be32 s at) ≡ e = omega arith in
      let b : be32 s at - 2 ≡ e - (at + 6) = omega arith in
      record { from = omega arith; to = i.to; eq = here s at ∙ (simp (part_stands 2 s at (be32 s at) e p ne) (rw (n, b))) }

  pub pdv_stop : e ≡ 0 → pdvs (drop at s) ≡ []
  pdv_stop z = here s at ∙ simp (part_not 2 s at (be32 s at) e p z)

pub pdv_over : (s : List ℕ) (at : ℕ) → length s ≤ at → pdvs (drop at s) ≡ []
unfolding pdv_step be32 be16
pdv_over s at h = rw (drop_of_length-le s h) (pdvs_step [])

-- the PDV items lie within the bytes
size_within : (n : ℕ) (s : List ℕ) → length s ≤ n → size (pdvs s) ≤ length s
size_within zero s h = let e : pdvs s ≡ [] = pdv_over s 0 (omega arith) in rw e (omega arith)
size_within (suc n) s h = go (size_within n (drop (pdv_end s 0) s)) (eqb (pdv_end s 0) 0) refl
  where
    go : (length (drop (pdv_end s 0) s) ≤ n → size (pdvs (drop (pdv_end s 0) s)) ≤ length (drop (pdv_end s 0) s)) → (d : Bool) → eqb (pdv_end s 0) 0 ≡ d → size (pdvs s) ≤ length s
    go within true q = let e : pdvs s ≡ [] = pdv_stop s 0 (pdv_end s 0) refl (eqb-true _ _ q) in rw e (omega arith)
    go within false q =
        let i = pdv_more s 0 (pdv_end s 0) refl (eqb-false _ _ q) in
        let l = length-drop (pdv_end s 0) s in
        let m = length-drop 6 s in
        let f : length (take (pdv_end s 0 - 6) (drop 6 s)) ≡ pdv_end s 0 - 6 = length-take-le (pdv_end s 0 - 6) (drop 6 s) (omega arith) in
        let r = within (omega arith) in
        let e : pdvs s ≡ pdv_at s 0 (pdv_end s 0) ∷ pdvs (drop (pdv_end s 0) s) = i.eq in
        rw e (omega arith)

-- ---- `pdvs_ok`
-- the PDVs so far are good and took so many bytes; ps are to come
pub record Judging (most : ℕ) (s : List ℕ) (taken : ℕ) (ps : List Pdv) : Type 0 where
  pub rest : pdvs_ok most s ≡ (leb 1 (length s) && (eqb (taken + size ps) (length s) && all (pdv_ok most) ps))
  pub within : taken + size ps ≤ length s

pub judge_start : (most : ℕ) (s : List ℕ) → Judging most s 0 (pdvs s)
unfolding pdvs_ok
judge_start most s = let w = size_within (length s) s (omega arith) in record { rest = go (pdvs s) w; within = omega arith }
  where
    go : (ps : List Pdv) → size ps ≤ length s
        → (leb 1 (length ps) && (eqb (size ps) (length s) && all (pdv_ok most) ps)) ≡ (leb 1 (length s) && (eqb (0 + size ps) (length s) && all (pdv_ok most) ps))
    go [] h = empty (length s)
      where
        empty : (n : ℕ) → false ≡ (leb 1 n && (eqb 0 n && true))
        empty zero = refl
        empty (suc n) = rw (ne_eqb 0 (suc n) (λ e. omega arith), and-false)
    go (p ∷ ps) h = let z : 0 + size (p ∷ ps) ≡ size (p ∷ ps) = omega arith in rw (z, le-leb 1 (length (p ∷ ps)) (omega arith), le-leb 1 (length s) (omega arith))

module _ (most : ℕ) (s : List ℕ) (taken : ℕ) (p : Pdv) (ps qs : List Pdv) (v : Judging most s taken qs) (e : qs ≡ p ∷ ps) where
  pub judge_fits : taken + (6 + length p.fragment) ≤ length s
  judge_fits = let w = v.within in let z = ap size e in omega arith

  pub judge_even : (p.id % 2 ≡ 1 → ⊥) → false ≡ pdvs_ok most s
  unfolding pdv_ok
  judge_even h = sym (v.rest ∙ rw (e, ne_eqb (p.id % 2) 1 h, and-false, and-false))

  pub judge_control : most < p.control → false ≡ pdvs_ok most s
  unfolding pdv_ok
  judge_control h = sym (v.rest ∙ rw (e, lt-leb p.control most h, and-false, and-false, and-false))

  pub judge_more : p.id % 2 ≡ 1 → p.control ≤ most → Judging most s (taken + (6 + length p.fragment)) ps
  unfolding pdv_ok
  judge_more o h =
      let w = v.within in
      let z = ap size e in
      let m : taken + (6 + length p.fragment + size ps) ≡ taken + (6 + length p.fragment) + size ps = omega arith in
      record { rest = v.rest ∙ rw (e, eq-eqb (p.id % 2) 1 o, le-leb p.control most h, m); within = omega arith }

pub judge_end : (most : ℕ) (s : List ℕ) (taken : ℕ) (qs : List Pdv) → Judging most s taken qs → qs ≡ [] → pdvs_ok most s ≡ (leb 1 (length s) && eqb taken (length s))
judge_end most s taken qs v e = let z : taken + 0 ≡ taken = omega arith in v.rest ∙ rw (e, z, and-true)
