-- Lists in two buffers: what stands at the start of each once bytes were put there, and where n bytes end in a piece.
-- Assumes nothing.
use Prim.Native.Nat.{ℕ, ◌+◌, ◌-◌, ◌≤◌}
use mathlib.Core.Path.{◌≡◌, refl, sym, ap, ◌∙◌}
use mathlib.Core.Bool.{Bool, true, false, cond}
use mathlib.Core.List.{List, [], ◌++◌, append_assoc}
use native.Mathlib.Omega.{arith}
use lib.ListN.{length, take, drop, length-append, length-drop}
use lib.Seq.{take-append_seam, take-append-le, drop-append-le, drop-append-add, take-append-add, length-take-le, take_at}
use Rattle.octets.specs.Put.{put, front}

-- of g, of c bytes, and p and t behind it, the first n bytes end in p
module _ (g p t : List ℕ) (c n : ℕ) (lg : length g ≡ c) (low : c ≤ n) (high : n ≤ length (g ++ p)) where
  pub inside : n - c ≤ length p
  inside = omega (arith, length-append g p)

  reach : n ≡ length g + (n - c)
  reach = omega arith

  pub behind : drop n ((g ++ p) ++ t) ≡ drop (n - c) p ++ t
  behind =
      drop-append-le n (g ++ p) t high
      ∙ ap (λ (l : List ℕ). l ++ t) (ap (λ (k : ℕ). drop k (g ++ p)) reach ∙ drop-append-add g p (n - c))

  pub before : take n ((g ++ p) ++ t) ≡ g ++ take (n - c) p
  before = take-append-le n (g ++ p) t high ∙ (ap (λ (k : ℕ). take k (g ++ p)) reach ∙ take-append-add g p (n - c))

pub take_shown : (b : Bool) (n : ℕ) (l : List ℕ) → take (cond b n 0) l ≡ cond b (take n l) []
take_shown true n l = refl
take_shown false n l = refl

pub take_none : (b : Bool) (n : ℕ) (l : List ℕ) → take (cond b 0 n) l ≡ cond b [] (take n l)
take_none true n l = refl
take_none false n l = refl

-- a buffer's first bytes, once bs are put behind the first c
pub take_put : (o : List ℕ) (c : ℕ) (bs : List ℕ) → c ≤ length o → take (c + length bs) (put o c bs) ≡ take c o ++ bs
unfolding put
take_put o c bs h =
    let n : length (take c o ++ bs) ≡ c + length bs = length-append (take c o) bs ∙ ap (λ (k : ℕ). k + length bs) (length-take-le c o h) in
    ap (take (c + length bs)) (sym (append_assoc (take c o) bs (drop (c + length bs) o))) ∙ take_at (take c o ++ bs) (drop (c + length bs) o) (c + length bs) n

pub take_front : (o bs : List ℕ) → take (length bs) (front o bs) ≡ bs
unfolding front
take_front o bs = take-append_seam bs (drop (length bs) o)

pub front_length : (o bs : List ℕ) → length bs ≤ length o → length (front o bs) ≡ length o
unfolding front
front_length o bs h = simp (length-append, length-drop) (omega arith)
