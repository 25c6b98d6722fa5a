-- Laws of putting: bytes that have room, two puts one after the other, and the copying loop.
-- Assumes nothing.
use Prim.Native.Nat.{ℕ, ◌+◌, ◌-◌, ◌<◌, ◌≤◌}
use mathlib.Core.Path.{◌≡◌, refl, sym, ◌∙◌, ap}
use mathlib.Core.List.{List, [], ◌++◌, append_assoc}
use lib.ListN.{length, take, drop, length-append, length-drop, take-append-drop}
use lib.Seq.{length-take-le, take_at, drop_at, drop-drop}
use native.Mathlib.Nat.{add-zero, zero-add}
use native.Mathlib.Omega.{arith}
use borrow.Rule.Slice.PartMut.{put_mid}
use borrow.Author.Tests.{le-leb, lt-leb}
use Rattle.octets.specs.Put.{put, front, placed, place_behind, Placed}
use Rattle.octets.specs.Private.Put.{Put}

-- ---- where there is room, or not
module _ (o : List ℕ) (at : ℕ) (bs : List ℕ) where
  pub placed_fits : at + length bs ≤ length o → placed o at bs ≡ put o at bs
  unfolding placed
  placed_fits h = simp (le-leb (at + length bs) (length o) h)

  pub behind_fits : at + length bs ≤ length o → place_behind o at bs ≡ at + length bs
  unfolding place_behind
  behind_fits h = simp (le-leb (at + length bs) (length o) h)

  pub placed_not : length o < at + length bs → placed o at bs ≡ o
  unfolding placed
  placed_not h = simp (lt-leb (at + length bs) (length o) h)

  pub behind_not : length o < at + length bs → place_behind o at bs ≡ at
  unfolding place_behind
  behind_not h = simp (lt-leb (at + length bs) (length o) h)

  -- what `put` of the code answers where there is room
  pub put_out : {r : ℕ} {o' : List ℕ} → Placed o at bs r o' → at + length bs ≤ length o → o' ≡ put o at bs
  put_out p h = p.out ∙ placed_fits h

  pub put_behind : {r : ℕ} {o' : List ℕ} → Placed o at bs r o' → at + length bs ≤ length o → r ≡ at + length bs
  put_behind p h = p.behind ∙ behind_fits h

  pub placed_put : {r : ℕ} {o' : List ℕ} → Placed o at bs r o' → at + length bs ≤ length o → Put o at bs r o'
  placed_put p h = record { behind = put_behind p h; out = put_out p h }

  -- ---- the code's three ways
  pub no_place : length o < at → Placed o at bs at o
  no_place h = record { behind = sym (behind_not (omega arith)); out = sym (placed_not (omega arith)) }

  pub no_room : at ≤ length o → length o - at < length bs → Placed o at bs at o
  no_room k h = record { behind = sym (behind_not (omega arith)); out = sym (placed_not (omega arith)) }

  pub room : {v : List ℕ} → v ≡ bs → at ≤ length o → length bs ≤ length o - at → Placed o at bs (at + length bs) (put_mid at (at + length bs - at) o v)
  unfolding put
  room {v} e k h =
      let n : at + (at + length bs - at) ≡ at + length bs = omega arith in
      record { behind = sym (behind_fits (omega arith)); out = rw (placed_fits (omega arith), e, drop-drop (at + length bs - at) at o, n) }

-- ---- the length stays; two puts, one behind the other, are one
pub put_length : (o : List ℕ) (at : ℕ) (a : List ℕ) → at + length a ≤ length o → length (put o at a) ≡ length o
unfolding put
put_length o at a h =
    let p : length (take at o) ≡ at = length-take-le at o (omega arith) in
    simp (length-append, length-drop, p) (omega arith)

pub put_put : (o : List ℕ) (at : ℕ) (a b : List ℕ) → at + length a ≤ length o → put (put o at a) (at + length a) b ≡ put o at (a ++ b)
unfolding put
put_put o at a b h =
    let p : length (take at o) ≡ at = length-take-le at o (omega arith) in
    let q : length (take at o ++ a) ≡ at + length a = length-append (take at o) a ∙ ap (λ (k : ℕ). k + length a) p in
    let n : ℕ = at + length a in
    let d : List ℕ = drop n o in
    let r : take at o ++ (a ++ d) ≡ (take at o ++ a) ++ d = sym (append_assoc (take at o) a d) in
    let k : n + length b ≡ at + length (a ++ b) = simp length-append (omega arith) in
    let head : take n (take at o ++ (a ++ d)) ≡ take at o ++ a = ap (take n) r ∙ take_at (take at o ++ a) d n q in
    let tail : drop (n + length b) (take at o ++ (a ++ d)) ≡ drop (at + length (a ++ b)) o
    = ap (drop (n + length b)) r ∙ (sym (drop-drop (length b) n ((take at o ++ a) ++ d)) ∙ (ap (drop (length b)) (drop_at (take at o ++ a) d n q) ∙ (drop-drop (length b) n o ∙ ap (λ (j : ℕ). drop j o) k))) in
    rw (head, tail) (simp append_assoc)

-- nothing put changes nothing
pub put_none : (o : List ℕ) (at : ℕ) → put o at [] ≡ o
unfolding put
put_none o at = rw (add-zero at) (take-append-drop at o)

pub put_nothing : (o : List ℕ) (at : ℕ) → Put o at [] at o
put_nothing o at = record { behind = omega arith; out = sym (put_none o at) }

-- a, and b behind it
module _ (o : List ℕ) (at : ℕ) (a b o₁ : List ℕ) (m : ℕ) (h : at + (length a + length b) ≤ length o) where
  module _ (p : Put o at a m o₁) where
    pub next_room : m + length b ≤ length o₁
    next_room = let k = ap length p.out ∙ put_length o at a (omega arith) in let l = p.behind in omega arith

    pub next_put : {r : ℕ} {o₂ : List ℕ} → Put o₁ m b r o₂ → Put o at (a ++ b) r o₂
    next_put q =
        let l = p.behind in
        let j = q.behind in
        record { behind = simp length-append (omega arith); out = q.out ∙ (rw (p.out, l) (put_put o at a b (omega arith))) }

  pub placed_next : {r : ℕ} {o₂ : List ℕ} → Placed o at a m o₁ → Placed o₁ m b r o₂ → Put o at (a ++ b) r o₂
  placed_next p q =
      let w = placed_put o at a p (omega arith) in
      next_put w (placed_put o₁ m b q (next_room w))

-- ---- a loop that puts parts one behind the other: o is o₀ with all that comes before place n, and the rest goes there
pub record Putting (o₀ : List ℕ) (from : ℕ) (all o : List ℕ) (n : ℕ) (rest : List ℕ) : Type 0 where
  pub whole : put o₀ from all ≡ put o n rest
  pub count : from + length all ≡ n + length rest
  pub long : length o ≡ length o₀

pub putting_start : (o : List ℕ) (from : ℕ) (all : List ℕ) → Putting o from all o from all
putting_start o from all = record { whole = refl; count = refl; long = refl }

module _ (o₀ all o rest : List ℕ) (from n : ℕ) (w : Putting o₀ from all o n rest) where
  pub putting_next : (a rest' o' : List ℕ) (n' : ℕ) → rest ≡ a ++ rest' → n + length a ≤ length o → Put o n a n' o' → Putting o₀ from all o' n' rest'
  putting_next a rest' o' n' e h q =
      let l = ap length e ∙ length-append a rest' in
      let c = w.count in
      let j = q.behind in
      record {
        whole = w.whole ∙ (ap (put o n) e ∙ (sym (put_put o n a rest' h) ∙ rw (q.out, j)));
        count = omega arith;
        long = ap length q.out ∙ (put_length o n a h ∙ w.long);
      }

  pub putting_done : rest ≡ [] → Put o₀ from all n o
  putting_done e =
      let c = w.count in
      let z = ap length e in
      record { behind = omega arith; out = sym (w.whole ∙ (ap (put o n) e ∙ put_none o n)) }

-- at the start
pub put_front : (o bs : List ℕ) → put o 0 bs ≡ front o bs
unfolding put front
put_front o bs = rw (zero-add (length bs))

pub front_start : (o bs : List ℕ) → take (length bs) (front o bs) ≡ bs
unfolding front
front_start o bs = take_at bs (drop (length bs) o) (length bs) refl

pub front_behind : (o bs : List ℕ) → drop (length bs) (front o bs) ≡ drop (length bs) o
unfolding front
front_behind o bs = drop_at bs (drop (length bs) o) (length bs) refl
