-- What is written as items is walked over as the same items.
-- Assumes nothing.
use Prim.Native.Nat.{ℕ, zero, suc, ◌+◌, ◌<◌}
use native.Mathlib.Omega.{arith}
use mathlib.Core.Bool.{Bool, true, false, cond}
use mathlib.Core.List.{List, [], ◌∷◌, ◌++◌, map, append_assoc, append-nil}
use mathlib.Core.Path.{◌≡◌, refl, sym, ap, ◌∙◌}
use lib.ListN.{length, drop, replicate, length-append}
use lib.Seq.{take_at, drop_at}
use lib.Dec.{leb, ltb, eqb}
use borrow.Author.Tests.{le-leb, lt-ltb, ltb-true, eq-eqb}
use Rattle.laws.specs.Lists.{all, among, same_bytes}
use Rattle.laws.proofs.Booleans.{holds as is_true, left_of, right_of, both_of}
use Rattle.laws.proofs.Same.{same_self}
use Rattle.octets.specs.Octets.{be16, two}
use Rattle.items.specs.Items.{Walk, done, item, step, walk, filled, bodies, types, only, good_bodies, holds, place}
use Rattle.items.specs.Wire.{item_bytes, items_bytes, sequence}
use Rattle.items.proofs.WalkLaws.{walk_step, walk_nil}
use Rattle.items.proofs.HoldLaws.{goods_more}

-- ---- one item
pub item_length : (t : ℕ) (b : List ℕ) → length (item_bytes t b) ≡ 4 + length b
unfolding item_bytes
item_length t b = omega arith

-- whatever its reserved byte
pub walk_any : (t q : ℕ) (b rest : List ℕ) → length b < 65536 → walk ((t ∷ q ∷ (two (length b) ++ b)) ++ rest) ≡ item t b (walk rest)
unfolding step be16
walk_any t q b rest h =
    let n = length-append b rest in
    let s : be16 (t ∷ q ∷ (two (length b) ++ (b ++ rest))) 2 ≡ length b = omega arith in
    let l : leb (4 + length b) (length (t ∷ q ∷ (two (length b) ++ (b ++ rest)))) ≡ true = le-leb (4 + length b) (length (t ∷ q ∷ (two (length b) ++ (b ++ rest)))) (omega arith) in
    let d : drop (4 + length b) (t ∷ q ∷ (two (length b) ++ (b ++ rest))) ≡ rest = drop_at (t ∷ q ∷ (two (length b) ++ b)) rest (4 + length b) (omega arith) in
    walk_step (t ∷ q ∷ (two (length b) ++ (b ++ rest))) ∙ rw (s, l, take_at b rest (length b) refl, d)

pub walk_item : (t : ℕ) (b rest : List ℕ) → length b < 65536 → walk (item_bytes t b ++ rest) ≡ item t b (walk rest)
unfolding item_bytes
walk_item t b rest h = walk_any t 0 b rest h

-- and nothing behind it
pub walk_last : (t : ℕ) (b : List ℕ) → length b < 65536 → walk (item_bytes t b) ≡ item t b done
walk_last t b h = ap walk (sym (append-nil (item_bytes t b))) ∙ (walk_item t b [] h ∙ ap (item t b) walk_nil)

-- ---- items of one type, one for each body, and then w
unfoldable pub run : ℕ → List (List ℕ) → Walk → Walk
run t [] w = w
run t (b ∷ bs) w = item t b (run t bs w)

pub items_cons : (t : ℕ) (b : List ℕ) (bs : List (List ℕ)) → length (items_bytes t (b ∷ bs)) ≡ 4 + length b + length (items_bytes t bs)
unfolding item_bytes
items_cons t b bs = simp length-append (omega arith)

pub walk_items : (t : ℕ) (bs : List (List ℕ)) (rest : List ℕ) → length (items_bytes t bs) < 65536 → walk (items_bytes t bs ++ rest) ≡ run t bs (walk rest)
unfolding run
walk_items t [] rest h = refl
walk_items t (b ∷ bs) rest h =
    let l = items_cons t b bs in
    rw append_assoc (walk_item t b (items_bytes t bs ++ rest) (omega arith) ∙ rw (walk_items t bs rest (omega arith)))

pub bodies_run : (t : ℕ) (bs : List (List ℕ)) (w : Walk) → bodies t (run t bs w) ≡ bs ++ bodies t w
unfolding run bodies
bodies_run t [] w = refl
bodies_run t (b ∷ bs) w = rw (eq-eqb t t refl, bodies_run t bs w)

pub bodies_past : (u t : ℕ) (bs : List (List ℕ)) (w : Walk) → eqb t u ≡ false → bodies u (run t bs w) ≡ bodies u w
unfolding run bodies
bodies_past u t [] w h = refl
bodies_past u t (b ∷ bs) w h = rw h (bodies_past u t bs w h)

pub filled_run : (t : ℕ) (bs : List (List ℕ)) (w : Walk) → filled (run t bs w) ≡ filled w
unfolding run filled
filled_run t [] w = refl
filled_run t (b ∷ bs) w = filled_run t bs w

-- their types, and the known ones among them
pub types_run : (t : ℕ) (bs : List (List ℕ)) (w : Walk) → types (run t bs w) ≡ replicate (length bs) t ++ types w
unfolding run types
types_run t [] w = refl
types_run t (b ∷ bs) w = rw (types_run t bs w)

pub only_run : (known : List ℕ) (t n : ℕ) (ts : List ℕ) → among t known ≡ true → only known (replicate n t ++ ts) ≡ replicate n t ++ only known ts
unfolding only
only_run known t zero ts h = refl
only_run known t (suc n) ts h = rw (h, only_run known t n ts h)

pub goods_run : (known : List ℕ) (good : ℕ → List ℕ → Bool) (t : ℕ) (bs : List (List ℕ)) (w : Walk) → among t known ≡ true → all (good t) bs ≡ true → good_bodies known good (run t bs w) ≡ good_bodies known good w
unfolding run
goods_run known good t [] w i g = refl
goods_run known good t (b ∷ bs) w i g =
    let e : good t b ≡ true = left_of _ _ g in
    goods_more known good t b (run t bs w) ∙ rw (i, e) (goods_run known good t bs w i (right_of (good t b) _ g))

-- ---- an item of type a, then items of type k, then v: these are the known ones in order
pub written : (known : List ℕ) (good : ℕ → List ℕ → Bool) (a k : ℕ) (x : List ℕ) (bs : List (List ℕ)) (v : Walk) → among a known ≡ true → among k known ≡ true
    → good a x ≡ true → all (good k) bs ≡ true → filled v ≡ true → good_bodies known good v ≡ true → holds known good (a ∷ (replicate (length bs) k ++ only known (types v))) (item a x (run k bs v)) ≡ true
unfolding holds filled types only
written known good a k x bs v i j g h f r =
    let e : good_bodies known good (item a x (run k bs v)) ≡ true = goods_more known good a x (run k bs v) ∙ rw (i, g) (goods_run known good k bs v j h ∙ r) in
    let o : only known (types (run k bs v)) ≡ replicate (length bs) k ++ only known (types v) = ap (only known) (types_run k bs v) ∙ only_run known k (length bs) (types v) j in
    let l : List ℕ = a ∷ (replicate (length bs) k ++ only known (types v)) in
    rw (filled_run k bs v, f, i, o) (both_of (same_bytes l l) _ (is_true (same_bytes l l) (same_self l)) e)

-- ---- items of any types, each a type and a body, and then w
unfoldable pub along : List (ℕ × List ℕ) → Walk → Walk
along [] w = w
along (i ∷ is) w = item i.0 i.1 (along is w)

-- each has a length of two bytes
abbrev pub fits : ℕ × List ℕ → Bool
fits i = ltb (length i.1) 65536

-- the bodies of those of a type
unfoldable pub of_type : ℕ → List (ℕ × List ℕ) → List (List ℕ)
of_type t [] = []
of_type t (i ∷ is) = cond (eqb i.0 t) (i.1 ∷ of_type t is) (of_type t is)

pub sequence_cons : (i : ℕ × List ℕ) (is : List (ℕ × List ℕ)) → length (sequence (i ∷ is)) ≡ 4 + length i.1 + length (sequence is)
sequence_cons i is = length-append (item_bytes i.0 i.1) (sequence is) ∙ ap (λ (n : ℕ). n + length (sequence is)) (item_length i.0 i.1)

pub sequence_append : (is js : List (ℕ × List ℕ)) → sequence (is ++ js) ≡ sequence is ++ sequence js
sequence_append [] js = refl
sequence_append (i ∷ is) js = rw (sequence_append is js) (sym (append_assoc (item_bytes i.0 i.1) (sequence is) (sequence js)))

pub sequence_length : (is js : List (ℕ × List ℕ)) → length (sequence (is ++ js)) ≡ length (sequence is) + length (sequence js)
sequence_length is js = ap length (sequence_append is js) ∙ length-append (sequence is) (sequence js)

-- so it is where all of it has
pub sequence_fits : (is : List (ℕ × List ℕ)) → length (sequence is) < 65536 → all fits is ≡ true
sequence_fits [] h = refl
sequence_fits (i ∷ is) h =
    let l = sequence_cons i is in
    both_of _ _ (lt-ltb (length i.1) 65536 (omega arith)) (sequence_fits is (omega arith))

pub walk_sequence : (is : List (ℕ × List ℕ)) (rest : List ℕ) → all fits is ≡ true → walk (sequence is ++ rest) ≡ along is (walk rest)
unfolding along
walk_sequence [] rest h = refl
walk_sequence (i ∷ is) rest h =
    rw append_assoc (walk_item i.0 i.1 (sequence is ++ rest) (ltb-true _ _ (left_of _ _ h)) ∙ rw (walk_sequence is rest (right_of (fits i) _ h)))

-- and nothing behind them
pub walk_whole : (is : List (ℕ × List ℕ)) → all fits is ≡ true → walk (sequence is) ≡ along is done
walk_whole is h = ap walk (sym (append-nil (sequence is))) ∙ (walk_sequence is [] h ∙ ap (along is) walk_nil)

pub filled_along : (is : List (ℕ × List ℕ)) (w : Walk) → filled (along is w) ≡ filled w
unfolding along filled
filled_along [] w = refl
filled_along (i ∷ is) w = filled_along is w

pub bodies_along : (t : ℕ) (is : List (ℕ × List ℕ)) (w : Walk) → bodies t (along is w) ≡ of_type t is ++ bodies t w
unfolding along bodies of_type
bodies_along t [] w = refl
bodies_along t (i ∷ is) w = rw (bodies_along t is w) (go (eqb i.0 t))
  where
    go : (d : Bool) → cond d (i.1 ∷ (of_type t is ++ bodies t w)) (of_type t is ++ bodies t w) ≡ cond d (i.1 ∷ of_type t is) (of_type t is) ++ bodies t w
    go true = refl
    go false = refl

-- of what is written alone
pub bodies_whole : (t : ℕ) (is : List (ℕ × List ℕ)) → all fits is ≡ true → bodies t (walk (sequence is)) ≡ of_type t is
unfolding bodies
bodies_whole t is h = ap (bodies t) (walk_whole is h) ∙ (bodies_along t is done ∙ append-nil (of_type t is))

-- ---- those of a type: one behind the other, and where all are of one type
pub of_append : (t : ℕ) (is js : List (ℕ × List ℕ)) → of_type t (is ++ js) ≡ of_type t is ++ of_type t js
unfolding of_type
of_append t [] js = refl
of_append t (i ∷ is) js = rw (of_append t is js) (go (eqb i.0 t))
  where
    go : (d : Bool) → cond d (i.1 ∷ (of_type t is ++ of_type t js)) (of_type t is ++ of_type t js) ≡ cond d (i.1 ∷ of_type t is) (of_type t is) ++ of_type t js
    go true = refl
    go false = refl

module _ {A : Type 0} (t u : ℕ) (f : A → List ℕ) where
  pub of_same : eqb u t ≡ true → (xs : List A) → of_type t (map (λ x. (u, f x)) xs) ≡ map f xs
  unfolding of_type
  of_same h [] = refl
  of_same h (x ∷ xs) = rw (h, of_same h xs)

  pub of_other : eqb u t ≡ false → (xs : List A) → of_type t (map (λ x. (u, f x)) xs) ≡ []
  unfolding of_type
  of_other h [] = refl
  of_other h (x ∷ xs) = rw h (of_other h xs)

-- the place of the first of a type
pub place_along : (t : ℕ) (is : List (ℕ × List ℕ)) (b : List ℕ) (w : Walk) → of_type t is ≡ [] → place t (along is (item t b w)) ≡ length (sequence is) + 4
unfolding along place of_type
place_along t [] b w h = rw (eq-eqb t t refl)
place_along t (i ∷ is) b w h = go (eqb i.0 t) h (place_along t is b w)
  where
    go : (d : Bool) → cond d (i.1 ∷ of_type t is) (of_type t is) ≡ [] → (of_type t is ≡ [] → place t (along is (item t b w)) ≡ length (sequence is) + 4)
        → cond d 4 (4 + length i.1 + place t (along is (item t b w))) ≡ length (sequence (i ∷ is)) + 4
    go true q r = let z : suc (length (of_type t is)) ≡ 0 = ap length q in absurd (omega arith)
    go false q r = let l = sequence_cons i is in let p = r q in omega arith

pub along_append : (is js : List (ℕ × List ℕ)) (w : Walk) → along (is ++ js) w ≡ along is (along js w)
unfolding along
along_append [] js w = refl
along_append (i ∷ is) js w = rw (along_append is js w)

-- in what is written alone
pub place_whole : (t : ℕ) (is : List (ℕ × List ℕ)) (b : List ℕ) (js : List (ℕ × List ℕ)) → all fits (is ++ ((t, b) ∷ js)) ≡ true → of_type t is ≡ []
    → place t (walk (sequence (is ++ ((t, b) ∷ js)))) ≡ length (sequence is) + 4
unfolding along
place_whole t is b js h n = ap (place t) (walk_whole (is ++ ((t, b) ∷ js)) h ∙ along_append is ((t, b) ∷ js) done) ∙ place_along t is b (along js done) n
