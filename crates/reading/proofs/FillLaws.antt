-- Records put into a sheet, one body after the other: the loops of filling and of counting.
-- Assumes nothing.
use Prim.Native.Nat.{ℕ, ◌+◌, ◌*◌, ◌≤◌}
use native.Mathlib.Omega.{arith}
use native.Mathlib.Nat.{mul-zero, mul-suc}
use mathlib.Core.Bool.{Bool, true, false, cond}
use mathlib.Core.List.{List, [], ◌∷◌, ◌++◌}
use mathlib.Core.Path.{◌≡◌, refl, sym, ap, ◌∙◌}
use lib.ListN.{length, take, drop, get_or, length-append, length-drop}
use lib.Dec.{eqb}
use borrow.Author.Tests.{eq-eqb, ne_eqb}
use Rattle.numbers.specs.Results.{ACCEPTED}
use Rattle.octets.specs.Private.Put.{Put}
use Rattle.octets.specs.Put.{Placed}
use Rattle.octets.proofs.PutLaws.{placed_put, put_length, put_nothing, next_room, next_put}
use Rattle.items.specs.Items.{Walk, done, broken, item, walk, bodies, first}
use Rattle.items.proofs.PlaceLaws.{stands}
use Rattle.sheets.specs.Record.{record_of}
use Rattle.sheets.proofs.RecordLaws.{record_length, cut_short}
use Rattle.reading.specs.Associate.{context_of, transfer_in, answer_of}
use Rattle.reading.specs.Private.Records.{each, body_records}

-- ---- one record
pub record_132 : (id result : ℕ) (a x : List ℕ) → length (record_of id result a x) ≡ 132
unfolding record_of
record_132 id result a x = record_length id result (take 64 a) (take 64 x) (cut_short a) (cut_short x)

-- `put_record`
pub record_written : (o o' r a x : List ℕ) (n m id result : ℕ) → n + 132 ≤ length o → r ≡ record_of id result a x → Placed o n r m o' → Put o n (record_of id result a x) m o'
record_written o o' r a x n m id result h e p = let l : length r ≡ 132 = ap length e ∙ record_132 id result a x in rw e at (placed_put o n r p (omega arith))

pub record_long : (r a x : List ℕ) (id result : ℕ) → r ≡ record_of id result a x → length r ≡ 132
record_long r a x id result e = ap length e ∙ record_132 id result a x

pub ruleset record_laws = (record_written, record_long)

-- `transfer_in`
module _ (b : List ℕ) (result : ℕ) (p : result ≡ get_or b 2 0) where
  pub no_transfer : (result ≡ ACCEPTED → ⊥) → [] ≡ transfer_in b
  unfolding transfer_in
  no_transfer h = rw (ne_eqb (get_or b 2 0) ACCEPTED (λ e. h (p ∙ e)))

  pub first_transfer : result ≡ ACCEPTED → (s x : List ℕ) → s ≡ drop 4 b → x ≡ first (bodies 0x40 (walk s)) → x ≡ transfer_in b
  unfolding transfer_in
  first_transfer h s x q e = rw (eq-eqb (get_or b 2 0) ACCEPTED (sym p ∙ h)) (rw q at e)

pub ruleset transfer_laws = (no_transfer, first_transfer)

-- ---- the loop that puts f of each body of a type: o₀ was the sheet, o is now, n is the place behind what is done, and w is what is left of w₀, which has room
pub record Filling (f : List ℕ → List ℕ) (t : ℕ) (w₀ w : Walk) (o₀ : List ℕ) (from : ℕ) (o : List ℕ) (n : ℕ) : Type 0 where
  pub rest : {r : ℕ} {o' : List ℕ} → Put o n (each f (bodies t w)) r o' → Put o₀ from (each f (bodies t w₀)) r o'
  pub room : n + length (each f (bodies t w)) ≤ length o
  pub long : length o ≡ length o₀

pub fill_start : (f : List ℕ → List ℕ) (t : ℕ) (w : Walk) (o : List ℕ) (from : ℕ) → from + length (each f (bodies t w)) ≤ length o → Filling f t w w o from o from
fill_start f t w o from h = record { rest = λ p. p; room = h; long = refl }

module _ (f : List ℕ → List ℕ) (t : ℕ) (w₀ w : Walk) (o₀ : List ℕ) (from : ℕ) (o : List ℕ) (n : ℕ) (i : Filling f t w₀ w o₀ from o n) where
  pub fill_done : w ≡ done → Put o₀ from (each f (bodies t w₀)) n o
  unfolding each bodies
  fill_done e = i.rest (rw e (put_nothing o n))

  pub fill_broken : w ≡ broken → Put o₀ from (each f (bodies t w₀)) n o
  unfolding each bodies
  fill_broken e = i.rest (rw e (put_nothing o n))

  module _ (u : ℕ) (b : List ℕ) (w' : Walk) (e : w ≡ item u b w') where
    pub fill_skip : (u ≡ t → ⊥) → Filling f t w₀ w' o₀ from o n
    unfolding bodies
    fill_skip h =
        let z : bodies t w ≡ bodies t w' = rw (e, ne_eqb u t h) in
        record { rest = λ q. i.rest (rw z q); room = rw z at i.room; long = i.long }

    module _ (h : u ≡ t) where
      split : each f (bodies t w) ≡ f b ++ each f (bodies t w')
      unfolding each bodies
      split = rw (e, eq-eqb u t h)

      both_room : n + (length (f b) + length (each f (bodies t w'))) ≤ length o
      both_room = let z = ap length split ∙ length-append (f b) (each f (bodies t w')) in let r = i.room in omega arith

      pub fill_room : n + length (f b) ≤ length o
      fill_room = let r = both_room in omega arith

      pub fill_next : (o' : List ℕ) (n' : ℕ) → Put o n (f b) n' o' → Filling f t w₀ w' o₀ from o' n'
      fill_next o' n' v =
          record {
            rest = λ q. i.rest (rw split (next_put o n (f b) (each f (bodies t w')) o' n' both_room v q));
            room = next_room o n (f b) (each f (bodies t w')) o' n' both_room v;
            long = ap length v.out ∙ (put_length o n (f b) fill_room ∙ i.long);
          }

-- of f that gives so many bytes each, the next has room: so has a record
pub fill_wide : (f : List ℕ → List ℕ) (m t : ℕ) → ((b : List ℕ) → length (f b) ≡ m) → (w₀ w : Walk) (o₀ : List ℕ) (from : ℕ) (o : List ℕ) (n : ℕ) → Filling f t w₀ w o₀ from o n
    → (u : ℕ) (b : List ℕ) (w' : Walk) → w ≡ item u b w' → u ≡ t → n + m ≤ length o
fill_wide f m t i w₀ w o₀ from o n g u b w' e h = let r = fill_room f t w₀ w o₀ from o n g u b w' e h in let l = i b in omega arith

pub fill_132 : (id : ℕ) (a : List ℕ) (w₀ w : Walk) (o₀ : List ℕ) (from : ℕ) (o : List ℕ) (n : ℕ) → Filling (record_of id 0 a) 0x40 w₀ w o₀ from o n
    → (u : ℕ) (b : List ℕ) (w' : Walk) → w ≡ item u b w' → u ≡ 0x40 → n + 132 ≤ length o
fill_132 id a = fill_wide (record_of id 0 a) 132 0x40 (record_132 id 0 a)

pub ruleset fill_laws = (fill_start, fill_done, fill_broken, fill_skip, fill_132, fill_room, fill_next)

-- ---- `put_context`
answer_132 : (k : ℕ) (b : List ℕ) → (k ≡ 0x20 → ⊥) → length (body_records k b) ≡ 132
unfolding body_records
answer_132 k b e = rw (ne_eqb k 0x20 e) (record_132 (answer_of b).id (answer_of b).result [] (answer_of b).transfer)

pub answered_room : (k n : ℕ) (b o : List ℕ) → (k ≡ 0x20 → ⊥) → n + length (body_records k b) ≤ length o → n + 132 ≤ length o
answered_room k n b o e h = let l = answer_132 k b e in omega arith

module _ (k n : ℕ) (b o : List ℕ) (id : ℕ) (q : id ≡ get_or b 0 0) where
  module _ (e : k ≡ 0x20) (s : List ℕ) (p : s ≡ drop 4 b) (a : List ℕ) (u : a ≡ first (bodies 0x30 (walk s))) where
    proposed_is : each (record_of id 0 a) (bodies 0x40 (walk s)) ≡ body_records k b
    unfolding body_records context_of
    proposed_is = rw (u, p, q, e)

    pub proposed_room : n + length (body_records k b) ≤ length o → n + length (each (record_of id 0 a) (bodies 0x40 (walk s))) ≤ length o
    proposed_room h = rw proposed_is h

    pub proposed_written : (m : ℕ) (o' : List ℕ) → Put o n (each (record_of id 0 a) (bodies 0x40 (walk s))) m o' → Put o n (body_records k b) m o'
    proposed_written m o' w = rw proposed_is at w

  module _ (e : k ≡ 0x20 → ⊥) (result : ℕ) (g : result ≡ get_or b 2 0) (x : List ℕ) (u : x ≡ transfer_in b) where
    answered_is : record_of id result [] x ≡ body_records k b
    unfolding body_records answer_of
    answered_is = rw (ne_eqb k 0x20 e, g, u, q)

    pub answered_written : (m : ℕ) (o' : List ℕ) → Put o n (record_of id result [] x) m o' → Put o n (body_records k b) m o'
    answered_written m o' w = rw answered_is at w

pub ruleset context_laws = (proposed_room, proposed_written, answered_room, answered_written)

-- ---- counting: w bytes for each, 132 for a record
pub each_wide : (f : List ℕ → List ℕ) (w : ℕ) → ((x : List ℕ) → length (f x) ≡ w) → (xs : List (List ℕ)) → length (each f xs) ≡ w * length xs
unfolding each
each_wide f w h [] = sym (mul-zero w)
each_wide f w h (x ∷ xs) = let l = h x in let m = each_wide f w h xs in simp (length-append, mul-suc) (omega arith)

each_size : (id : ℕ) (a : List ℕ) (xs : List (List ℕ)) → length (each (record_of id 0 a) xs) ≡ 132 * length xs
each_size id a = each_wide (record_of id 0 a) 132 (record_132 id 0 a)

pub rows_proposed : (k r : ℕ) (b x : List ℕ) → k ≡ 0x20 → x ≡ drop 4 b → r ≡ length (bodies 0x40 (walk x)) → 132 * r ≡ length (body_records k b)
unfolding body_records context_of
rows_proposed k r b x e p q = rw (q, p, e) (sym (each_size (context_of b).id (context_of b).abstr (context_of b).transfers))

pub rows_answered : (k : ℕ) (b : List ℕ) → (k ≡ 0x20 → ⊥) → 132 * 1 ≡ length (body_records k b)
rows_answered k b e = sym (answer_132 k b e)

pub ruleset rows_in_laws = (rows_proposed, rows_answered)

-- no context gives more records than it has bytes
few : (k : ℕ) (b : List ℕ) → length (body_records k b) ≤ 132 * (4 + length b)
unfolding body_records context_of
few k b = go (eqb k 0x20)
  where
    go : (d : Bool)
        → length (cond d (each (record_of (context_of b).id 0 (context_of b).abstr) (bodies 0x40 (walk (drop 4 b)))) (record_of (answer_of b).id (answer_of b).result [] (answer_of b).transfer))
        ≤ 132 * (4 + length b)
    go true = let f = (stands 0x40 (drop 4 b)).few in let l = length-drop 4 b in let z = each_size (context_of b).id (context_of b).abstr (bodies 0x40 (walk (drop 4 b))) in omega arith
    go false = let z = record_132 (answer_of b).id (answer_of b).result [] (answer_of b).transfer in omega arith

each_more : (f : List ℕ → List ℕ) (t : ℕ) (w : Walk) (b : List ℕ) (w' : Walk) → w ≡ item t b w' → each f (bodies t w) ≡ f b ++ each f (bodies t w')
unfolding each bodies
each_more f t w b w' e = rw (e, eq-eqb t t refl)

-- the loop that counts: n records so far; w is what is left of w₀, and has j of i bytes
pub record Rows (k : ℕ) (w₀ w : Walk) (i j n : ℕ) : Type 0 where
  pub count : length (each (body_records k) (bodies k w₀)) ≡ 132 * n + length (each (body_records k) (bodies k w))
  pub below : n + j ≤ i

pub rows_start : (k : ℕ) (w : Walk) (i : ℕ) → Rows k w w i i 0
rows_start k w i = record { count = omega arith; below = omega arith }

module _ (k : ℕ) (w₀ w : Walk) (i j n : ℕ) (v : Rows k w₀ w i j n) where
  pub rows_done : w ≡ done → 132 * n ≡ length (each (body_records k) (bodies k w₀))
  unfolding each bodies
  rows_done e = let c = v.count in let z : length (each (body_records k) (bodies k w)) ≡ 0 = rw e in omega arith

  pub rows_broken : w ≡ broken → 132 * n ≡ length (each (body_records k) (bodies k w₀))
  unfolding each bodies
  rows_broken e = let c = v.count in let z : length (each (body_records k) (bodies k w)) ≡ 0 = rw e in omega arith

  module _ (u : ℕ) (b : List ℕ) (w' : Walk) (e : w ≡ item u b w') (j' : ℕ) (g : 4 + length b + j' ≡ j) where
    pub rows_skip : (u ≡ k → ⊥) → Rows k w₀ w' i j' n
    unfolding bodies
    rows_skip h = let l = v.below in record { count = v.count ∙ rw (e, ne_eqb u k h); below = omega arith }

    module _ (h : u ≡ k) (r : ℕ) (q : 132 * r ≡ length (body_records k b)) where
      pub rows_upto : n + r ≤ i
      rows_upto = let l = v.below in let f = few k b in omega arith

      pub rows_more : Rows k w₀ w' i j' (n + r)
      rows_more =
          let c = v.count in
          let l = v.below in
          let f = few k b in
          let z = ap length (each_more (body_records k) k w b w' (rw h at e)) ∙ length-append (body_records k b) (each (body_records k) (bodies k w')) in
          record { count = omega arith; below = omega arith }

pub ruleset rows_laws = (rows_start, rows_done, rows_broken, rows_skip, rows_upto, rows_more)
