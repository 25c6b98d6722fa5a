-- What the items of a valid RQ or AC have.
-- Assumes nothing.
use Prim.Native.Nat.{ℕ, ◌-◌, ◌%◌, ◌≤◌, ◌<◌}
use mathlib.Core.Bool.{Bool, true, false, ◌&&◌, and-true}
use mathlib.Core.List.{List, [], ◌∷◌}
use mathlib.Core.Path.{◌≡◌, refl, sym, ◌∙◌}
use native.Mathlib.Omega.{arith}
use lib.ListN.{length, take, drop, get_or}
use lib.Dec.{leb, eqb}
use borrow.Author.Tests.{leb-true, le-leb, lt-leb, eqb-true, ne_eqb}
use Rattle.laws.specs.Lists.{all, among, distinct}
use Rattle.laws.proofs.Booleans.{left_of, right_of}
use Rattle.laws.proofs.Places.{part_tail}
use Rattle.names.specs.Name.{name_ok}
use Rattle.items.specs.Items.{Walk, walk, filled, bodies, first, good_bodies}
use Rattle.items.proofs.HoldLaws.{first_good, held_filled, held_good}
use Rattle.numbers.specs.Results.{ACCEPTED}
use Rattle.octets.specs.Octets.{odd}
use Rattle.user_items.specs.Kinds.{good_50h}
use Rattle.contents.specs.Contents.{top_known, answer_known, named, one, subs_ok, good_20h, transfer_item_ok, good_21h, context_good, top_good, top_ok, ids, items_ok}
use Rattle.items.specs.Private.Rules.{keeps}
use Rattle.contents.specs.Private.Order.{sub_rule}
use Rattle.contents.proofs.OrderLaws.{sub_is}
use Rattle.contents.proofs.Meaning.{Sub, subs_some, subs_hold, sub_counts, Top, top_some, top_holds, top_counts}

-- ---- a good 20H
-- as the code tests it
pub short_20 : (b : List ℕ) → length b < 4 → good_20h b ≡ false
unfolding good_20h
short_20 b h = rw (lt-leb 4 (length b) h)

pub even_20 : (b : List ℕ) → 4 ≤ length b → (get_or b 0 0 % 2 ≡ 1 → ⊥) → good_20h b ≡ false
unfolding good_20h
even_20 b h n = rw (le-leb 4 (length b) h, ne_eqb (get_or b 0 0 % 2) 1 n)

pub good_20_by : (b : List ℕ) (r : Bool) → 4 ≤ length b → get_or b 0 0 % 2 ≡ 1 → r ≡ keeps sub_rule 0 (walk (take (length b - 4) (drop 4 b))) → r ≡ good_20h b
unfolding good_20h
good_20_by b r h o e = rw (le-leb 4 (length b) h, o) (e ∙ rw (part_tail 4 b) (sub_is (walk (drop 4 b))))

module _ (b : List ℕ) (g : good_20h b ≡ true) where
  parts_20 : (leb 4 (length b) && (odd (get_or b 0 0) && subs_ok (walk (drop 4 b)))) ≡ true
  unfolding good_20h
  parts_20 = g

  subs_20 : subs_ok (walk (drop 4 b)) ≡ true
  subs_20 = right_of (odd (get_or b 0 0)) _ (right_of (leb 4 (length b)) _ parts_20)

  pub four_20 : 4 ≤ length b
  four_20 = leb-true 4 (length b) (left_of _ _ parts_20)

  pub odd_20 : odd (get_or b 0 0) ≡ true
  odd_20 = left_of _ _ (right_of (leb 4 (length b)) _ parts_20)

  pub filled_20 : filled (walk (drop 4 b)) ≡ true
  filled_20 = held_filled _ _ _ (walk (drop 4 b)) (subs_hold (walk (drop 4 b)) subs_20)

  pub abstract_names : all name_ok (bodies 0x30 (walk (drop 4 b))) ≡ true
  unfolding among
  abstract_names = held_good _ _ _ (walk (drop 4 b)) (subs_hold (walk (drop 4 b)) subs_20) 0x30 refl

  pub transfer_names : all name_ok (bodies 0x40 (walk (drop 4 b))) ≡ true
  unfolding among
  transfer_names = held_good _ _ _ (walk (drop 4 b)) (subs_hold (walk (drop 4 b)) subs_20) 0x40 refl

  -- one 30H and one or more 40H
  pub counts_20 : Sub (walk (drop 4 b))
  counts_20 = sub_counts (walk (drop 4 b)) subs_20

  pub abstract_name : name_ok (first (bodies 0x30 (walk (drop 4 b)))) ≡ true
  abstract_name = let n = counts_20.abstracts in first_good name_ok (bodies 0x30 (walk (drop 4 b))) (omega arith) abstract_names

  pub some_transfer : leb 1 (length (bodies 0x40 (walk (drop 4 b)))) ≡ true
  some_transfer = subs_some (walk (drop 4 b)) subs_20

-- ---- exactly one item of a type
module _ (t : ℕ) (w : Walk) (h : one t w ≡ true) where
  pub one_filled : filled w ≡ true
  unfolding one
  one_filled = left_of _ _ h

  pub one_count : length (bodies t w) ≡ 1
  unfolding one
  one_count = eqb-true _ _ (right_of (filled w) _ h)

  -- its body is good where each is
  pub one_good : (good : ℕ → List ℕ → Bool) → good t (first (bodies t w)) ≡ good_bodies (t ∷ []) good w
  unfolding good_bodies
  one_good good = go (bodies t w) one_count
    where
      go : (bs : List (List ℕ)) → length bs ≡ 1 → good t (first bs) ≡ (all (good t) bs && true)
      go [] l = absurd (omega arith)
      go (b ∷ []) l = sym (and-true (good t b && true) ∙ and-true (good t b))
      go (b ∷ c ∷ bs) l = absurd (omega arith)

-- ---- a good 21H
module _ (b : List ℕ) (g : good_21h b ≡ true) where
  parts_21 : (leb 4 (length b) && (odd (get_or b 0 0) && (leb (get_or b 2 0) 4 && transfer_item_ok (get_or b 2 0) (walk (drop 4 b))))) ≡ true
  unfolding good_21h
  parts_21 = g

  pub four_21 : 4 ≤ length b
  four_21 = leb-true 4 (length b) (left_of _ _ parts_21)

  rest_21 : (leb (get_or b 2 0) 4 && transfer_item_ok (get_or b 2 0) (walk (drop 4 b))) ≡ true
  rest_21 = right_of (odd (get_or b 0 0)) _ (right_of (leb 4 (length b)) _ parts_21)

  pub odd_21 : odd (get_or b 0 0) ≡ true
  odd_21 = left_of _ _ (right_of (leb 4 (length b)) _ parts_21)

  pub result_21 : get_or b 2 0 ≤ 4
  result_21 = leb-true _ _ (left_of _ _ rest_21)

  -- of an accepted context
  module _ (a : get_or b 2 0 ≡ ACCEPTED) where
    item_21 : (one 0x40 (walk (drop 4 b)) && good_bodies answer_known named (walk (drop 4 b))) ≡ true
    unfolding transfer_item_ok
    item_21 = rw a at (right_of (leb (get_or b 2 0) 4) _ rest_21)

    pub one_21 : one 0x40 (walk (drop 4 b)) ≡ true
    one_21 = left_of _ _ item_21

    pub transfer_name : name_ok (first (bodies 0x40 (walk (drop 4 b)))) ≡ true
    transfer_name = one_good 0x40 (walk (drop 4 b)) one_21 named ∙ right_of (one 0x40 (walk (drop 4 b))) _ item_21

-- ---- the items
module _ (k : ℕ) (s : List ℕ) (g : items_ok k s ≡ true) where
  pub items_top : top_ok k (walk s) ≡ true
  unfolding items_ok
  items_top = left_of _ _ g

  pub items_distinct : distinct (ids k (walk s)) ≡ true
  unfolding items_ok
  items_distinct = right_of (top_ok k (walk s)) _ g

  pub items_some : leb 1 (length (bodies k (walk s))) ≡ true
  items_some = top_some k (walk s) items_top

  pub items_filled : filled (walk s) ≡ true
  items_filled = held_filled _ _ _ (walk s) (top_holds k (walk s) items_top)

  pub items_good : (t : ℕ) → among t (top_known k) ≡ true → all (top_good k t) (bodies t (walk s)) ≡ true
  items_good t i = held_good _ _ _ (walk s) (top_holds k (walk s) items_top) t i

  pub items_counts : eqb k 0x10 ≡ false → eqb k 0x50 ≡ false → Top k (walk s)
  items_counts a b = top_counts k (walk s) items_top a b

pub items_20 : (s : List ℕ) → items_ok 0x20 s ≡ true → all good_20h (bodies 0x20 (walk s)) ≡ true
unfolding top_good context_good among
items_20 s g = items_good 0x20 s g 0x20 refl

pub items_21 : (s : List ℕ) → items_ok 0x21 s ≡ true → all good_21h (bodies 0x21 (walk s)) ≡ true
unfolding top_good context_good among
items_21 s g = items_good 0x21 s g 0x21 refl

-- the one 50H, with k for the type of a context
pub items_50 : (k : ℕ) (s : List ℕ) → items_ok k s ≡ true → eqb k 0x10 ≡ false → eqb k 0x50 ≡ false → eqb 0x50 k ≡ false → good_50h (first (bodies 0x50 (walk s))) ≡ true
unfolding top_good among
items_50 k s g a b c =
    let n = (items_counts k s g a b).users in
    let o : all (top_good k 0x50) (bodies 0x50 (walk s)) ≡ true = items_good k s g 0x50 (rw c) in
    let r : top_good k 0x50 (first (bodies 0x50 (walk s))) ≡ true = first_good (top_good k 0x50) (bodies 0x50 (walk s)) (omega arith) o in
    rw c at r
