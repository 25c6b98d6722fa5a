-- The loops' numbers for what came so far say the same as the paper's order: `keeps sub_rule 0 w ≡ subs_ok w`, `keeps (top_rule k) 0 w ≡ top_ok k w`.
-- Assumes nothing.
use Prim.Native.Nat.{ℕ, zero, suc}
use native.Mathlib.Omega.{arith}
use mathlib.Core.Bool.{Bool, true, false, not, ◌&&◌, ◌||◌, cond, and-false, or-true}
use mathlib.Core.List.{List, [], ◌∷◌, ◌++◌, append-nil}
use mathlib.Core.Path.{◌≡◌, refl, sym, ap, ◌∙◌}
use lib.ListN.{length, replicate}
use lib.Dec.{leb, eqb}
use borrow.Author.Tests.{le-leb, eqb-true, eqb-false, eq-eqb, ne_eqb}
use Rattle.laws.specs.Lists.{all, among, same_bytes}
use Rattle.laws.proofs.Booleans.{held, not_held, left_of, right_of, both_of}
use Rattle.laws.proofs.Same.{same_equal}
use Rattle.names.specs.Name.{name_ok}
use Rattle.items.specs.Items.{Walk, filled, bodies, types, only, good_bodies, holds}
use Rattle.items.specs.Private.Rules.{keeps}
use Rattle.items.proofs.RuleLaws.{state_after, keeps_is}
use Rattle.items.proofs.HoldLaws.{times, times_types, times_only, times_same}
use Rattle.user_items.specs.Kinds.{good_50h}
use Rattle.contents.specs.Contents.{top_known, context_known, named, context_order, subs_ok, context_good, top_good, top_order, top_ok}
use Rattle.contents.specs.Private.Order.{wrong, next, in_order, sub_good, sub_rule, top_rule}

-- the order told apart, and put as the definitions have it
gather : (n f s g : Bool) → (f && ((n && s) && g)) ≡ (n && (f && (s && g)))
gather true f s g = refl
gather false f s g = and-false f

-- the known types are known
only_known : (known : List ℕ) (p : ℕ → Bool) → ((t : ℕ) → among t known ≡ true → p t ≡ true) → (ts : List ℕ) → all p (only known ts) ≡ true
unfolding only
only_known known p f [] = refl
only_known known p f (t ∷ ts) = go (among t known) refl (only_known known p f ts)
  where
    go : (d : Bool) → among t known ≡ d → all p (only known ts) ≡ true → all p (cond d (t ∷ only known ts) (only known ts)) ≡ true
    go true q r = both_of _ _ (f t q) r
    go false q r = r

-- ---- as many m as there are, and then e
module _ (m : ℕ) (e : List ℕ) where
  abbrev many_then : List ℕ → Bool
  many_then ts = same_bytes ts (replicate (times m ts) m ++ e)

  many_more : (ts : List ℕ) → many_then (m ∷ ts) ≡ many_then ts
  unfolding times
  many_more ts = rw (eq-eqb m m refl, eq-eqb m m refl)

  many_some : (ts : List ℕ) → (leb 1 (times m (m ∷ ts)) && many_then (m ∷ ts)) ≡ many_then ts
  unfolding times
  many_some ts = rw (eq-eqb m m refl, eq-eqb m m refl, le-leb 1 (suc (times m ts)) (omega arith))

  module _ (t : ℕ) (ts : List ℕ) (h : eqb t m ≡ false) where
    many_end : times m e ≡ 0 → many_then (t ∷ ts) ≡ same_bytes (t ∷ ts) e
    unfolding times
    many_end z = rw h (go (times m ts) refl)
      where
        go : (n : ℕ) → times m ts ≡ n → same_bytes (t ∷ ts) (replicate n m ++ e) ≡ same_bytes (t ∷ ts) e
        go zero q = refl
        go (suc n) q =
            rw h (sym (not_held (same_bytes (t ∷ ts) e) (λ s.
            let w : times m (t ∷ ts) ≡ 0 = ap (times m) (same_equal (t ∷ ts) e (held (same_bytes (t ∷ ts) e) s)) ∙ z in
            let v : times m (t ∷ ts) ≡ suc n = rw h q in
            omega arith)))

    many_lost : (leb 1 (times m (t ∷ ts)) && many_then (t ∷ ts)) ≡ false
    unfolding times
    many_lost = rw h (go (times m ts))
      where
        go : (n : ℕ) → (leb 1 n && same_bytes (t ∷ ts) (replicate n m ++ e)) ≡ false
        go zero = refl
        go (suc n) = rw h (and-false (leb 1 (suc n)))

-- ---- the states
nine : (b : Bool) → cond b wrong wrong ≡ wrong
nine true = refl
nine false = refl

module _ (good : ℕ → List ℕ → Bool) (a m z end : ℕ) where
  abbrev known : ℕ → Bool
  known t = eqb t a || (eqb t m || eqb t z)

  -- the state after a known type
  abbrev led : ℕ → ℕ → ℕ
  led st t = cond (eqb t a) (cond (eqb st 0) 1 wrong) (cond (eqb t m) (cond (eqb st 1) 2 (cond (eqb st 2) 2 wrong)) (cond (eqb st 2) 3 wrong))

  next_is : (st t : ℕ) → next a m z st t ≡ cond (known t) (led st t) st
  unfolding next
  next_is st t = go (eqb t a) (eqb t m) (eqb t z) (cond (eqb st 0) 1 wrong) (cond (eqb st 1) 2 (cond (eqb st 2) 2 wrong)) (cond (eqb st 2) 3 wrong)
    where
      go : (p q r : Bool) (x y w : ℕ) → cond p x (cond q y (cond r w st)) ≡ cond (p || (q || r)) (cond p x (cond q y w)) st
      go true q r x y w = refl
      go false true r x y w = refl
      go false false true x y w = refl
      go false false false x y w = refl

  next_known : (st t : ℕ) → known t ≡ true → next a m z st t ≡ led st t
  next_known st t h = next_is st t ∙ rw h

  next_skips : (st t : ℕ) → known t ≡ false → next a m z st t ≡ st
  next_skips st t h = next_is st t ∙ rw h

  -- none leads on from an item out of order
  stuck : (ts : List ℕ) → all known ts ≡ true → state_after (in_order good a m z end) wrong ts ≡ wrong
  unfolding state_after
  stuck [] k = refl
  stuck (t ∷ ts) k = rw (next_known wrong t (left_of _ _ k), nine (eqb t m), nine (eqb t a)) (stuck ts (right_of (known t) _ k))

  module _ (e : List ℕ) (no : eqb wrong end ≡ false) where
    lost : (ts : List ℕ) → all known ts ≡ true → eqb (state_after (in_order good a m z end) wrong ts) end ≡ false
    lost ts k = rw (stuck ts k) no

    module _ (am : eqb a m ≡ false) (ma : eqb m a ≡ false) (n0 : eqb 0 end ≡ false) (n1 : eqb 1 end ≡ false) (n2 : eqb 2 end ≡ same_bytes [] e) (ze : times m e ≡ 0)
        (tail : (t : ℕ) (ts : List ℕ) → known t ≡ true → all known ts ≡ true → eqb t m ≡ false → eqb (state_after (in_order good a m z end) (cond (eqb t a) wrong 3) ts) end ≡ same_bytes (t ∷ ts) e) where
      from_2 : (ts : List ℕ) → all known ts ≡ true → eqb (state_after (in_order good a m z end) 2 ts) end ≡ many_then m e ts
      unfolding state_after times
      from_2 [] k = n2
      from_2 (t ∷ ts) k = rw (next_known 2 t (left_of _ _ k)) (go (eqb t m) refl (from_2 ts (right_of (known t) _ k)))
        where
          go : (d : Bool) → eqb t m ≡ d → eqb (state_after (in_order good a m z end) 2 ts) end ≡ many_then m e ts
              → eqb (state_after (in_order good a m z end) (cond (eqb t a) wrong (cond d 2 3)) ts) end ≡ many_then m e (t ∷ ts)
          go true q ih = rw (eqb-true t m q, ma) (ih ∙ sym (many_more m e ts))
          go false q ih = tail t ts (left_of _ _ k) (right_of (known t) _ k) q ∙ sym (many_end m e t ts q ze)

      from_1 : (ts : List ℕ) → all known ts ≡ true → eqb (state_after (in_order good a m z end) 1 ts) end ≡ (leb 1 (times m ts) && many_then m e ts)
      unfolding state_after times
      from_1 [] k = n1
      from_1 (t ∷ ts) k = rw (next_known 1 t (left_of _ _ k)) (go (eqb t m) refl)
        where
          go : (d : Bool) → eqb t m ≡ d → eqb (state_after (in_order good a m z end) (cond (eqb t a) wrong (cond d 2 wrong)) ts) end ≡ (leb 1 (times m (t ∷ ts)) && many_then m e (t ∷ ts))
          go true q = rw (eqb-true t m q, ma) (from_2 ts (right_of (known t) _ k) ∙ sym (many_some m e ts))
          go false q = rw (nine (eqb t a)) (lost ts (right_of (known t) _ k) ∙ sym (many_lost m e t ts q))

      from_0 : (ts : List ℕ) → all known ts ≡ true → eqb (state_after (in_order good a m z end) 0 ts) end ≡ (leb 1 (times m ts) && same_bytes ts (a ∷ (replicate (times m ts) m ++ e)))
      unfolding state_after times
      from_0 [] k = n0
      from_0 (t ∷ ts) k = rw (next_known 0 t (left_of _ _ k)) (go (eqb t a) refl)
        where
          go : (d : Bool) → eqb t a ≡ d
              → eqb (state_after (in_order good a m z end) (cond d 1 (cond (eqb t m) wrong wrong)) ts) end ≡ (leb 1 (times m (t ∷ ts)) && (d && same_bytes ts (replicate (times m (t ∷ ts)) m ++ e)))
          go true q = rw (eqb-true t a q, am) (from_1 ts (right_of (known t) _ k))
          go false q = rw (nine (eqb t m)) (lost ts (right_of (known t) _ k) ∙ sym (and-false (leb 1 (times m (t ∷ ts)))))

-- ---- in a 20H
sub_known : (t : ℕ) → among t context_known ≡ known sub_good 0x30 0x40 0x40 2 t
unfolding among
sub_known t = go (eqb t 0x30) (eqb t 0x40)
  where
    go : (p q : Bool) → (p || (q || false)) ≡ (p || (q || q))
    go true q = refl
    go false true = refl
    go false false = refl

sub_tail : (t : ℕ) (ts : List ℕ) → known sub_good 0x30 0x40 0x40 2 t ≡ true → all (known sub_good 0x30 0x40 0x40 2) ts ≡ true → eqb t 0x40 ≡ false
    → eqb (state_after sub_rule (cond (eqb t 0x30) wrong 3) ts) 2 ≡ false
sub_tail t ts h k q = go (eqb t 0x30) h
  where
    go : (p : Bool) → (p || (eqb t 0x40 || eqb t 0x40)) ≡ true → eqb (state_after sub_rule (cond p wrong 3) ts) 2 ≡ false
    go true g = lost sub_good 0x30 0x40 0x40 2 [] refl ts k
    go false g = absurd (held false (simp q at g))

sub_bodies : (t : ℕ) (b : List ℕ) → sub_good t b ≡ cond (among t context_known) (name_ok b) true
unfolding sub_good among
sub_bodies t b = go (eqb t 0x30) (eqb t 0x40)
  where
    go : (p q : Bool) → cond p (name_ok b) (cond q (name_ok b) true) ≡ cond (p || (q || false)) (name_ok b) true
    go true q = refl
    go false true = refl
    go false false = refl

pub sub_is : (w : Walk) → keeps sub_rule 0 w ≡ subs_ok w
unfolding subs_ok holds among times
sub_is w =
    let n : times 0x40 (only context_known (types w)) ≡ length (bodies 0x40 w) = times_only 0x40 context_known (types w) refl ∙ times_types 0x40 w in
    let s = from_0 sub_good 0x30 0x40 0x40 2 [] refl refl refl refl refl refl refl sub_tail (only context_known (types w))
    (only_known context_known (known sub_good 0x30 0x40 0x40 2) (λ t h. sym (sub_known t) ∙ h) (types w)) in
    keeps_is sub_rule context_known named sub_bodies (λ st t h. next_skips sub_good 0x30 0x40 0x40 2 st t (sym (sub_known t) ∙ h)) 0 w
    ∙ (rw (s, n, append-nil) (gather (leb 1 (length (bodies 0x40 w))) (filled w) (same_bytes (only context_known (types w)) (context_order (length (bodies 0x40 w)))) (good_bodies context_known named w)))

-- ---- in an RQ or an AC, with k for the type of a context
module _ (k : ℕ) where
  abbrev top_type : ℕ → Bool
  top_type = known (top_good k) 0x10 k 0x50 3

  top_known_so : (t : ℕ) → among t (top_known k) ≡ top_type t
  unfolding among
  top_known_so t = go (eqb t 0x10) (eqb t k) (eqb t 0x50)
    where
      go : (p q r : Bool) → (p || (q || (r || false))) ≡ (p || (q || r))
      go true q r = refl
      go false true r = refl
      go false false true = refl
      go false false false = refl

  top_lost : (ts : List ℕ) → all top_type ts ≡ true → eqb (state_after (top_rule k) wrong ts) 3 ≡ false
  top_lost = lost (top_good k) 0x10 k 0x50 3 [] refl

  from_3 : (ts : List ℕ) → all top_type ts ≡ true → eqb (state_after (top_rule k) 3 ts) 3 ≡ same_bytes ts []
  unfolding state_after
  from_3 [] h = refl
  from_3 (t ∷ ts) h = rw (next_known (top_good k) 0x10 k 0x50 3 3 t (left_of _ _ h), nine (eqb t k), nine (eqb t 0x10)) (top_lost ts (right_of (top_type t) _ h))

  top_tail : (t : ℕ) (ts : List ℕ) → top_type t ≡ true → all top_type ts ≡ true → eqb t k ≡ false → eqb (state_after (top_rule k) (cond (eqb t 0x10) wrong 3) ts) 3 ≡ same_bytes (t ∷ ts) (0x50 ∷ [])
  top_tail t ts h r q = go (eqb t 0x10) refl (eqb t 0x50) refl h
    where
      go : (p : Bool) → eqb t 0x10 ≡ p → (u : Bool) → eqb t 0x50 ≡ u → (p || (eqb t k || u)) ≡ true → eqb (state_after (top_rule k) (cond p wrong 3) ts) 3 ≡ (u && same_bytes ts [])
      go true e true f g = let x = eqb-true t 0x10 e in let y = eqb-true t 0x50 f in absurd (omega arith)
      go true e false f g = top_lost ts r
      go false e true f g = from_3 ts r
      go false e false f g = absurd (held false (simp q at g))

-- ---- k is 10H or 50H: the order wants one more of it than there are, and the loop does not come to 3
few : (k : ℕ) (ts : List ℕ) → (times k (top_order k (times k ts)) ≡ times k ts → ⊥) → same_bytes ts (top_order k (times k ts)) ≡ false
few k ts n =
    let o : List ℕ = top_order k (times k ts) in
    not_held (same_bytes ts o) (λ e. n (sym (ap (times k) (same_equal ts o (held (same_bytes ts o) e)))))

few_10 : (ts : List ℕ) → same_bytes ts (top_order 0x10 (times 0x10 ts)) ≡ false
unfolding times
few_10 ts = few 0x10 ts (λ e. let n = times_same 0x10 (times 0x10 ts) (0x50 ∷ []) in omega arith)

few_50 : (ts : List ℕ) → same_bytes ts (top_order 0x50 (times 0x50 ts)) ≡ false
unfolding times
few_50 ts = few 0x50 ts (λ e. let n = times_same 0x50 (times 0x50 ts) (0x50 ∷ []) in omega arith)

-- states that known types do not lead out of
never : (k : ℕ) (in? : ℕ → Bool) → in? 3 ≡ false → ((st t : ℕ) → top_type k t ≡ true → in? st ≡ true → in? (led (top_good k) 0x10 k 0x50 3 st t) ≡ true)
    → (ts : List ℕ) (st : ℕ) → all (top_type k) ts ≡ true → in? st ≡ true → eqb (state_after (top_rule k) st ts) 3 ≡ false
unfolding state_after
never k in? n f [] st h i = not_held (eqb st 3) (λ e. held false (sym n ∙ (ap in? (sym (eqb-true st 3 e)) ∙ i)))
never k in? n f (t ∷ ts) st h i =
    let g : top_type k t ≡ true = left_of _ _ h in
    rw (next_known (top_good k) 0x10 k 0x50 3 st t g) (never k in? n f ts (led (top_good k) 0x10 k 0x50 3 st t) (right_of (top_type k t) _ h) (f st t g i))

abbrev early : ℕ → Bool
early st = not (eqb st 2) && not (eqb st 3)

tens : (ts : List ℕ) → all (top_type 0x10) ts ≡ true → eqb (state_after (top_rule 0x10) 0 ts) 3 ≡ false
tens ts h = never 0x10 early refl (λ st t g. go st (eqb t 0x10) (eqb st 0) (eqb st 2)) ts 0 h refl
  where
    go : (st : ℕ) (p b d : Bool) → (not d && not (eqb st 3)) ≡ true → early (cond p (cond b 1 wrong) (cond p (cond (eqb st 1) 2 (cond d 2 wrong)) (cond d 3 wrong))) ≡ true
    go st true true d i = refl
    go st true false d i = refl
    go st false b true i = i
    go st false b false i = refl

fifties : (ts : List ℕ) → all (top_type 0x50) ts ≡ true → eqb (state_after (top_rule 0x50) 0 ts) 3 ≡ false
fifties ts h = never 0x50 (λ st. not (eqb st 3)) refl (λ st t g i. go (eqb t 0x10) (eqb t 0x50) (eqb st 0) (eqb st 1) (eqb st 2) g) ts 0 h refl
  where
    go : (p q b c d : Bool) → (p || (q || q)) ≡ true → not (eqb (cond p (cond b 1 wrong) (cond q (cond c 2 (cond d 2 wrong)) (cond d 3 wrong))) 3) ≡ true
    go true q true c d g = refl
    go true q false c d g = refl
    go false true b true d g = refl
    go false true b false true g = refl
    go false true b false false g = refl
    go false false b c d g = absurd (held false g)

-- ---- any type
apart : (k t : ℕ) → eqb k t ≡ false → eqb t k ≡ false
apart k t h = ne_eqb t k (λ e. eqb-false k t h (sym e))

top_order_so : (k : ℕ) (ts : List ℕ) → all (top_type k) ts ≡ true → eqb (state_after (top_rule k) 0 ts) 3 ≡ (leb 1 (times k ts) && same_bytes ts (top_order k (times k ts)))
unfolding times
top_order_so k ts = go (eqb k 0x10) refl (eqb k 0x50) refl
  where
    go : (p : Bool) → eqb k 0x10 ≡ p → (q : Bool) → eqb k 0x50 ≡ q
        → all (top_type k) ts ≡ true → eqb (state_after (top_rule k) 0 ts) 3 ≡ (leb 1 (times k ts) && same_bytes ts (top_order k (times k ts)))
    go true e q f = rw (eqb-true k 0x10 e) λ s. tens ts s ∙ rw (few_10 ts) (sym (and-false (leb 1 (times 0x10 ts))))
    go false e true f = rw (eqb-true k 0x50 f) λ s. fifties ts s ∙ rw (few_50 ts) (sym (and-false (leb 1 (times 0x50 ts))))
    go false e false f = λ s. from_0 (top_good k) 0x10 k 0x50 3 (0x50 ∷ []) refl (apart k 0x10 e) e refl refl refl (rw (apart k 0x50 f)) (top_tail k) ts s

module _ (k : ℕ) where
  top_bodies : (t : ℕ) (b : List ℕ) → top_good k t b ≡ cond (among t (top_known k)) (top_good k t b) true
  unfolding top_good among
  top_bodies t b = go (eqb t 0x10) (eqb t k) (eqb t 0x50)
    where
      go : (p q r : Bool) → cond p (name_ok b) (cond q (context_good k b) (cond r (good_50h b) true)) ≡ cond (p || (q || (r || false))) (cond p (name_ok b) (cond q (context_good k b) (cond r (good_50h b) true))) true
      go true q r = refl
      go false true r = refl
      go false false true = refl
      go false false false = refl

  k_known : among k (top_known k) ≡ true
  unfolding among
  k_known = rw (eq-eqb k k refl) (or-true (eqb k 0x10))

  pub top_is : (w : Walk) → keeps (top_rule k) 0 w ≡ top_ok k w
  unfolding top_ok holds
  top_is w =
      let n : times k (only (top_known k) (types w)) ≡ length (bodies k w) = times_only k (top_known k) (types w) k_known ∙ times_types k w in
      let s = top_order_so k (only (top_known k) (types w)) (only_known (top_known k) (top_type k) (λ t h. sym (top_known_so k t) ∙ h) (types w)) in
      keeps_is (top_rule k) (top_known k) (top_good k) top_bodies (λ st t h. next_skips (top_good k) 0x10 k 0x50 3 st t (sym (top_known_so k t) ∙ h)) 0 w
      ∙ (rw (s, n)
      (gather (leb 1 (length (bodies k w))) (filled w) (same_bytes (only (top_known k) (types w)) (top_order k (length (bodies k w)))) (good_bodies (top_known k) (top_good k) w)))
