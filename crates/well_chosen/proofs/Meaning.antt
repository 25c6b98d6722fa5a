-- What is chosen is well chosen: no better-liked match exists, every name was proposed, a refused context has none, and the answers may be sent.
-- Assumes nothing.
use Prim.Native.Nat.{ℕ, zero, suc, ◌<◌}
use native.Mathlib.Omega.{arith}
use native.Mathlib.Decide.{dec_lt}
use mathlib.Core.Bool.{Bool, true, false, ◌&&◌, ◌||◌, cond}
use mathlib.Core.List.{List, [], ◌∷◌, map}
use mathlib.Core.Path.{◌≡◌, refl, sym, ap, ◌∙◌}
use mathlib.Core.Logic.{◌⊎◌, inl, inr}
use lib.ListN.{length, get_or, length-map}
use lib.Dec.{leb, eqb}
use borrow.Author.Tests.{eqb-true, eqb-false}
use Rattle.laws.specs.Lists.{all, any, empty, same_bytes, distinct}
use Rattle.laws.proofs.Booleans.{held, holds, not_held, left_of, right_of, both_of}
use Rattle.laws.proofs.Found.{none_at, some_at, any_at}
use Rattle.laws.proofs.Same.{same_equal, same_self}
use Rattle.names.specs.Name.{name_ok}
use Rattle.numbers.specs.Results.{ACCEPTED, ABSTRACT-NOT-SUPPORTED, TRANSFER-NOT-SUPPORTED}
use Rattle.octets.specs.Octets.{odd}
use Rattle.sheets.specs.Contexts.{Context, Answered, context_id, answered_id, context_ok, transfer_name_ok, answered_ok, contexts_ok, all_answered_ok}
use Rattle.choosing.specs.Choice.{Liked, same_abstract, was_proposed, matches, result_for, transfer_for, chosen, chosen_for}
use Rattle.well_chosen.specs.Meaning.{OneOf, Matches, liked_at, Best, NoCommon, NotThere, WellChosen, ShutOut}

-- ---- the tests say what their words say
one_of : (x : List ℕ) (xs : List (List ℕ)) → any (same_bytes x) xs ≡ true → OneOf x xs
one_of x xs e =
    let o = some_at (same_bytes x) [] xs e in
    record { place = o.0; there = o.1.0; same = sym (same_equal x _ (held _ o.1.1)) }

one_of_back : (x : List ℕ) (xs : List (List ℕ)) (k : ℕ) → k < length xs → get_or xs k [] ≡ x → any (same_bytes x) xs ≡ true
one_of_back x xs k h e = any_at (same_bytes x) [] xs k h (ap (same_bytes x) e ∙ holds (same_bytes x x) (same_self x))

pub proposed_means : (c : Context) (x : List ℕ) → was_proposed c x ≡ true → OneOf x c.transfers
unfolding was_proposed
proposed_means c x e = one_of x c.transfers e

pub matches_means : (c : Context) (w : Liked) → matches c w ≡ true → Matches c w
unfolding matches same_abstract was_proposed
matches_means c w e =
    record {
      abstract_name = same_equal _ _ (held _ (left_of (same_bytes w.abstr c.abstr) (was_proposed c w.transfer) e));
      transfer_name = one_of w.transfer c.transfers (right_of (same_bytes w.abstr c.abstr) (was_proposed c w.transfer) e);
    }

same_back : (c : Context) (w : Liked) → w.abstr ≡ c.abstr → same_abstract c w ≡ true
unfolding same_abstract
same_back c w e = ap (λ (z : List ℕ). same_bytes z c.abstr) e ∙ holds (same_bytes c.abstr c.abstr) (same_self c.abstr)

matches_back : (c : Context) (w : Liked) → Matches c w → matches c w ≡ true
unfolding matches was_proposed
matches_back c w m = both_of _ _ (same_back c w m.abstract_name) (let o = m.transfer_name in one_of_back w.transfer c.transfers o.place o.there o.same)

-- ---- past the last record
abbrev past : Liked
past = liked_at [] 0

-- ---- no better-liked match exists
best : (c : Context) (ws : List Liked) → any (matches c) ws ≡ true → Best ws c (transfer_for c ws)
unfolding transfer_for
best c [] e = absurd (held false e)
best c (w ∷ ws) e = go (matches c w) refl e (best c ws)
  where
    go : (b : Bool) → matches c w ≡ b → (b || any (matches c) ws) ≡ true → (any (matches c) ws ≡ true → Best ws c (transfer_for c ws)) → Best (w ∷ ws) c (cond b w.transfer (transfer_for c ws))
    go true q r f = record { place = 0; there = omega arith; matching = matches_means c w q; none_better = λ k h m. absurd (omega arith); name = refl }
    go false q r f =
        let o = f r in
        let t = o.there in
        record { place = suc o.place; there = omega arith; matching = o.matching; none_better = lower o.place o.none_better; name = o.name }
      where
        lower : (n : ℕ) → ((k : ℕ) → k < n → Matches c (liked_at ws k) → ⊥) → (k : ℕ) → k < suc n → Matches c (liked_at (w ∷ ws) k) → ⊥
        lower n g zero h m = held false (sym q ∙ matches_back c w m)
        lower n g (suc k) h m = g k (omega arith) m

no_common : (c : Context) (ws : List Liked) → any (matches c) ws ≡ false → any (same_abstract c) ws ≡ true → NoCommon ws c
unfolding same_abstract
no_common c ws e q =
    let o = some_at (same_abstract c) past ws q in
    record {
      none = λ k h m. held false (sym (none_at (matches c) past ws e k h) ∙ matches_back c (liked_at ws k) m);
      place = o.0;
      there = o.1.0;
      abstract_name = same_equal _ _ (held _ o.1.1);
    }

not_there : (c : Context) (ws : List Liked) → any (same_abstract c) ws ≡ false → NotThere ws c
not_there c ws e k h m = held false (sym (none_at (same_abstract c) past ws e k h) ∙ same_back c (liked_at ws k) m)

-- which result comes when
module _ (c : Context) (ws : List Liked) where
  by_result : (a b : Bool) → any (matches c) ws ≡ a → any (same_abstract c) ws ≡ b → result_for c ws ≡ cond a ACCEPTED (cond b TRANSFER-NOT-SUPPORTED ABSTRACT-NOT-SUPPORTED)
  unfolding result_for
  by_result a b p q = rw (p, q)

  accepted_so : result_for c ws ≡ ACCEPTED → Best ws c (transfer_for c ws)
  accepted_so e = go (any (matches c) ws) (any (same_abstract c) ws) refl refl
    where
      go : (a b : Bool) → any (matches c) ws ≡ a → any (same_abstract c) ws ≡ b → Best ws c (transfer_for c ws)
      go true b p q = best c ws p
      go false true p q = let z = by_result false true p q in absurd (omega arith)
      go false false p q = let z = by_result false false p q in absurd (omega arith)

  no_transfer_so : result_for c ws ≡ TRANSFER-NOT-SUPPORTED → NoCommon ws c
  no_transfer_so e = go (any (matches c) ws) (any (same_abstract c) ws) refl refl
    where
      go : (a b : Bool) → any (matches c) ws ≡ a → any (same_abstract c) ws ≡ b → NoCommon ws c
      go true b p q = let z = by_result true b p q in absurd (omega arith)
      go false true p q = no_common c ws p q
      go false false p q = let z = by_result false false p q in absurd (omega arith)

  no_abstract_so : result_for c ws ≡ ABSTRACT-NOT-SUPPORTED → NotThere ws c
  no_abstract_so e = go (any (matches c) ws) (any (same_abstract c) ws) refl refl
    where
      go : (a b : Bool) → any (matches c) ws ≡ a → any (same_abstract c) ws ≡ b → NotThere ws c
      go true b p q = let z = by_result true b p q in absurd (omega arith)
      go false true p q = let z = by_result false true p q in absurd (omega arith)
      go false false p q = not_there c ws q

  one_of_results : (result_for c ws ≡ ACCEPTED) ⊎ ((result_for c ws ≡ TRANSFER-NOT-SUPPORTED) ⊎ (result_for c ws ≡ ABSTRACT-NOT-SUPPORTED))
  one_of_results = go (any (matches c) ws) (any (same_abstract c) ws) refl refl
    where
      go : (a b : Bool) → any (matches c) ws ≡ a → any (same_abstract c) ws ≡ b → (result_for c ws ≡ ACCEPTED) ⊎ ((result_for c ws ≡ TRANSFER-NOT-SUPPORTED) ⊎ (result_for c ws ≡ ABSTRACT-NOT-SUPPORTED))
      go true b p q = inl (by_result true b p q)
      go false true p q = inr (inl (by_result false true p q))
      go false false p q = inr (inr (by_result false false p q))

  -- and back
  best_so : (x : List ℕ) → Best ws c x → any (matches c) ws ≡ true
  best_so x o = any_at (matches c) past ws o.place o.there (matches_back c (liked_at ws o.place) o.matching)

  -- the best name is the one that is found
  best_name : (x : List ℕ) → Best ws c x → transfer_for c ws ≡ x
  best_name x o = let f = best c ws (best_so x o) in go f (dec_lt f.place o.place) (dec_lt o.place f.place)
    where
      go : (f : Best ws c (transfer_for c ws)) → Dec (f.place < o.place) → Dec (o.place < f.place) → transfer_for c ws ≡ x
      go f (yes h) d = absurd (o.none_better f.place h f.matching)
      go f (no h) (yes l) = absurd (f.none_better o.place l o.matching)
      go f (no h) (no l) =
          let e : f.place ≡ o.place = omega arith in
          sym f.name ∙ (ap (λ (k : ℕ). (liked_at ws k).transfer) e ∙ o.name)

  none_so : ((k : ℕ) → k < length ws → Matches c (liked_at ws k) → ⊥) → any (matches c) ws ≡ false
  none_so f = not_held (any (matches c) ws) (λ e. let o = some_at (matches c) past ws e in f o.0 o.1.0 (matches_means c (liked_at ws o.0) o.1.1))

  no_common_so : NoCommon ws c → result_for c ws ≡ TRANSFER-NOT-SUPPORTED
  no_common_so n = by_result false true (none_so n.none) (any_at (same_abstract c) past ws n.place n.there (same_back c (liked_at ws n.place) n.abstract_name))

  not_there_so : NotThere ws c → result_for c ws ≡ ABSTRACT-NOT-SUPPORTED
  unfolding same_abstract
  not_there_so n =
      by_result false false (none_so (λ k h m. n k h m.abstract_name))
      (not_held (any (same_abstract c) ws) (λ e. let o = some_at (same_abstract c) past ws e in n o.0 o.1.0 (same_equal _ _ (held _ o.1.1))))

-- where none matches, no name
refused_name : (c : Context) (ws : List Liked) → any (matches c) ws ≡ false → transfer_for c ws ≡ []
unfolding transfer_for
refused_name c [] e = refl
refused_name c (w ∷ ws) e = go (matches c w) e (refused_name c ws)
  where
    go : (b : Bool) → (b || any (matches c) ws) ≡ false → (any (matches c) ws ≡ false → transfer_for c ws ≡ []) → cond b w.transfer (transfer_for c ws) ≡ []
    go true q f = absurd (held false (sym q))
    go false q f = f q

refused_so : (c : Context) (ws : List Liked) → (result_for c ws ≡ ACCEPTED → ⊥) → transfer_for c ws ≡ []
refused_so c ws n = go (any (matches c) ws) refl
  where
    go : (d : Bool) → any (matches c) ws ≡ d → transfer_for c ws ≡ []
    go true e = absurd (n (by_result c ws true (any (same_abstract c) ws) e refl))
    go false e = refused_name c ws e

pub well_chosen : (ws : List Liked) (c : Context) → WellChosen ws c (chosen ws c)
unfolding chosen
well_chosen ws c =
    record {
      same_id = refl;
      best = λ x o. (by_result c ws true (any (same_abstract c) ws) (best_so c ws x o) refl, best_name c ws x o);
      no_common = no_common_so c ws;
      not_there = not_there_so c ws;
      accepted = accepted_so c ws;
      no_transfer = no_transfer_so c ws;
      no_abstract = no_abstract_so c ws;
      no_other = one_of_results c ws;
      refused = refused_so c ws;
    }

pub shut_out : (ws : List Liked) (c : Context) → ShutOut ws c
shut_out ws c =
    record {
      best_no_common = λ x b n. n.none b.place b.there b.matching;
      best_not_there = λ x b n. n b.place b.there b.matching.abstract_name;
      no_common_not_there = λ m n. n m.place m.there m.abstract_name;
    }

-- each of the answers to contexts
pub each_chosen : (ws : List Liked) (cs : List Context) (k : ℕ) → k < length cs → (c : Context) (a : Answered) → WellChosen ws (get_or cs k c) (get_or (chosen_for ws cs) k a)
unfolding chosen_for
each_chosen ws [] k h c a = absurd (omega arith)
each_chosen ws (x ∷ cs) zero h c a = well_chosen ws x
each_chosen ws (x ∷ cs) (suc k) h c a = each_chosen ws cs k (omega arith) c a

-- ---- the transfer name of an accepted context was proposed for it
pub was_proposed_so : (ws : List Liked) (c : Context) → (chosen ws c).result ≡ ACCEPTED → OneOf (chosen ws c).transfer c.transfers
was_proposed_so ws c e =
    let b = (well_chosen ws c).accepted e in
    let o = b.matching.transfer_name in
    record { place = o.place; there = o.there; same = o.same ∙ b.name }

-- ---- the answers may be sent
module _ (c : Context) (g : context_ok c ≡ true) where
  context_parts : (odd c.id && (name_ok c.abstr && (leb 1 (length c.transfers) && all name_ok c.transfers))) ≡ true
  unfolding context_ok
  context_parts = g

  names_parts : (leb 1 (length c.transfers) && all name_ok c.transfers) ≡ true
  names_parts = right_of (name_ok c.abstr) _ (right_of (odd c.id) _ context_parts)

all_at : (p : List ℕ → Bool) (xs : List (List ℕ)) (k : ℕ) → k < length xs → all p xs ≡ true → p (get_or xs k []) ≡ true
all_at p [] k h g = absurd (omega arith)
all_at p (x ∷ xs) zero h g = left_of _ _ g
all_at p (x ∷ xs) (suc k) h g = all_at p xs k (omega arith) (right_of (p x) _ g)

result_most : (c : Context) (ws : List Liked) → leb (result_for c ws) 4 ≡ true
unfolding result_for
result_most c ws = go (any (matches c) ws) (any (same_abstract c) ws)
  where
    go : (a b : Bool) → leb (cond a ACCEPTED (cond b TRANSFER-NOT-SUPPORTED ABSTRACT-NOT-SUPPORTED)) 4 ≡ true
    go true b = refl
    go false true = refl
    go false false = refl

name_goes : (ws : List Liked) (c : Context) → context_ok c ≡ true → transfer_name_ok (result_for c ws) (transfer_for c ws) ≡ true
unfolding transfer_name_ok chosen
name_goes ws c g = go (eqb (result_for c ws) ACCEPTED) refl
  where
    go : (d : Bool) → eqb (result_for c ws) ACCEPTED ≡ d → cond d (name_ok (transfer_for c ws)) (empty (transfer_for c ws)) ≡ true
    go true e =
        let o = was_proposed_so ws c (eqb-true _ _ e) in
        ap name_ok (sym o.same) ∙ all_at name_ok c.transfers o.place o.there (right_of (leb 1 (length c.transfers)) _ (names_parts c g))
    go false e = ap empty (refused_so c ws (eqb-false _ _ e))

answer_good : (ws : List Liked) (c : Context) → context_ok c ≡ true → answered_ok (chosen ws c) ≡ true
unfolding answered_ok chosen
answer_good ws c g = both_of (odd c.id) _ (left_of (odd c.id) _ (context_parts c g)) (both_of _ _ (result_most c ws) (name_goes ws c g))

answers_good : (ws : List Liked) (cs : List Context) → all context_ok cs ≡ true → all answered_ok (chosen_for ws cs) ≡ true
unfolding chosen_for
answers_good ws [] g = refl
answers_good ws (c ∷ cs) g = both_of _ _ (answer_good ws c (left_of _ _ g)) (answers_good ws cs (right_of (context_ok c) _ g))

-- the proposal's IDs in their order
pub same_ids : (ws : List Liked) (cs : List Context) → map answered_id (chosen_for ws cs) ≡ map context_id cs
unfolding chosen_for chosen
same_ids ws [] = refl
same_ids ws (c ∷ cs) = ap (λ (l : List ℕ). c.id ∷ l) (same_ids ws cs)

as_many : (ws : List Liked) (cs : List Context) → length (chosen_for ws cs) ≡ length cs
unfolding chosen_for
as_many ws cs = length-map cs (chosen ws)

pub all_good : (ws : List Liked) (cs : List Context) → contexts_ok cs ≡ true → all_answered_ok (chosen_for ws cs) ≡ true
unfolding contexts_ok all_answered_ok
all_good ws cs g =
    let r : (all context_ok cs && distinct (map context_id cs)) ≡ true = right_of (leb 1 (length cs)) _ g in
    both_of _ _ (ap (leb 1) (as_many ws cs) ∙ left_of _ _ g) (both_of _ _ (answers_good ws cs (left_of _ _ r)) (ap distinct (same_ids ws cs) ∙ right_of (all context_ok cs) _ r))
