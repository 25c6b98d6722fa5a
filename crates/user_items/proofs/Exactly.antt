-- `good_50h` tells exactly what Meaning.Good50H says field by field.
-- Assumes nothing.
use Prim.Native.Nat.{ℕ, zero, suc, ◌≤◌, ◌<◌}
use native.Mathlib.Omega.{arith}
use mathlib.Core.Bool.{Bool, true, ◌&&◌}
use mathlib.Core.List.{List, [], ◌∷◌, map}
use mathlib.Core.Path.{◌≡◌, refl, sym, ap, ◌∙◌}
use lib.ListN.{length, get_or, length-map}
use lib.Dec.{leb}
use borrow.Author.Tests.{le-leb, leb-true, eq-eqb, eqb-true}
use Rattle.laws.specs.Lists.{all, differ}
use Rattle.laws.proofs.Booleans.{left_of, right_of, both_of}
use Rattle.laws.proofs.Differ.{differ_apart, apart_differ}
use Rattle.laws.proofs.Found.{all_at, at_all}
use Rattle.names.specs.Name.{name_ok}
use Rattle.titles.specs.Title.{title_byte}
use Rattle.items.specs.Items.{walk, bodies}
use Rattle.roles.specs.Role.{Role, role_ok}
use Rattle.user_items.specs.Kinds.{alike, four_long, version_ok, uid_in, role_of, good_54h, user_kinds, kept, good_50h}
use Rattle.user_items.specs.Meaning.{body, AtMostOne, Good54H, Good55H, Good50H}
use Rattle.user_items.specs.Sent.{role_body}
use Rattle.user_items.proofs.RoleLaws.{role_54, role_body_so, role_named, role_scu, role_scp, body_good}
use Rattle.user_items.proofs.GoodLaws.{few_alike, other, user_filled, maximum_four, maximum_one, class_good, class_few, counts_four, counts_few, roles_good, uids_differ, version_good, version_few, user_back, kept_back}

-- ---- strings at their places, and what is made of each
made_at : (f : List ℕ → List ℕ) (xs : List (List ℕ)) (i : ℕ) → i < length xs → get_or (map f xs) i [] ≡ f (get_or xs i [])
made_at f [] i h = absurd (omega arith)
made_at f (x ∷ xs) zero h = refl
made_at f (x ∷ xs) (suc i) h = made_at f xs i (omega arith)

apart : (f : List ℕ → List ℕ) (xs : List (List ℕ)) → differ (map f xs) ≡ true → (i j : ℕ) → i < j → j < length xs → f (get_or xs i []) ≡ f (get_or xs j []) → ⊥
apart f xs d i j h l q =
    let m = length-map xs f in
    differ_apart (map f xs) d i j h (omega arith) (made_at f xs i (omega arith) ∙ (q ∙ sym (made_at f xs j l)))

apart_back : (f : List ℕ → List ℕ) (xs : List (List ℕ)) → ((i j : ℕ) → i < j → j < length xs → f (get_or xs i []) ≡ f (get_or xs j []) → ⊥) → differ (map f xs) ≡ true
apart_back f xs n =
    let m = length-map xs f in
    apart_differ (map f xs) (λ i j h l q. n i j h (omega arith) (sym (made_at f xs i (omega arith)) ∙ (q ∙ made_at f xs j (omega arith))))

-- ---- the bodies
pub exactly_54 : (b : List ℕ) → good_54h b ≡ true → Good54H b
unfolding role_body
exactly_54 b g =
    let r : Role = role_of b in
    let k = role_54 b g in
    record { uid = r.uid; scu = r.scu; scp = r.scp; bytes = sym (role_body_so b g); name = role_named r k; scu_role = role_scu r k; scp_role = role_scp r k }

pub exactly_54_back : (b : List ℕ) → Good54H b → good_54h b ≡ true
unfolding role_ok role_body
exactly_54_back b m =
    let r : Role = record { uid = m.uid; scu = m.scu; scp = m.scp } in
    ap good_54h m.bytes ∙ body_good r (both_of _ _ m.name (both_of _ _ (le-leb _ _ m.scu_role) (le-leb _ _ m.scp_role)))

pub exactly_55 : (b : List ℕ) → version_ok b ≡ true → Good55H b
unfolding version_ok
exactly_55 b g =
    let r : (leb (length b) 16 && all title_byte b) ≡ true = right_of (leb 1 (length b)) _ g in
    record { least = leb-true _ _ (left_of _ (leb (length b) 16 && all title_byte b) g); most = leb-true _ _ (left_of _ _ r); characters = all_at title_byte 0 b (right_of (leb (length b) 16) _ r) }

pub exactly_55_back : (b : List ℕ) → Good55H b → version_ok b ≡ true
unfolding version_ok
exactly_55_back b m = both_of _ _ (le-leb _ _ m.least) (both_of _ _ (le-leb _ _ m.most) (at_all title_byte 0 b m.characters))

four_is : (b : List ℕ) → four_long b ≡ true → length b ≡ 4
unfolding four_long
four_is b g = eqb-true _ _ g

four_back : (b : List ℕ) → length b ≡ 4 → four_long b ≡ true
unfolding four_long
four_back b e = eq-eqb _ _ e

-- ---- a kind of which at most one may come
one : (t : ℕ) (b : List ℕ) (good : List ℕ → Bool) (Good : List ℕ → Type 0) → ((c : List ℕ) → good c ≡ true → Good c) → all good (bodies t (walk b)) ≡ true → length (bodies t (walk b)) ≤ 1 → AtMostOne t b Good
one t b good Good f g l = record { few = l; good = λ i h. f (body t b i) (all_at good [] (bodies t (walk b)) g i h) }

one_back : (t : ℕ) (b : List ℕ) (good : List ℕ → Bool) (Good : List ℕ → Type 0) → ((c : List ℕ) → Good c → good c ≡ true) → AtMostOne t b Good → kept (walk b) (record { type = t; good = good; once = alike }) ≡ true
one_back t b good Good f m =
    kept_back (walk b) (record { type = t; good = good; once = alike }) (at_all good [] (bodies t (walk b)) (λ i h. f (body t b i) (m.good i h))) (few_alike (bodies t (walk b)) m.few)

-- ---- the whole
pub exactly : (b : List ℕ) → good_50h b ≡ true → Good50H b
exactly b g =
    let n = maximum_one b g in
    record {
      fills = user_filled b g;
      one_maximum = n;
      maximum = four_is (body 0x51 b 0) (all_at four_long [] (bodies 0x51 (walk b)) (maximum_four b g) 0 (omega arith));
      class = one 0x52 b name_ok (λ c. name_ok c ≡ true) (λ c h. h) (class_good b g) (class_few b g);
      counts = one 0x53 b four_long (λ c. length c ≡ 4) four_is (counts_four b g) (counts_few b g);
      version = one 0x55 b version_ok Good55H exactly_55 (version_good b g) (version_few b g);
      roles = λ i h. exactly_54 (body 0x54 b i) (all_at good_54h [] (bodies 0x54 (walk b)) (roles_good b g) i h);
      once = apart uid_in (bodies 0x54 (walk b)) (uids_differ b g);
    }

pub exactly_back : (b : List ℕ) → Good50H b → good_50h b ≡ true
exactly_back b m = let n = m.one_maximum in user_back b m.fills (omega arith) kinds
  where
    maximums : AtMostOne 0x51 b (λ c. length c ≡ 4)
    maximums = let n = m.one_maximum in record { few = omega arith; good = λ i h. let z : i ≡ 0 = omega arith in ap (λ (k : ℕ). length (body 0x51 b k)) z ∙ m.maximum }

    kinds : (n : ℕ) → n < 5 → kept (walk b) (get_or user_kinds n other) ≡ true
    kinds zero h = one_back 0x51 b four_long (λ c. length c ≡ 4) four_back maximums
    kinds (suc zero) h = one_back 0x52 b name_ok (λ c. name_ok c ≡ true) (λ c e. e) m.class
    kinds (suc (suc zero)) h = one_back 0x53 b four_long (λ c. length c ≡ 4) four_back m.counts
    kinds (suc (suc (suc zero))) h = kept_back (walk b) (record { type = 0x54; good = good_54h; once = uid_in }) (at_all good_54h [] (bodies 0x54 (walk b)) (λ i l. exactly_54_back (body 0x54 b i) (m.roles i l))) (apart_back uid_in (bodies 0x54 (walk b)) m.once)
    kinds (suc (suc (suc (suc zero)))) h = one_back 0x55 b version_ok Good55H exactly_55_back m.version
    kinds (suc (suc (suc (suc (suc n))))) h = absurd (omega arith)
