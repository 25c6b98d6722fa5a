-- Laws of a role sheet's 54H items, measured and written a record at a time.
-- Assumes nothing.
use Prim.Native.Nat.{ℕ, ◌+◌, ◌/◌, ◌%◌, ◌≤◌, ◌<◌}
use native.Mathlib.Omega.{arith}
use mathlib.Core.List.{List, [], ◌∷◌, ◌++◌}
use mathlib.Core.Path.{◌≡◌, refl, ap, ◌∙◌}
use lib.ListN.{length, drop, get_or, length-append}
use Rattle.std.proofs.lemmas.List.{drop_all}
use borrow.Author.Rules.{rules}
use Rattle.numbers.specs.Lengths.{LONGEST}
use Rattle.octets.specs.Octets.{two}
use Rattle.octets.specs.Put.{Placed}
use Rattle.octets.specs.Private.Put.{Put}
use Rattle.octets.proofs.PutLaws.{placed_put, next_room, next_put}
use Rattle.items.specs.Wire.{item_bytes}
use Rattle.items.proofs.WireLaws.{item_length}
use Rattle.roles.specs.Record.{uid_at}
use Rattle.roles.specs.Sheet.{role_in}
use Rattle.roles.proofs.RecordLaws.{uid_first, uid_short}
use Rattle.user_items.specs.Sent.{role_body}
use Rattle.writing_associate.specs.Private.ContextItems.{capped}
use Rattle.writing_associate.specs.Private.RoleItems.{role_bytes, role_items}
use Rattle.writing_associate.proofs.ItemLaws.{Writing, writing_start, writing_room, writing_next, writing_done, drop_step}
use Rattle.writing_associate.proofs.ContextLaws.{capped_low, capped_high}

-- ---- a record's 54H, and the rest
role_is : (r : List ℕ) → role_bytes r ≡ item_bytes 0x54 (two (length (role_in r).uid) ++ ((role_in r).uid ++ (get_or r 1 0 ∷ get_or r 2 0 ∷ [])))
unfolding role_bytes role_body role_in
role_is r = refl

role_long : (r : List ℕ) → length (role_bytes r) ≡ 8 + length (role_in r).uid
role_long r = rw role_is (simp (length-append, item_length) (omega arith))

roles_cons : (r : List ℕ) (rs : List (List ℕ)) → role_items (r ∷ rs) ≡ role_bytes r ++ role_items rs
unfolding role_items role_bytes
roles_cons r rs = refl

pub roles_rest : (rs : List (List ℕ)) (i : ℕ) → i < length rs → role_items (drop i rs) ≡ role_bytes (get_or rs i []) ++ role_items (drop (i + 1) rs)
roles_rest rs i h = ap role_items (drop_step rs i [] h) ∙ roles_cons (get_or rs i []) (drop (i + 1) rs)

pub roles_none : (rs : List (List ℕ)) (i : ℕ) → length rs ≤ i → role_items (drop i rs) ≡ []
unfolding role_items
roles_none rs i h = rw (drop_all i rs h)

-- ---- `uid_of`
pub uid_is : (r : List ℕ) → length r ≡ 68 → uid_at r 0 ≡ (role_in r).uid
unfolding role_in
uid_is r l = uid_first r l

pub uid_64 : (r : List ℕ) → length r ≡ 68 → length (role_in r).uid ≤ 64
uid_64 r l = rw (← uid_is r l) (uid_short r 0)

-- ---- `roles_size`
module _ (base : ℕ) (rs : List (List ℕ)) (n i : ℕ) (v : base + length (role_items rs) ≡ n + length (role_items (drop i rs))) where
  module _ (h : i < length rs) (x : List ℕ) (q : x ≡ (role_in (get_or rs i [])).uid) where
    roles_sum : length (role_items (drop i rs)) ≡ 8 + length x + length (role_items (drop (i + 1) rs))
    roles_sum =
        let a = length-append (role_bytes (get_or rs i [])) (role_items (drop (i + 1) rs)) in
        let b = role_long (get_or rs i []) in
        let d = ap length q in
        ap length (roles_rest rs i h) ∙ omega arith

    pub size_next : base + length (role_items rs) ≡ n + (8 + length x) + length (role_items (drop (i + 1) rs))
    size_next = let l = roles_sum in omega arith

    pub size_over : LONGEST < n + (8 + length x) → LONGEST + 1 ≡ capped (base + length (role_items rs))
    size_over o = let l = roles_sum in capped_high _ (omega arith)

  pub size_done : length rs ≤ i → n ≤ LONGEST → n ≡ capped (base + length (role_items rs))
  size_done h l = let d = ap length (roles_none rs i h) in let z : n ≡ base + length (role_items rs) = omega arith in z ∙ capped_low _ (omega arith)

pub ruleset roles_size_laws = (rules, size_next, size_over, size_done)

-- ---- `put_role`
module _ (r o x : List ℕ) (at : ℕ) (h : at + length (role_bytes r) ≤ length o) (e : x ≡ (role_in r).uid) where
  abbrev head : List ℕ
  head = 0x54 ∷ 0 ∷ (length x + 4) / 256 ∷ (length x + 4) % 256 ∷ length x / 256 ∷ length x % 256 ∷ []

  abbrev both : List ℕ
  both = get_or r 1 0 ∷ get_or r 2 0 ∷ []

  role_parts : role_bytes r ≡ head ++ (x ++ both)
  unfolding item_bytes
  role_parts =
      let l : length (two (length x) ++ (x ++ both)) ≡ length x + 4 = (let a = length-append x both in omega arith) in
      rw (role_is r, ← e, l)

  pub role_put : (l k o₁ o₂ o₃ : List ℕ) (i j n : ℕ) → l ≡ two (length x + 4) → k ≡ two (length x)
      → Placed o at (0x54 ∷ 0 ∷ get_or l 0 0 ∷ get_or l 1 0 ∷ get_or k 0 0 ∷ get_or k 1 0 ∷ []) i o₁ → Placed o₁ i x j o₂
      → Placed o₂ j (get_or r 1 0 ∷ get_or r 2 0 ∷ []) n o₃ → Put o at (role_bytes r) n o₃
  role_put l k o₁ o₂ o₃ i j n f g p q t =
      let a = role_long r in
      let d = ap length e in
      let c = length-append x both in
      let p' : Put o at head i o₁ = placed_put o at head (rw (f, g) at p) (omega arith) in
      let m : i + length (x ++ both) ≤ length o₁ = next_room o at head (x ++ both) o₁ i (omega arith) p' in
      let q' : Put o₁ i (x ++ both) n o₃ = (let u : Put o₁ i x j o₂ = placed_put o₁ i x q (omega arith) in next_put o₁ i x both o₂ j (omega arith) u (placed_put o₂ j both t (next_room o₁ i x both o₂ j (omega arith) u))) in
      rw role_parts (next_put o at head (x ++ both) o₁ i (omega arith) p' q')

pub ruleset put_role_laws = (rules, role_put)

-- ---- `put_roles`
module _ (o₀ all o : List ℕ) (rs : List (List ℕ)) (from n i : ℕ) (w : Writing o₀ from all o n (role_items (drop i rs))) where
  module _ (h : i < length rs) where
    pub roles_room : n + length (role_bytes (get_or rs i [])) ≤ length o
    roles_room = writing_room o₀ all o _ from n w _ _ (roles_rest rs i h)

    pub roles_more : (o' : List ℕ) (n' : ℕ) → Put o n (role_bytes (get_or rs i [])) n' o' → Writing o₀ from all o' n' (role_items (drop (i + 1) rs))
    roles_more = writing_next o₀ all o _ from n w _ _ (roles_rest rs i h)

  pub roles_end : length rs ≤ i → Put o₀ from all n o
  roles_end h = writing_done o₀ all o _ from n w (roles_none rs i h)

pub ruleset put_roles_laws = (rules, writing_start, roles_room, roles_more, roles_end)
