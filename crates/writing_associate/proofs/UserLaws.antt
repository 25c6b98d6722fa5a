-- Laws of the user information as it is measured and written.
-- Assumes nothing.
use Prim.Native.Nat.{ℕ, ◌+◌, ◌/◌, ◌%◌, ◌≤◌, ◌<◌}
use native.Mathlib.Omega.{arith}
use mathlib.Core.Bool.{Bool, true, false, ◌&&◌, cond}
use mathlib.Core.List.{List, [], ◌∷◌, ◌++◌, append-nil}
use mathlib.Core.Path.{◌≡◌, refl, sym, ap, ◌∙◌}
use lib.ListN.{length, get_or, length-append}
use lib.Dec.{eqb}
use borrow.Author.Rules.{rules}
use Rattle.std.specs.Simd.{first_chunks}
use Rattle.laws.specs.Lists.{empty}
use Rattle.laws.proofs.Library.{chunk_records}
use Rattle.numbers.specs.Lengths.{LONGEST}
use Rattle.octets.specs.Octets.{two, four}
use Rattle.octets.specs.Put.{Placed}
use Rattle.octets.specs.Private.Put.{Put}
use Rattle.octets.proofs.PutLaws.{placed_put, put_nothing, next_room, next_put}
use Rattle.items.specs.Wire.{item_bytes, sequence}
use Rattle.items.proofs.WireLaws.{item_length, sequence_append}
use Rattle.roles.specs.Sheet.{role_records, roles_in}
use Rattle.user_items.specs.Sent.{User, count_items, role_items as roles_sent, version_items, sub_items, user_bytes}
use Rattle.writing_associate.specs.Private.ContextItems.{capped}
use Rattle.writing_associate.specs.Private.RoleItems.{role_items}
use Rattle.writing_associate.specs.Private.UserItems.{count_bytes, version_bytes, behind_51h, UserFit}
use Rattle.writing_associate.proofs.ItemLaws.{part_room, rest_room, both_put, item_room}

-- ---- the sub-items as they are written
-- one item, or none
perhaps : (b : Bool) (t : ℕ) (x : List ℕ) → sequence (cond b [] ((t, x) ∷ [])) ≡ cond b [] (item_bytes t x)
perhaps true t x = refl
perhaps false t x = append-nil (item_bytes t x)

user_is : (u : User) → user_bytes u ≡ item_bytes 0x51 (four LONGEST) ++ behind_51h u
unfolding user_bytes sub_items count_items roles_sent version_items count_bytes role_items version_bytes roles_in
user_is u =
    rw
    (sequence_append (count_items u) (roles_sent u ++ version_items u), sequence_append (roles_sent u) (version_items u), perhaps (eqb u.invoked 1 && eqb u.performed 1) 0x53 (two u.invoked ++ two u.performed), perhaps (empty u.version) 0x55 u.version)

-- ---- `counts_size`, `version_size`
module _ (i p : ℕ) (b : Bool) (e : b ≡ (eqb i 1 && eqb p 1)) where
  counts_absent : b ≡ true → count_bytes i p ≡ []
  unfolding count_bytes
  counts_absent t = rw (← e, t)

  counts_there : b ≡ false → count_bytes i p ≡ item_bytes 0x53 (two i ++ two p)
  unfolding count_bytes
  counts_there t = rw (← e, t)

  pub counts_0 : b ≡ true → 0 ≡ length (count_bytes i p)
  counts_0 t = rw (counts_absent t)

  pub counts_8 : b ≡ false → 8 ≡ length (count_bytes i p)
  counts_8 t = let l = item_length 0x53 (two i ++ two p) in rw (counts_there t) (omega arith)

pub ruleset counts_size_laws = (rules, counts_0, counts_8)

no_version : (v : List ℕ) → length v ≡ 0 → version_bytes v ≡ []
unfolding version_bytes
no_version [] e = refl
no_version (x ∷ v) e = absurd (omega arith)

some_version : (v : List ℕ) → (length v ≡ 0 → ⊥) → version_bytes v ≡ item_bytes 0x55 v
unfolding version_bytes
some_version [] n = absurd (n refl)
some_version (x ∷ v) n = refl

module _ (v : List ℕ) where
  pub version_0 : length v ≡ 0 → 0 ≡ length (version_bytes v)
  version_0 e = rw (no_version v e)

  pub version_4 : (length v ≡ 0 → ⊥) → 4 + length v ≡ length (version_bytes v)
  version_4 n = rw (some_version v n) (sym (item_length 0x55 v))

pub ruleset version_size_laws = (rules, version_0, version_4)

-- ---- `user_size`
module _ (u : User) (f : UserFit u) where
  pub fit_class : length u.class ≤ 64
  fit_class = f.class_short

  pub class_item : length u.class < 65536
  class_item = let h = f.class_short in omega arith

  pub fit_version : length u.version ≤ 16
  fit_version = f.version_short

  pub base_small : (x y : ℕ) → x ≤ 8 → y ≤ 20 → 12 + length u.class + x + y ≤ LONGEST
  base_small x y h l = let k = f.class_short in omega arith

behind_long : (u : User) → length (behind_51h u) ≡ 4 + length u.class + (length (count_bytes u.invoked u.performed) + (length (role_items (role_records u.roles)) + length (version_bytes u.version)))
behind_long u = simp (length-append, item_length)

user_long : (u : User) → length (user_bytes u) ≡ 8 + length (behind_51h u)
user_long u = ap length (user_is u) ∙ (let a = length-append (item_bytes 0x51 (four LONGEST)) (behind_51h u) in let i = item_length 0x51 (four LONGEST) in omega arith)

pub roles_are : (s : List ℕ) (rs : List (List ℕ)) → rs ≡ first_chunks 68 (length s / 68) s → rs ≡ role_records s
unfolding role_records
roles_are s rs e = e ∙ chunk_records 68 (length s / 68) s

pub user_size : (u : User) (x y n : ℕ) (rs : List (List ℕ)) → x ≡ length (count_bytes u.invoked u.performed) → y ≡ length (version_bytes u.version) → rs ≡ first_chunks 68 (length u.roles / 68) u.roles
    → n ≡ capped (12 + length u.class + x + y + length (role_items rs)) → n ≡ capped (length (user_bytes u))
user_size u x y n rs d e f g =
    let a = user_long u in
    let b = behind_long u in
    let r = ap (λ (l : List (List ℕ)). length (role_items l)) (roles_are u.roles rs f) in
    g ∙ ap capped (omega arith)

pub ruleset user_size_laws = (rules, fit_class, fit_version, base_small, user_size)

-- ---- `put_counts`, `put_version`
module _ (o : List ℕ) (at i p : ℕ) (b : Bool) (e : b ≡ (eqb i 1 && eqb p 1)) where
  pub counts_none : b ≡ true → Put o at (count_bytes i p) at o
  counts_none t = rw (counts_absent i p b e t) (put_nothing o at)

  module _ (t : b ≡ false) where
    pub counts_room : at + length (count_bytes i p) ≤ length o → at + 4 + 4 ≤ length o
    counts_room h = let l = counts_8 i p b e t in omega arith

    pub counts_put : (x y o' : List ℕ) (r : ℕ) → x ≡ two i → y ≡ two p → Put o at (item_bytes 0x53 (get_or x 0 0 ∷ get_or x 1 0 ∷ get_or y 0 0 ∷ get_or y 1 0 ∷ [])) r o' → Put o at (count_bytes i p) r o'
    counts_put x y o' r d f q = rw (counts_there i p b e t) (rw (d, f) at q)

pub ruleset put_counts_laws = (rules, counts_none, counts_room, counts_put)

module _ (o v : List ℕ) (at : ℕ) where
  pub version_none : length v ≡ 0 → Put o at (version_bytes v) at o
  version_none e = rw (no_version v e) (put_nothing o at)

  module _ (n : length v ≡ 0 → ⊥) where
    pub version_room : at + length (version_bytes v) ≤ length o → at + 4 + length v ≤ length o
    version_room h = let l = version_4 v n in omega arith

    pub version_put : (o' : List ℕ) (r : ℕ) → Put o at (item_bytes 0x55 v) r o' → Put o at (version_bytes v) r o'
    version_put o' r q = rw (some_version v n) q

pub ruleset put_version_laws = (rules, version_none, version_room, version_put)

-- ---- `put_behind_51`
module _ (o : List ℕ) (at : ℕ) (u : User) (h : at + length (behind_51h u) ≤ length o) where
  abbrev behind_53 : List ℕ
  behind_53 = role_items (role_records u.roles) ++ version_bytes u.version

  abbrev behind_52 : List ℕ
  behind_52 = count_bytes u.invoked u.performed ++ behind_53

  pub class_room : at + 4 + length u.class ≤ length o
  class_room = item_room o u.class at 0x52 (part_room o (item_bytes 0x52 u.class) behind_52 at h)

  module _ (o₁ : List ℕ) (a : ℕ) (q : Put o at (item_bytes 0x52 u.class) a o₁) where
    room_52 : a + length behind_52 ≤ length o₁
    room_52 = rest_room o (item_bytes 0x52 u.class) behind_52 at h o₁ a q

    pub counts_fit : a + length (count_bytes u.invoked u.performed) ≤ length o₁
    counts_fit = part_room o₁ (count_bytes u.invoked u.performed) behind_53 a room_52

    module _ (o₂ : List ℕ) (b : ℕ) (t : Put o₁ a (count_bytes u.invoked u.performed) b o₂) where
      room_53 : b + length behind_53 ≤ length o₂
      room_53 = rest_room o₁ (count_bytes u.invoked u.performed) behind_53 a room_52 o₂ b t

      module _ (rs : List (List ℕ)) (f : rs ≡ first_chunks 68 (length u.roles / 68) u.roles) where
        pub roles_fit : b + length (role_items rs) ≤ length o₂
        roles_fit = rw (roles_are u.roles rs f) (part_room o₂ (role_items (role_records u.roles)) (version_bytes u.version) b room_53)

        module _ (o₃ : List ℕ) (d : ℕ) (w : Put o₂ b (role_items rs) d o₃) where
          roles_there : Put o₂ b (role_items (role_records u.roles)) d o₃
          roles_there = rw (roles_are u.roles rs f) at w

          pub version_fit : d + length (version_bytes u.version) ≤ length o₃
          version_fit = rest_room o₂ (role_items (role_records u.roles)) (version_bytes u.version) b room_53 o₃ d roles_there

          pub behind_put : (o₄ : List ℕ) (g : ℕ) → Put o₃ d (version_bytes u.version) g o₄ → Put o at (behind_51h u) g o₄
          behind_put o₄ g x =
              both_put o (item_bytes 0x52 u.class) behind_52 at h o₁ a q o₄ g
              (both_put o₁ (count_bytes u.invoked u.performed) behind_53 a room_52 o₂ b t o₄ g
              (both_put o₂ (role_items (role_records u.roles)) (version_bytes u.version) b room_53 o₃ d roles_there o₄ g x))

pub ruleset behind_laws = (rules, class_item, fit_version, class_room, counts_fit, roles_fit, version_fit, behind_put)

-- ---- `put_user`
abbrev head : ℕ → List ℕ
head n = 0x50 ∷ 0 ∷ n / 256 ∷ n % 256 ∷ 0x51 ∷ 0 ∷ 0 ∷ 4 ∷ 0 ∷ 0 ∷ 0x40 ∷ 0 ∷ []

head_is : (u : User) (n : ℕ) → n ≡ length (user_bytes u) → item_bytes 0x50 (user_bytes u) ≡ head n ++ behind_51h u
unfolding item_bytes
head_is u n e = rw (← e, user_is u)

module _ (o : List ℕ) (at n : ℕ) (u : User) (e : n ≡ length (user_bytes u)) (h : at + 4 + n ≤ length o)
    (l o₁ : List ℕ) (a : ℕ) (d : l ≡ two n) (q : Placed o at (0x50 ∷ 0 ∷ get_or l 0 0 ∷ get_or l 1 0 ∷ 0x51 ∷ 0 ∷ 0 ∷ 4 ∷ 0 ∷ 0 ∷ 0x40 ∷ 0 ∷ []) a o₁) where
  placed_head : Placed o at (head n) a o₁
  placed_head = rw d at q

  all_room : at + (length (head n) + length (behind_51h u)) ≤ length o
  all_room = let l = user_long u in omega arith

  pub behind_room : a + length (behind_51h u) ≤ length o₁
  behind_room = next_room o at (head n) (behind_51h u) o₁ a all_room (placed_put o at (head n) placed_head (let l = all_room in omega arith))

  pub user_put : (o₂ : List ℕ) (r : ℕ) → Put o₁ a (behind_51h u) r o₂ → Put o at (item_bytes 0x50 (user_bytes u)) r o₂
  user_put o₂ r t = rw (head_is u n e) (next_put o at (head n) (behind_51h u) o₁ a all_room (placed_put o at (head n) placed_head (let l = all_room in omega arith)) t)

pub ruleset put_user_laws = (rules, behind_room, user_put)
