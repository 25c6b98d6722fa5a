-- The roles put into the role sheet: one record, the loop, and that for good 54Hs they are the sheet of the roles.
-- Assumes nothing.
use Prim.Native.Nat.{ℕ, ◌+◌, ◌*◌, ◌≤◌}
use native.Mathlib.Omega.{arith}
use mathlib.Core.Bool.{true}
use mathlib.Core.List.{List, [], ◌∷◌, map}
use mathlib.Core.Path.{◌≡◌, refl, ap, ◌∙◌}
use lib.ListN.{length, take, get_or}
use lib.Seq.{take_all}
use lib.Dec.{eqb}
use Rattle.laws.specs.Lists.{all}
use Rattle.laws.proofs.Booleans.{left_of, right_of}
use Rattle.octets.specs.Octets.{be16}
use Rattle.octets.specs.Private.Put.{Put}
use Rattle.octets.specs.Put.{Placed}
use Rattle.octets.proofs.PutLaws.{placed_put}
use Rattle.names.proofs.NameLaws.{name_short}
use Rattle.items.specs.Items.{Walk, item}
use Rattle.sheets.proofs.RecordLaws.{field_length, cut_short}
use Rattle.roles.specs.Role.{role_ok}
use Rattle.roles.specs.Sheet.{role_bytes, role_sheet}
use Rattle.roles.specs.Record.{record_of}
use Rattle.user_items.specs.Kinds.{uid_in, role_of, good_54h}
use Rattle.reading.specs.Private.Records.{each, role_record}
use Rattle.reading.proofs.FillLaws.{Filling, fill_wide, each_wide}

-- ---- one record
role_long : (uid : List ℕ) (scu scp : ℕ) → length (record_of uid scu scp) ≡ 68
unfolding record_of role_bytes
role_long uid scu scp = let l = field_length (take 64 uid) (cut_short uid) in omega arith

role_68 : (b : List ℕ) → length (role_record b) ≡ 68
unfolding role_record
role_68 b = role_long (role_of b).uid (role_of b).scu (role_of b).scp

-- `put_role`
module _ (b uid : List ℕ) (l scu scp : ℕ) (p : l ≡ be16 b 0) (q : uid ≡ uid_in b) (u : scu ≡ get_or b (2 + l) 0) (v : scp ≡ get_or b (3 + l) 0) where
  role_is : record_of uid scu scp ≡ role_record b
  unfolding role_record role_of
  role_is = rw (q, u, v, p)

  pub role_written : (o o' r : List ℕ) (n m : ℕ) → n + 68 ≤ length o → r ≡ record_of uid scu scp → Placed o n r m o' → Put o n (role_record b) m o'
  role_written o o' r n m h e w =
      let z : length r ≡ 68 = ap length e ∙ role_long uid scu scp in
      rw (e ∙ role_is) at (placed_put o n r w (omega arith))

  pub role_keeps : (r : List ℕ) → r ≡ record_of uid scu scp → length r ≡ 68
  role_keeps r e = ap length e ∙ role_long uid scu scp

pub ruleset role_laws = (role_written, role_keeps)

-- ---- `put_roles`: a record has room
pub fill_68 : (w₀ w : Walk) (o₀ : List ℕ) (from : ℕ) (o : List ℕ) (n : ℕ) → Filling role_record 0x54 w₀ w o₀ from o n → (u : ℕ) (b : List ℕ) (w' : Walk) → w ≡ item u b w' → u ≡ 0x54 → n + 68 ≤ length o
fill_68 = fill_wide role_record 68 0x54 role_68

-- ---- 68 bytes for each
pub roles_size_so : (bs : List (List ℕ)) → length (each role_record bs) ≡ 68 * length bs
roles_size_so = each_wide role_record 68 role_68

-- ---- a good 54H has no name that is too long for its field
role_short : (b : List ℕ) → good_54h b ≡ true → length (uid_in b) ≤ 64
unfolding good_54h role_ok role_of
role_short b g = name_short (uid_in b) (left_of _ _ (right_of (eqb (length b) (2 + be16 b 0 + 2)) _ g))

pub roles_sheet : (bs : List (List ℕ)) → all good_54h bs ≡ true → each role_record bs ≡ role_sheet (map role_of bs)
unfolding each role_record record_of role_sheet role_of
roles_sheet [] g = refl
roles_sheet (b ∷ bs) g = rw (take_all 64 (uid_in b) (role_short b (left_of _ _ g)), roles_sheet bs (right_of (good_54h b) _ g))
