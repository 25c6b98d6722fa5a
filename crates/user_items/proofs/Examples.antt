-- The sub-items of a 50H at the edges of their rules, written down from the documents: antt computes what is good, what the good ones say, and what is sent.
-- Assumes nothing.
use Prim.Native.Nat.{ℕ, ◌+◌, ◌*◌, ◌-◌}
use Prim.Native.String.{String}
use mathlib.Core.Bool.{Bool, true, not, ◌&&◌, cond}
use mathlib.Core.List.{List, [], ◌∷◌, ◌++◌}
use mathlib.Core.Path.{◌≡◌, refl}
use lib.ListN.{replicate}
use lib.Dec.{leb, eqb}
use Rattle.laws.specs.Lists.{all, empty, same_bytes}
use Rattle.laws.specs.Text.{bytes}
use Rattle.items.specs.Items.{Walk, walk, bodies, place}
use Rattle.items.specs.Wire.{item_bytes}
use Rattle.items.proofs.Examples.{items_open}
use Rattle.roles.specs.Role.{Role}
use Rattle.roles.specs.Sheet.{role_sheet}
use Rattle.roles.proofs.Examples.{roles_open}
use Rattle.user_items.specs.Kinds.{four_long, version_ok, uid_in, role_of, good_54h, kept, sub_items_ok, good_50h}
use Rattle.user_items.specs.Said.{class_said, version_said, count_said, invoked_said, performed_said, roles_said}
use Rattle.user_items.specs.Sent.{User, count_ok, user_good, role_body, count_items, role_items, version_items, sub_items, user_bytes}

-- what the definitions of the user information compute with, by one name for an `unfolding` line
unfoldable pub user_open : Unit {0}
unfolding items_open roles_open four_long version_ok uid_in role_of good_54h kept sub_items_ok good_50h count_said roles_said count_ok user_good role_body count_items role_items version_items sub_items user_bytes
user_open = tt

-- bytes as hexadecimal digits, two each, spaces between them
abbrev digit : ℕ → ℕ
digit c = cond (leb c 57) (c - 48) (c - 87)

abbrev digits : List ℕ → List ℕ
digits [] = []
digits (c ∷ []) = []
digits (c ∷ d ∷ cs) = cond (eqb c 32) (digits (d ∷ cs)) ((16 * digit c + digit d) ∷ digits cs)

abbrev hex : String → List ℕ
hex s = digits (bytes s)

-- ---- good ones, with what they say: the class UID and the version name, each behind its place (0 where there is none), the counts, the roles as their sheet
record Row : Type 0 where
  body : List ℕ
  class_at_so : ℕ
  class : List ℕ
  version_at_so : ℕ
  version : List ℕ
  invoked : ℕ
  performed : ℕ
  roles : List ℕ

abbrev row : List ℕ → ℕ → List ℕ → ℕ → List ℕ → ℕ → ℕ → List ℕ → Row
row body ca class va version invoked performed roles =
    record { body = body; class_at_so = ca; class = class; version_at_so = va; version = version; invoked = invoked; performed = performed; roles = roles }

abbrev place_of : ℕ → Walk → ℕ
place_of t w = cond (empty (bodies t w)) 0 (place t w)

abbrev says : Row → Bool
says r =
    good_50h r.body
    && (eqb (place_of 0x52 (walk r.body)) r.class_at_so
    && (same_bytes (class_said (walk r.body)) r.class
    && (eqb (place_of 0x55 (walk r.body)) r.version_at_so
    && (same_bytes (version_said (walk r.body)) r.version
    && (eqb (invoked_said (walk r.body)) r.invoked
    && (eqb (performed_said (walk r.body)) r.performed
    && same_bytes (role_sheet (roles_said (walk r.body))) r.roles))))))

abbrev good : List Row
good =
    -- 1: 51H alone
    row (hex "51000004 00004000") 0 [] 0 [] 1 1 []
    -- 2: 52H once
    ∷ row (hex "51000004 00004000 52000005 312e322e33") 12 (bytes "1.2.3") 0 [] 1 1 []
    -- 6: 52H of 64 bytes
    ∷ row (hex "51000004 00004000 52000040" ++ replicate 64 0x31) 12 (replicate 64 0x31) 0 [] 1 1 []
    -- 10: 53H absent
    ∷ row (hex "51000004 00004000 52000005 312e322e33") 12 (bytes "1.2.3") 0 [] 1 1 []
    -- 11: 53H 1,1
    ∷ row (hex "51000004 00004000 53000004 0001 0001") 0 [] 0 [] 1 1 []
    -- 12: 53H 0,0
    ∷ row (hex "51000004 00004000 53000004 0000 0000") 0 [] 0 [] 0 0 []
    -- 13: 53H 2,FFFFH
    ∷ row (hex "51000004 00004000 53000004 0002 ffff") 0 [] 0 [] 2 65535 []
    -- 18: 54H good, 1/0
    ∷ row (hex "51000004 00004000 54000007 0003 312e32 01 00") 0 [] 0 [] 1 1 (hex "03010000 312e32" ++ replicate 61 0)
    -- 19: 54H good, 0/1
    ∷ row (hex "51000004 00004000 54000007 0003 312e32 00 01") 0 [] 0 [] 1 1 (hex "03000100 312e32" ++ replicate 61 0)
    -- 20: 54H both roles 0
    ∷ row (hex "51000004 00004000 54000007 0003 312e32 00 00") 0 [] 0 [] 1 1 (hex "03000000 312e32" ++ replicate 61 0)
    -- 37: 54H "1.2" and "1.2.3"
    ∷ row (hex "51000004 00004000 54000007 0003 312e32 01 00 54000009 0005 312e322e33 00 01") 0 [] 0 [] 1 1 ((hex "03010000 312e32" ++ replicate 61 0) ++ (hex "05000100 312e322e33" ++ replicate 59 0))
    -- 40: 54H of a 64-byte UID
    ∷ row (hex "51000004 00004000 54000044 0040" ++ (replicate 64 0x31 ++ hex "01 01")) 0 [] 0 [] 1 1 (hex "40010100" ++ replicate 64 0x31)
    -- 42: 54H UID equal to the class UID
    ∷ row (hex "51000004 00004000 52000005 312e322e33 54000009 0005 312e322e33 01 01") 12 (bytes "1.2.3") 0 [] 1 1 (hex "05010100 312e322e33" ++ replicate 59 0)
    -- 44: 55H of length 1
    ∷ row (hex "51000004 00004000 55000001 41") 0 [] 12 (hex "41") 1 1 []
    -- 45: 55H of length 16
    ∷ row (hex "51000004 00004000 55000010 4142434445464748494a4b4c4d4e4f50") 0 [] 12 (hex "4142434445464748494a4b4c4d4e4f50") 1 1 []
    -- 48: 55H one space
    ∷ row (hex "51000004 00004000 55000001 20") 0 [] 12 (hex "20") 1 1 []
    -- 49: 55H 16 spaces
    ∷ row (hex "51000004 00004000 55000010" ++ replicate 16 0x20) 0 [] 12 (replicate 16 0x20) 1 1 []
    -- 52: 55H with 7EH, 5BH, 5DH, 20H
    ∷ row (hex "51000004 00004000 55000004 7e5b5d20") 0 [] 12 (hex "7e5b5d20") 1 1 []
    -- 55: 56H-59H rubbish, twice
    ∷ row (hex "51000004 00004000 56000001 ff 57000000 58000003 000000 59000002 ffff 58000000 56000001 ff 52000005 312e322e33") 43 (bytes "1.2.3") 0 [] 1 1 []
    -- 56: 50H and 20H in it
    ∷ row (hex "51000004 00004000 5000000452000000 20000001 00 52000005 312e322e33") 25 (bytes "1.2.3") 0 [] 1 1 []
    -- 59: reversed order
    ∷ row (hex "55000001 41 54000007 0003 312e33 00 01 54000007 0003 312e32 01 00 53000004 0005 0006 52000005 312e322e33 51000004 00004000") 39 (bytes "1.2.3") 4 (hex "41") 5 6 ((hex "03000100 312e33" ++ replicate 61 0) ++ (hex "03010000 312e32" ++ replicate 61 0))
    -- 60: reserved bytes FFH
    ∷ row (hex "51ff0004 00000000 52ff0001 31 53ff0004 0001 0002 54ff0005 0001 31 0101 55ff0001 41") 12 (bytes "1") 34 (hex "41") 1 2 (hex "01010100 31" ++ replicate 63 0)
    ∷ []

pub judged_good : all says good ≡ true
unfolding user_open
judged_good = refl

-- ---- bad ones
abbrev bad : List (List ℕ)
bad =
    -- 3: 52H twice, equal
    (hex "51000004 00004000 52000005 312e322e33 52000005 312e322e33")
    -- 4: 52H twice, different
    ∷ (hex "51000004 00004000 52000005 312e322e33 52000003 312e32")
    -- 5: 52H empty
    ∷ (hex "51000004 00004000 52000000")
    -- 7: 52H of 65 bytes
    ∷ (hex "51000004 00004000 52000041" ++ replicate 65 0x31)
    -- 8: 52H with trailing NUL
    ∷ (hex "51000004 00004000 52000004 312e3200")
    -- 9: 52H "1.02"
    ∷ (hex "51000004 00004000 52000004 312e3032")
    -- 14: 53H of length 5
    ∷ (hex "51000004 00004000 53000005 0001 0001 00")
    -- 15: 53H of length 3
    ∷ (hex "51000004 00004000 53000003 0001 00")
    -- 16: 53H of length 0
    ∷ (hex "51000004 00004000 53000000")
    -- 17: 53H twice
    ∷ (hex "51000004 00004000 53000004 0001 0001 53000004 0001 0001")
    -- 21: 54H UID length passes the end
    ∷ (hex "51000004 00004000 54000007 0006 312e32 01 00")
    -- 22: 54H UID length 1 too long
    ∷ (hex "51000004 00004000 54000007 0004 312e32 01 00")
    -- 23: 54H UID length 1 too short
    ∷ (hex "51000004 00004000 54000007 0002 312e32 01 00")
    -- 24: 54H UID length 2 too short
    ∷ (hex "51000004 00004000 54000007 0001 312e32 01 00")
    -- 25: 54H UID length 0103H for 3
    ∷ (hex "51000004 00004000 54000007 0103 312e32 01 00")
    -- 26: 54H SCU role 2
    ∷ (hex "51000004 00004000 54000007 0003 312e32 02 00")
    -- 27: 54H SCP role 2
    ∷ (hex "51000004 00004000 54000007 0003 312e32 00 02")
    -- 28: 54H SCP role FFH
    ∷ (hex "51000004 00004000 54000007 0003 312e32 01 ff")
    -- 29: 54H of length 4, UID length 0
    ∷ (hex "51000004 00004000 54000004 0000 01 00")
    -- 30: 54H of length 3
    ∷ (hex "51000004 00004000 54000003 0000 01")
    -- 31: 54H of length 2
    ∷ (hex "51000004 00004000 54000002 0000")
    -- 32: 54H of length 1
    ∷ (hex "51000004 00004000 54000001 00")
    -- 33: 54H of length 0
    ∷ (hex "51000004 00004000 54000000")
    -- 34: 54H one byte behind the roles
    ∷ (hex "51000004 00004000 54000008 0003 312e32 01 00 00")
    -- 35: 54H same UID twice, apart
    ∷ (hex "54000007 0003 312e32 01 00 51000004 00004000 54000007 0003 312e33 01 01 52000005 312e322e33 54000007 0003 312e32 01 00")
    -- 36: 54H same UID, other roles
    ∷ (hex "51000004 00004000 54000007 0003 312e32 01 00 54000007 0003 312e32 00 01")
    -- 38: 54H with trailing NUL in the UID
    ∷ (hex "51000004 00004000 54000008 0004 312e3200 01 00")
    -- 39: 54H "1.2" twice, one bad role
    ∷ (hex "51000004 00004000 54000007 0003 312e32 01 00 54000007 0003 312e32 02 00")
    -- 41: 54H of a 65-byte UID
    ∷ (hex "51000004 00004000 54000045 0041" ++ (replicate 65 0x31 ++ hex "01 01"))
    -- 43: 55H of length 0
    ∷ (hex "51000004 00004000 55000000")
    -- 46: 55H of length 17
    ∷ (hex "51000004 00004000 55000011 4142434445464748494a4b4c4d4e4f5051")
    -- 47: 55H with 5CH
    ∷ (hex "51000004 00004000 55000003 415c42")
    -- 50: 55H with 7FH
    ∷ (hex "51000004 00004000 55000002 417f")
    -- 51: 55H with 1FH
    ∷ (hex "51000004 00004000 55000002 1f41")
    -- 53: 55H with trailing NUL
    ∷ (hex "51000004 00004000 55000002 4100")
    -- 54: 55H twice
    ∷ (hex "51000004 00004000 55000001 41 55000001 42")
    -- 57: 51H missing, others good
    ∷ (hex "52000005 312e322e33 55000001 41")
    -- 58: 51H twice, others good
    ∷ (hex "51000004 00004000 52000005 312e322e33 51000004 00004000")
    -- 61: remainder of 3 behind good ones
    ∷ (hex "51000004 00004000 52000005 312e322e33 520000")
    -- 62: last 52H passes the 50H
    ∷ (hex "51000004 00004000 52000006 312e322e33")
    ∷ []

pub judged_bad : all (λ b. not (good_50h b)) bad ≡ true
unfolding user_open
judged_bad = refl

-- ---- what is sent
abbrev user : List ℕ → ℕ → ℕ → List Role → User
user version invoked performed roles = record { class = bytes "1.2.3"; version = version; invoked = invoked; performed = performed; roles = role_sheet roles }

abbrev role : String → ℕ → ℕ → Role
role uid scu scp = record { uid = bytes uid; scu = scu; scp = scp }

-- good contents, with the 50H
abbrev sends : User × List ℕ → Bool
sends s = user_good s.0 && same_bytes (item_bytes 0x50 (user_bytes s.0)) s.1

abbrev sent : List (User × List ℕ)
sent =
    -- the class UID alone
    (user [] 1 1 [], hex "50000011 5100000400004000 52000005312e322e33")
    -- all of them
    ∷ (user (bytes "FEO 1") 0 1 (role "1.2" 1 0 ∷ role "1.2.3" 0 1 ∷ []), hex "5000003a 5100000400004000 52000005312e322e33 5300000400000001 540000070003312e320100 540000090005312e322e330001 5500000546454f2031")
    -- counts
    ∷ (user [] 1 0 [], hex "50000019 5100000400004000 52000005312e322e33 5300000400010000")
    -- 0 and 0 is not "absent"
    ∷ (user [] 0 0 [], hex "50000019 5100000400004000 52000005312e322e33 5300000400000000")
    -- one space
    ∷ (user (bytes " ") 1 1 [], hex "50000016 5100000400004000 52000005312e322e33 5500000120")
    -- roles as given, not sorted
    ∷ (user [] 1 1 (role "9" 0 0 ∷ role "1.2" 1 1 ∷ []), hex "50000025 5100000400004000 52000005312e322e33 540000050001390000 540000070003312e320101")
    ∷ []

pub judged_sent : all sends sent ≡ true
unfolding user_open
judged_sent = refl

-- ---- contents that are refused: a class UID, a version name, a role sheet
abbrev with_class : List ℕ → User
with_class class = record { class = class; version = []; invoked = 1; performed = 1; roles = [] }

abbrev with_sheet : List ℕ → User
with_sheet sheet = record { class = bytes "1.2.3"; version = []; invoked = 1; performed = 1; roles = sheet }

abbrev refused : List User
refused =
    with_class []
    ∷ with_class (bytes "1.02")
    ∷ with_class (bytes "1.2.")
    ∷ with_class (bytes "1..2")
    ∷ with_class (replicate 65 0x31)
    ∷ with_class (hex "312e3200")
    ∷ with_class (bytes "1.a")
    ∷ with_class (bytes "1.2 ")
    -- of 17 bytes; with 5CH, 1FH, 7FH, 00H, 80H
    ∷ user (replicate 17 0x41) 1 1 []
    ∷ user (hex "415c") 1 1 []
    ∷ user (hex "1f41") 1 1 []
    ∷ user (hex "417f41") 1 1 []
    ∷ user (hex "4100") 1 1 []
    ∷ user (hex "80") 1 1 []
    -- a part record
    ∷ with_sheet (0 ∷ [])
    ∷ with_sheet (role_sheet (role "1.2" 1 0 ∷ []) ++ (0 ∷ []))
    -- a UID of 0 bytes, a role of 2, a fourth byte, a UID twice and apart
    ∷ with_sheet (role_sheet (role "" 1 0 ∷ []))
    ∷ with_sheet (role_sheet (role "1.2" 2 0 ∷ []))
    ∷ with_sheet (hex "03010001312e32" ++ replicate 61 0)
    -- an SCP role of 2; a UID length of 65; an unused byte behind the name; a length one less than the name; a UID in two neighbours
    ∷ with_sheet (role_sheet (role "1.2" 0 2 ∷ []))
    ∷ with_sheet (hex "41010000" ++ replicate 64 0x31)
    ∷ with_sheet (hex "03010000312e32" ++ (replicate 60 0 ++ (1 ∷ [])))
    ∷ with_sheet (hex "03010000312e322e" ++ replicate 60 0)
    ∷ with_sheet (role_sheet (role "1.2" 1 0 ∷ role "1.2" 0 1 ∷ []))
    ∷ with_sheet (role_sheet (role "1.2" 1 0 ∷ role "1.3" 1 0 ∷ role "1.2" 0 1 ∷ []))
    ∷ []

pub judged_refused : all (λ u. not (user_good u)) refused ≡ true
unfolding user_open
judged_refused = refl

-- the counts are never refused; 16 spaces, a UID of 64 bytes and a role for the class UID itself are good
abbrev taken : List User
taken =
    user [] 65535 65535 []
    ∷ user (replicate 16 0x20) 1 1 []
    ∷ with_class (replicate 64 0x31)
    ∷ user [] 1 1 (role "1.2.3" 0 0 ∷ [])
    ∷ []

pub judged_taken : all user_good taken ≡ true
unfolding user_open
judged_taken = refl
