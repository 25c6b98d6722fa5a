-- "for results 1 to 4 all that follows the four fixed bytes is left untested": an AC, and the same AC with anything else there.
use Rattle.std.specs.Prelude.{ℕ, ◌+◌, ◌≤◌, ◌≡◌, true, cond, List, ◌∷◌, ◌++◌, length, eqb}
use Rattle.numbers.specs.Kinds.{ASSOCIATE-AC}
use Rattle.numbers.specs.Lengths.{LONGEST}
use Rattle.numbers.specs.Results.{ACCEPTED}
use Rattle.octets.specs.Octets.{two, four}
use Rattle.items.specs.Items.{walk, filled}
use Rattle.judging.specs.Pdu.{kind_of, acceptable as acceptable_of, maximum_of}
use Rattle.reading.specs.Associate.{application_of, sub_items_of, associate_of, filling, roles_filling}
use Rattle.reading.specs.Associate.{Associate}

-- what stands in an AC around the bytes that follow the four of one of its 21H; reserved bytes as they come
pub record Around : Type 0 where
  pub header_reserved : ℕ
  -- the 68 bytes behind the PDU-length
  pub fixed : List ℕ
  pub before : List ℕ
  pub item_reserved : ℕ
  -- the four
  pub id : ℕ
  pub id_reserved : ℕ
  pub result : ℕ
  pub result_reserved : ℕ
  pub after : List ℕ

-- the body of the 21H, with x behind its four bytes
abbrev pub body_with : Around → List ℕ → List ℕ
body_with p x = p.id ∷ p.id_reserved ∷ p.result ∷ p.result_reserved ∷ x

-- the 21H and what the PDU-length counts, each length set to suit
abbrev pub item_with : Around → List ℕ → List ℕ
item_with p x = 0x21 ∷ p.item_reserved ∷ (two (length (body_with p x)) ++ body_with p x)

abbrev pub counted_with : Around → List ℕ → List ℕ
counted_with p x = p.fixed ++ (p.before ++ (item_with p x ++ p.after))

unfoldable pub ac_with : Around → List ℕ → List ℕ
ac_with p x = ASSOCIATE-AC ∷ p.header_reserved ∷ (four (length (counted_with p x)) ++ counted_with p x)

-- the 21H stands behind the fixed bytes and whole items, and it is refused: with a result above 4 both ACs are invalid
pub record Refused (p : Around) : Type 0 where
  pub fixed_bytes : length p.fixed ≡ 68
  pub whole_items : filled (walk p.before) ≡ true
  pub not_accepted : p.result ≡ ACCEPTED → ⊥

-- the PDU-length is one that we take
abbrev pub Taken : Around → List ℕ → Type 0
Taken p x = length (counted_with p x) ≤ LONGEST

-- a place so many bytes further on; 0 is no place
unfoldable pub further : ℕ → ℕ → ℕ
further n at = cond (eqb at 0) 0 (at + n)

-- an answer with the places of the names in the 50H so many bytes further on
abbrev pub moved : ℕ → Associate → Associate
moved n r =
    record {
      refusal = r.refusal;
      version = r.version;
      application_at = r.application_at;
      application_len = r.application_len;
      maximum = r.maximum;
      records = r.records;
      class_at = further n r.class_at;
      class_len = r.class_len;
      version_name_at = further n r.version_name_at;
      version_name_len = r.version_name_len;
      invoked = r.invoked;
      performed = r.performed;
      roles = r.roles;
    }

-- two PDUs, one with n and one with n' bytes behind the four, are judged alike, and read alike as an AC, whatever the room: the place of the application name too, since it
-- stands before all contexts. The 50H stands behind them, so the places of the names in it differ by as much as n and n' do
pub record Alike (n n' : ℕ) (pdu pdu' : List ℕ) : Type 0 where
  pub kind : kind_of pdu ≡ kind_of pdu'
  -- what the machine asks of an RQ: of an AC never
  pub acceptable : acceptable_of pdu ≡ acceptable_of pdu'
  pub maximum : maximum_of pdu ≡ maximum_of pdu'
  pub name : application_of pdu ≡ application_of pdu'
  -- and so the class UID, the version name, the operation counts and the roles
  pub user : sub_items_of pdu ≡ sub_items_of pdu'
  pub read : (room rolesRoom : ℕ) → moved n' (associate_of ASSOCIATE-AC pdu room rolesRoom) ≡ moved n (associate_of ASSOCIATE-AC pdu' room rolesRoom)
  pub sheet : (room rolesRoom : ℕ) → filling ASSOCIATE-AC pdu room rolesRoom ≡ filling ASSOCIATE-AC pdu' room rolesRoom
  pub roles : (room rolesRoom : ℕ) → roles_filling ASSOCIATE-AC pdu room rolesRoom ≡ roles_filling ASSOCIATE-AC pdu' room rolesRoom
