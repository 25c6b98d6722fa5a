-- The bytes of an A-ASSOCIATE-RQ and -AC: "We send version 1, maximum 16,384, items in the order above, no skipped types, reserved bytes zero except the AC's fields
-- that Table 9-17 wants as received". The user information is that of user_items.
use Rattle.std.specs.Prelude.{ℕ, List, ◌∷◌, ◌++◌, map, length, replicate}
use Rattle.numbers.specs.Kinds.{ASSOCIATE-RQ, ASSOCIATE-AC}
use Rattle.octets.specs.Octets.{four}
use Rattle.items.specs.Wire.{item_bytes, items_bytes}
use Rattle.sheets.specs.Contexts.{Context, Answered}
use Rattle.sheets.specs.Sheet.{contexts_in, answers_in}
use Rattle.user_items.specs.Sent.{user_bytes}
use Rattle.writing.specs.Fields.{RqFields, AcFields}

-- a PDU: type, reserved byte, the PDU-length in four bytes, and what it counts
unfoldable pub pdu_bytes : ℕ → List ℕ → List ℕ
pdu_bytes kind body = kind ∷ 0 ∷ (four (length body) ++ body)

-- what differs between an RQ and an AC: the type, the 64 bytes behind the version, the application name, the contexts' item type and bodies, the user information
pub record AssociatePdu : Type 0 where
  pub kind : ℕ
  pub middle : List ℕ
  pub application : List ℕ
  pub context : ℕ
  pub bodies : List (List ℕ)
  pub user : List ℕ

-- one 10H, the contexts, one 50H
unfoldable pub associate_items : AssociatePdu → List ℕ
associate_items f = item_bytes 0x10 f.application ++ (items_bytes f.context f.bodies ++ item_bytes 0x50 f.user)

-- version 1, two reserved bytes, the 64 bytes, the items
unfoldable pub associate_bytes : AssociatePdu → List ℕ
associate_bytes f = pdu_bytes f.kind (0 ∷ 1 ∷ 0 ∷ 0 ∷ (f.middle ++ associate_items f))

-- 20H: ID, three reserved bytes, the 30H, the 40Hs
unfoldable pub context_body : Context → List ℕ
context_body c = c.id ∷ 0 ∷ 0 ∷ 0 ∷ (item_bytes 0x30 c.abstr ++ items_bytes 0x40 c.transfers)

-- 21H: ID, reserved, result, reserved, the 40H, which of a refused context is empty
unfoldable pub answer_body : Answered → List ℕ
answer_body c = c.id ∷ 0 ∷ c.result ∷ 0 ∷ item_bytes 0x40 c.transfer

-- an RQ: the titles, and 32 reserved bytes
unfoldable pub rq_pdu : RqFields → AssociatePdu
rq_pdu f =
    record {
      kind = ASSOCIATE-RQ;
      middle = f.called ++ (f.calling ++ replicate 32 0);
      application = f.application;
      context = 0x20;
      bodies = map context_body (contexts_in f.sheet);
      user = user_bytes f.user;
    }

-- an AC: "with the accept response the host gives the RQ's PDU bytes 11 to 74 .. and those fields are copied"
unfoldable pub ac_pdu : AcFields → AssociatePdu
ac_pdu f =
    record {
      kind = ASSOCIATE-AC;
      middle = f.echoed;
      application = f.application;
      context = 0x21;
      bodies = map answer_body (answers_in f.sheet);
      user = user_bytes f.user;
    }
