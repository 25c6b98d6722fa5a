-- Document 01, case 3: "RQ with application name 1.2.840.10008.3.1.1.1, ID 1, abstract 1.2.840.10008.1.1, transfer 1.2.840.10008.1.2: PDU-length 155, 161 bytes. Its
-- accepting AC: 134 and 140." By request E4 of document 02 "case 3's lengths grow by what is added": the 52H that is always sent, and what else is given.
use Rattle.std.specs.Prelude.{ℕ, ◌+◌, ◌≡◌, ◌&&◌, cond, List, [], ◌∷◌, ◌++◌, length, replicate, eqb}
use Rattle.laws.specs.Lists.{empty}
use Rattle.laws.specs.Text.{bytes}
use Rattle.numbers.specs.Refusals.{NOT-REFUSED, SHORT-OUTPUT}
use Rattle.octets.specs.Octets.{be32}
use Rattle.sheets.specs.Sheet.{record_bytes}
use Rattle.roles.specs.Role.{Role}
use Rattle.roles.specs.Sheet.{roles_in}
use Rattle.user_items.specs.Sent.{User}
use Rattle.writing.specs.Fields.{RqFields, AcFields}
use Rattle.writing.specs.Form.{rq_form, ac_form, form_refusal}

unfoldable pub asking : User → RqFields
asking user =
    record {
      called = bytes "STORE-EQUINE    ";
      calling = bytes "CART-3          ";
      application = bytes "1.2.840.10008.3.1.1.1";
      user = user;
      sheet = record_bytes 1 0 (bytes "1.2.840.10008.1.1") (bytes "1.2.840.10008.1.2");
    }

-- its PDU bytes 11 to 74 echoed
unfoldable pub accepting : User → AcFields
accepting user =
    record {
      echoed = bytes "STORE-EQUINE    " ++ (bytes "CART-3          " ++ replicate 32 0);
      application = bytes "1.2.840.10008.3.1.1.1";
      user = user;
      sheet = record_bytes 1 0 [] (bytes "1.2.840.10008.1.2");
    }

-- a 54H takes 4 bytes, its UID's length, the UID and the two roles
unfoldable pub roles_size : List Role → ℕ
roles_size [] = 0
roles_size (r ∷ rs) = 4 + (2 + length r.uid + 2) + roles_size rs

-- what is added: the 52H, and where it is sent the 53H, each 54H and the 55H
unfoldable pub added : User → ℕ
added u =
    4 + length u.class
    + cond (eqb u.invoked 1 && eqb u.performed 1) 0 8
    + roles_size (roles_in u.roles)
    + cond (empty u.version) 0 (4 + length u.version)

-- for any user information that may be sent and has room: the PDU-length in the PDU's own bytes, all bytes, and the room that is just enough or one short
pub record Case3 (u : User) : Type 0 where
  pub rq_length : be32 (rq_form (asking u)).pdu 2 ≡ 155 + added u
  pub rq_bytes : length (rq_form (asking u)).pdu ≡ 161 + added u
  pub rq_sent : form_refusal (rq_form (asking u)) (161 + added u) ≡ NOT-REFUSED
  pub rq_short : form_refusal (rq_form (asking u)) (160 + added u) ≡ SHORT-OUTPUT
  pub ac_length : be32 (ac_form (accepting u)).pdu 2 ≡ 134 + added u
  pub ac_bytes : length (ac_form (accepting u)).pdu ≡ 140 + added u
  pub ac_sent : form_refusal (ac_form (accepting u)) (140 + added u) ≡ NOT-REFUSED
  pub ac_short : form_refusal (ac_form (accepting u)) (139 + added u) ≡ SHORT-OUTPUT

-- a class UID and nothing else: "plus 4 + n"
unfoldable pub only_class : List ℕ → User
only_class class = record { class = class; version = []; invoked = 1; performed = 1; roles = [] }
