-- For the private functions: an RQ or AC as it is written: its fixed part, and its items. `answer`: it is an AC.
use Rattle.std.specs.Prelude.{ℕ, ◌+◌, ◌≤◌, ◌≡◌, Bool, cond, List, ◌∷◌, ◌++◌, map, length}
use Rattle.numbers.specs.Kinds.{ASSOCIATE-RQ, ASSOCIATE-AC}
use Rattle.numbers.specs.Lengths.{HEADER, LONGEST}
use Rattle.octets.specs.Octets.{four}
use Rattle.items.specs.Wire.{item_bytes}
use Rattle.sheets.specs.Sheet.{records_of, contexts_in, answers_in}
use Rattle.user_items.specs.Sent.{User, user_said, user_bytes}
use Rattle.writing.specs.Wire.{AssociatePdu, context_body, answer_body}
use Rattle.writing_associate.specs.declared.pdu.Associate as given
use Rattle.writing_associate.specs.Private.ContextItems.{answers, context_bytes}
use Rattle.writing_associate.specs.Private.UserItems.{UserFit}

-- an RQ or AC to be written
pub record Associate : Type 0 where
  pub answer : Bool
  pub middle : List ℕ
  pub application : List ℕ
  pub user : User
  pub sheet : List ℕ

-- as the code has it
abbrev pub associate_said : given.Associate → Associate
associate_said f = record { answer = answers f.side; middle = f.middle.now; application = f.application.now; user = user_said f.user; sheet = f.sheet.now }

abbrev pub pdu_kind : Bool → ℕ
pdu_kind answer = cond answer ASSOCIATE-AC ASSOCIATE-RQ

unfoldable pub pdu_of : Associate → AssociatePdu
pdu_of f =
    record {
      kind = pdu_kind f.answer;
      middle = f.middle;
      application = f.application;
      context = cond f.answer 0x21 0x20;
      bodies = cond f.answer (map answer_body (answers_in f.sheet)) (map context_body (contexts_in f.sheet));
      user = user_bytes f.user;
    }

-- the contexts as they are written
abbrev pub contexts_of : Associate → List ℕ
contexts_of f = context_bytes f.answer (records_of f.sheet)

-- all of the PDU-length but the contexts: 68, the 10H, and the 50H with a body of so many bytes
unfoldable pub base : Associate → ℕ → ℕ
base f user = 68 + (4 + length f.application) + (4 + user)

-- the items as they are written
unfoldable pub item_part : Associate → List ℕ
item_part f = item_bytes 0x10 f.application ++ (contexts_of f ++ item_bytes 0x50 (user_bytes f.user))

-- what stands before them, with the PDU-length n
unfoldable pub fixed_part : ℕ → ℕ → List ℕ → List ℕ
fixed_part kind n middle = kind ∷ 0 ∷ (four n ++ (0 ∷ 1 ∷ 0 ∷ 0 ∷ middle))

-- what is known of the contents when they are measured
pub record Fit (f : Associate) : Type 0 where
  pub middle_long : length f.middle ≡ 64
  pub name_short : length f.application ≤ 64
  pub user_fit : UserFit f.user

-- when the items are written from place `at` of an output that has so much space, with the length of the 50H's body
pub record Known (f : Associate) (user at space : ℕ) : Type 0 where
  pub user_fit : UserFit f.user
  pub user_size : user ≡ length (user_bytes f.user)
  pub limit : length (item_part f) ≤ LONGEST
  pub room : at + length (item_part f) ≤ space

-- and when all is written, with the PDU-length n
pub record Measured (f : Associate) (n user space : ℕ) : Type 0 where
  pub fit : Fit f
  pub user_size : user ≡ length (user_bytes f.user)
  pub size : n ≡ base f user + length (contexts_of f)
  pub limit : n ≤ LONGEST
  pub room : n + HEADER ≤ space
