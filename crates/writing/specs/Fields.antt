-- The contents of what is sent, as the host gives them: "RQ fields come with the transport confirmation, AC fields with the accept response, a result, source and
-- reason with the reject response, PDV items with P-DATA request."
use Rattle.std.specs.Prelude.{ℕ, Bool, ◌&&◌, cond, List, length, eqb}
use Rattle.names.specs.Name.{name_ok}
use Rattle.titles.specs.Title.{title_ok}
use Rattle.sheets.specs.Sheet.{proposal_ok, answers_ok}
use Rattle.user_items.specs.Sent.{User, user_good}
use Rattle.pdvs.specs.Data.{pdvs_ok}
use Rattle.reasons.specs.Values.{reject_ok, abort_ok}

-- an A-ASSOCIATE-RQ: the titles, the application name, the user information, the proposal sheet
pub record RqFields : Type 0 where
  pub called : List ℕ
  pub calling : List ℕ
  pub application : List ℕ
  pub user : User
  pub sheet : List ℕ

-- an A-ASSOCIATE-AC: the RQ's PDU bytes 11 to 74, the application name, the user information, the answer sheet
pub record AcFields : Type 0 where
  pub echoed : List ℕ
  pub application : List ℕ
  pub user : User
  pub sheet : List ℕ

pub record Reject : Type 0 where
  pub result : ℕ
  pub source : ℕ
  pub reason : ℕ

-- the PDV items of a P-DATA-TF, in wire form
pub record Items : Type 0 where
  pub items : List ℕ

pub record Abort : Type 0 where
  pub source : ℕ
  pub reason : ℕ

-- each from the arguments of its call
abbrev pub rq_of : List ℕ → List ℕ → List ℕ → User → List ℕ → RqFields
rq_of called calling application user sheet = record { called = called; calling = calling; application = application; user = user; sheet = sheet }

abbrev pub ac_of : List ℕ → List ℕ → User → List ℕ → AcFields
ac_of echoed application user sheet = record { echoed = echoed; application = application; user = user; sheet = sheet }

abbrev pub reject_of : ℕ → ℕ → ℕ → Reject
reject_of result source reason = record { result = result; source = source; reason = reason }

abbrev pub items_of : List ℕ → Items
items_of items = record { items = items }

abbrev pub abort_of : ℕ → ℕ → Abort
abort_of source reason = record { source = source; reason = reason }

-- ---- which are good

-- "Other local titles and names .. follow the rules above."
unfoldable pub rq_good : RqFields → Bool
rq_good f = title_ok f.called && (title_ok f.calling && (name_ok f.application && (user_good f.user && proposal_ok f.sheet)))

-- "64 of any value are taken, another count gets 4"
unfoldable pub ac_good : AcFields → Bool
ac_good f = eqb (length f.echoed) 64 && (name_ok f.application && (user_good f.user && answers_ok f.sheet))

-- ".. and a reject's values, follow the rules above."
unfoldable pub reject_good : Reject → Bool
reject_good f = reject_ok f.result f.source f.reason

-- "Local PDV items are those of 04H with bits 2 to 7 zero": a control byte of at most 3
unfoldable pub items_good : Items → Bool
items_good f = pdvs_ok 3 f.items

-- source 0 with reason 0, as PS3.8 Table 9-26 wants it sent, and source 2 with its six reasons
unfoldable pub abort_good : Abort → Bool
abort_good f = cond (eqb f.source 0) (eqb f.reason 0) (abort_ok f.source f.reason)
