-- Laws of the two calls that write an A-ASSOCIATE-RQ and an A-ASSOCIATE-AC.
-- Assumes nothing.
use Prim.Native.Nat.{ℕ, ◌≤◌}
use native.Mathlib.Omega.{arith}
use mathlib.Core.Bool.{true, false, ◌&&◌, ◌||◌}
use mathlib.Core.List.{List, [], ◌∷◌, ◌++◌}
use mathlib.Core.Path.{◌≡◌, refl, sym, ap, ◌∙◌}
use lib.ListN.{length, drop, replicate, length-append}
use lib.Seq.{take_at, drop-append-add}
use lib.Dec.{leb, eqb}
use borrow.Author.Rules.{rules}
use borrow.Author.Tests.{leb-true, eqb-true}
use Rattle.laws.specs.Lists.{empty}
use Rattle.laws.proofs.Booleans.{left_of, right_of}
use Rattle.numbers.specs.Refusals.{BAD-CONTENTS}
use Rattle.numbers.specs.Lengths.{TITLE}
use Rattle.octets.specs.Put.{put, Placed}
use Rattle.octets.proofs.PutLaws.{put_out}
use Rattle.names.specs.Name.{name_ok}
use Rattle.titles.specs.Title.{title_ok}
use Rattle.names.proofs.NameLaws.{name_short}
use Rattle.titles.proofs.TitleLaws.{title_sixteen}
use Rattle.sheets.specs.Sheet.{proposal_ok, answers_ok}
use Rattle.roles.specs.Sheet.{role_sheet_ok}
use Rattle.user_items.specs.Kinds.{version_ok}
use Rattle.user_items.specs.Sent.{User, count_ok, user_good}
use Rattle.writing.specs.Fields.{RqFields, AcFields, rq_good, ac_good}
use Rattle.writing.specs.Wire.{associate_bytes, rq_pdu, ac_pdu}
use Rattle.writing.specs.Form.{Sent, Wrote, good_form, rq_form, ac_form}
use Rattle.writing_associate.specs.Private.Pdu.{pdu_of, Fit}
use Rattle.writing_associate.specs.Private.UserItems.{UserFit}
use Rattle.writing.proofs.FormLaws.{wrote_bad, contents_good}

-- ---- `titles_of`
first_title : (c : List ℕ) → length c ≡ 16 → put (replicate 64 0) 0 c ≡ c ++ replicate 48 0
unfolding put
first_title c h = rw h

second_title : (c d z : List ℕ) → length c ≡ 16 → put (c ++ z) 16 d ≡ c ++ (d ++ drop (length d) z)
unfolding put
second_title c d z h = rw (← h) (rw (take_at c z (length c) refl, drop-append-add c z (length d)))

pub titles_are : (c d m r : List ℕ) (i j : ℕ) → length c ≡ TITLE → length d ≡ TITLE → Placed (replicate 64 0) 0 c i m → Placed m TITLE d j r → r ≡ c ++ (d ++ replicate 32 0)
titles_are c d m r i j h l p q =
    let a : m ≡ c ++ replicate 48 0 = put_out (replicate 64 0) 0 c p (omega arith) ∙ first_title c h in
    let n : length m ≡ 64 = ap length a ∙ (let e = length-append c (replicate 48 0) in omega arith) in
    put_out m 16 d q (omega arith) ∙ (ap (λ (x : List ℕ). put x 16 d) a ∙ (second_title c d (replicate 48 0) h ∙ rw l))

pub ruleset titles_laws = (rules, titles_are)

-- ---- good user information
module _ (u : User) (g : user_good u ≡ true) where
  behind_class : ((empty u.version || version_ok u.version) && (role_sheet_ok u.roles && (count_ok u.invoked && count_ok u.performed))) ≡ true
  unfolding user_good
  behind_class = right_of (name_ok u.class) _ g

  version_16 : (v : List ℕ) → (empty v || version_ok v) ≡ true → length v ≤ 16
  unfolding version_ok
  version_16 [] e = omega arith
  version_16 (x ∷ v) e = leb-true _ _ (left_of _ _ (right_of (leb 1 (length (x ∷ v))) _ e))

  good_fit : UserFit u
  unfolding user_good
  good_fit =
      record {
        class_short = name_short u.class (left_of _ _ g);
        version_short = version_16 u.version (left_of _ _ behind_class);
      }

-- ---- `write_request`
module _ (f : RqFields) (z : rq_good f ≡ true) where
  rq_parts : (title_ok f.called && (title_ok f.calling && (name_ok f.application && (user_good f.user && proposal_ok f.sheet)))) ≡ true
  unfolding rq_good
  rq_parts = z

  rq_names : (name_ok f.application && (user_good f.user && proposal_ok f.sheet)) ≡ true
  rq_names = right_of (title_ok f.calling) _ (right_of (title_ok f.called) _ rq_parts)

  rq_rest : (user_good f.user && proposal_ok f.sheet) ≡ true
  rq_rest = right_of (name_ok f.application) _ rq_names

  pub rq_called : length f.called ≡ TITLE
  rq_called = title_sixteen f.called (left_of _ _ rq_parts)

  pub rq_calling : length f.calling ≡ TITLE
  rq_calling = title_sixteen f.calling (left_of _ _ (right_of (title_ok f.called) _ rq_parts))

  module _ (m : List ℕ) (q : m ≡ f.called ++ (f.calling ++ replicate 32 0)) where
    pub rq_fit : Fit (record { answer = false; middle = m; application = f.application; user = f.user; sheet = f.sheet })
    rq_fit =
        let x = rq_called in
        let y = rq_calling in
        record {
          middle_long = ap length q ∙ (let n = length-append f.called (f.calling ++ replicate 32 0) in let l = length-append f.calling (replicate 32 0) in omega arith);
          name_short = name_short f.application (left_of _ _ rq_names);
          user_fit = good_fit f.user (left_of _ _ rq_rest);
        }

    pub rq_wrote : (o o' : List ℕ) (x : Sent) → Wrote (good_form (associate_bytes (pdu_of (record { answer = false; middle = m; application = f.application; user = f.user; sheet = f.sheet })))) o x o' → Wrote (rq_form f) o x o'
    unfolding rq_form pdu_of rq_pdu
    rq_wrote o o' x w = contents_good (rq_form f) o true (sym z) refl refl (rw q at w)

pub rq_refused : (f : RqFields) (o : List ℕ) → rq_good f ≡ false → Wrote (rq_form f) o (record { refusal = BAD-CONTENTS; count = 0 }) o
unfolding rq_form
rq_refused f o e = wrote_bad (rq_form f) o e

-- ---- `write_accept`
module _ (f : AcFields) where
  pub ac_fit : ac_good f ≡ true → Fit (record { answer = true; middle = f.echoed; application = f.application; user = f.user; sheet = f.sheet })
  unfolding ac_good
  ac_fit parts =
      let names : (name_ok f.application && (user_good f.user && answers_ok f.sheet)) ≡ true = right_of (eqb (length f.echoed) 64) _ parts in
      let rest : (user_good f.user && answers_ok f.sheet) ≡ true = right_of (name_ok f.application) _ names in
      record {
        middle_long = eqb-true (length f.echoed) 64 (left_of _ _ parts);
        name_short = name_short f.application (left_of _ _ names);
        user_fit = good_fit f.user (left_of _ _ rest);
      }

  pub ac_wrote : (o o' : List ℕ) (x : Sent) → ac_good f ≡ true → Wrote (good_form (associate_bytes (pdu_of (record { answer = true; middle = f.echoed; application = f.application; user = f.user; sheet = f.sheet })))) o x o' → Wrote (ac_form f) o x o'
  unfolding ac_form pdu_of ac_pdu
  ac_wrote o o' x z w = contents_good (ac_form f) o true (sym z) refl refl w

  pub ac_refused : (o : List ℕ) → ac_good f ≡ false → Wrote (ac_form f) o (record { refusal = BAD-CONTENTS; count = 0 }) o
  unfolding ac_form
  ac_refused o e = wrote_bad (ac_form f) o e
