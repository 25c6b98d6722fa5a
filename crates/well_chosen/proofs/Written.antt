-- What a call of `choose` leaves: refused, nothing changes; answered, a good answer sheet of the proposal's contexts, and nothing beyond it.
-- Assumes nothing.
use Prim.Native.Nat.{ℕ, ◌*◌, ◌<◌}
use native.Mathlib.Omega.{arith}
use mathlib.Core.Bool.{Bool, true, false, not, cond}
use mathlib.Core.List.{List, map}
use mathlib.Core.Path.{◌≡◌, refl, sym, ap, ◌∙◌}
use lib.ListN.{length, take, drop, get_or, length-map}
use lib.Dec.{eqb}
use borrow.Author.Tests.{eqb-true, eq-eqb, ne_eqb, not-false}
use Rattle.laws.proofs.Refusals.{not_due}
use Rattle.octets.specs.Put.{front}
use Rattle.octets.proofs.PutLaws.{front_start, front_behind}
use Rattle.numbers.specs.Lengths.{RECORD}
use Rattle.numbers.specs.Refusals.{NOT-REFUSED, BAD-CONTENTS}
use Rattle.sheets.specs.Contexts.{Context, Answered, context_id, answered_id, all_answered_ok}
use Rattle.sheets.specs.Sheet.{contexts_in, answers_in, proposal_ok, answers_ok, site_ok}
use Rattle.sheets.proofs.Inverse.{proposal_contexts, answered_back, answered_answers, answers_length}
use Rattle.choosing.specs.Choice.{site_in, chosen, chosen_for}
use Rattle.choosing.specs.Call.{Chosen, chosen_sheet, choose_refusal, chosen_of, chosen_bytes, Chose}
use Rattle.well_chosen.specs.Meaning.{WellChosen}
use Rattle.well_chosen.proofs.Meaning.{same_ids, all_good, each_chosen}

-- ---- the answer sheet of a good proposal, whatever the site keeps
module _ (proposal site : List ℕ) (g : proposal_ok proposal ≡ true) where
  answers_are : all_answered_ok (chosen_for (site_in site) (contexts_in proposal)) ≡ true
  answers_are = all_good (site_in site) (contexts_in proposal) (proposal_contexts proposal g)

  -- it may be sent
  pub sheet_good : answers_ok (chosen_sheet proposal site) ≡ true
  unfolding chosen_sheet
  sheet_good = answered_answers (chosen_for (site_in site) (contexts_in proposal)) answers_are

  -- its answers are the chosen ones, one for each context in the proposal's order
  pub sheet_answers : answers_in (chosen_sheet proposal site) ≡ chosen_for (site_in site) (contexts_in proposal)
  unfolding chosen_sheet
  sheet_answers = answered_back (chosen_for (site_in site) (contexts_in proposal)) answers_are

  pub sheet_ids : map answered_id (answers_in (chosen_sheet proposal site)) ≡ map context_id (contexts_in proposal)
  sheet_ids = ap (map answered_id) sheet_answers ∙ same_ids (site_in site) (contexts_in proposal)

  pub sheet_size : length (chosen_sheet proposal site) ≡ RECORD * length (contexts_in proposal)
  unfolding chosen_for
  sheet_size =
      let l = answers_length (chosen_sheet proposal site) sheet_good in
      let n = ap length sheet_answers ∙ length-map (contexts_in proposal) (chosen (site_in site)) in
      omega arith

-- ---- a call
module _ (proposal site o : List ℕ) (r : Chosen) (o' : List ℕ) (p : Chose proposal site o r o') where
  abbrev due : ℕ
  due = choose_refusal proposal site (length o)

  pub refusal_is : r.refusal ≡ due
  unfolding chosen_of
  refusal_is = ap (λ (c : Chosen). c.refusal) p.answer ∙ go (eqb due NOT-REFUSED) refl
    where
      go : (b : Bool) → eqb due NOT-REFUSED ≡ b → (cond {A = Chosen} b (record { refusal = NOT-REFUSED; records = length (contexts_in proposal) }) (record { refusal = due; records = 0 })).refusal ≡ due
      go true q = sym (eqb-true _ _ q)
      go false q = refl

  -- refused: no record, and the lent sheet as it was
  pub refused_kept : (r.refusal ≡ NOT-REFUSED → ⊥) → (o' ≡ o) × (r.records ≡ 0)
  unfolding chosen_of chosen_bytes front
  refused_kept n =
      let e : eqb due NOT-REFUSED ≡ false = ne_eqb due NOT-REFUSED (λ z. n (refusal_is ∙ z)) in
      (p.sheet ∙ simp e, ap (λ (c : Chosen). c.records) p.answer ∙ simp e)

  module _ (z : r.refusal ≡ NOT-REFUSED) where
    none_due : due ≡ NOT-REFUSED
    none_due = sym refusal_is ∙ z

    -- answered: the two sheets are good
    sheets_good : (not (proposal_ok proposal) ≡ false) × (not (site_ok site) ≡ false)
    unfolding choose_refusal
    sheets_good =
        let p = not_due (not (proposal_ok proposal)) BAD-CONTENTS _ (λ e. omega arith) none_due in
        (p.0, (not_due (not (site_ok site)) BAD-CONTENTS _ (λ e. omega arith) p.1).0)

    pub good_proposal : proposal_ok proposal ≡ true
    good_proposal = not-false (proposal_ok proposal) sheets_good.0

    pub good_site : site_ok site ≡ true
    good_site = not-false (site_ok site) sheets_good.1

    pub records_are : r.records ≡ length (contexts_in proposal)
    unfolding chosen_of
    records_are = ap (λ (c : Chosen). c.records) p.answer ∙ simp (eq-eqb due NOT-REFUSED none_due)

    sheet_is : o' ≡ front o (chosen_sheet proposal site)
    unfolding chosen_bytes
    sheet_is = p.sheet ∙ simp (eq-eqb due NOT-REFUSED none_due)

    size_is : RECORD * r.records ≡ length (chosen_sheet proposal site)
    size_is = let n = records_are in let l = sheet_size proposal site good_proposal in omega arith

    -- 132 times the records that it tells are the answer sheet, which `feo_accept` takes
    pub given_on : take (RECORD * r.records) o' ≡ chosen_sheet proposal site
    given_on = rw (sheet_is, size_is) (front_start o (chosen_sheet proposal site))

    pub given_good : answers_ok (take (RECORD * r.records) o') ≡ true
    given_good = ap answers_ok given_on ∙ sheet_good proposal site good_proposal

    pub nothing_beyond : drop (RECORD * r.records) o' ≡ drop (RECORD * r.records) o
    nothing_beyond = rw (sheet_is, size_is) (front_behind o (chosen_sheet proposal site))

    -- each record that was written is the well chosen answer to its context
    pub written_well : (k : ℕ) → k < length (contexts_in proposal) → (c : Context) (a : Answered)
        → WellChosen (site_in site) (get_or (contexts_in proposal) k c) (get_or (answers_in (take (RECORD * r.records) o')) k a)
    written_well k h c a = rw (given_on, sheet_answers proposal site good_proposal) (each_chosen (site_in site) (contexts_in proposal) k h c a)
