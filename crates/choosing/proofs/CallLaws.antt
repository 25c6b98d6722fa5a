-- Laws of the call: the answers put one behind the other, and each way through the tests.
-- Assumes nothing.
use Prim.Native.Nat.{ℕ, ◌+◌, ◌*◌, ◌/◌, ◌≤◌, ◌<◌}
use native.Mathlib.Omega.{arith}
use mathlib.Core.Bool.{Bool, true, false, not, cond}
use mathlib.Core.List.{List, [], ◌∷◌, ◌++◌, map}
use mathlib.Core.Path.{◌≡◌, sym, ap, ◌∙◌}
use lib.ListN.{length}
use lib.Dec.{ltb}
use borrow.Author.Rules.{rules}
use borrow.Author.Tests.{lt-ltb, le-ltb, not-true, not-false}
use Rattle.numbers.specs.Lengths.{RECORD}
use Rattle.std.specs.Prelude.{Result, Ok, Err}
use Rattle.numbers.specs.declared.refusals.Refusal.{Refusal}
use Rattle.numbers.specs.Refusals.{NOT-REFUSED, SHORT-OUTPUT, BAD-CONTENTS, refusal_in}
use Rattle.numbers.proofs.NumberLaws.{answer_once}
use Rattle.octets.specs.Put.{front, Placed}
use Rattle.std.specs.Simd.{first_chunks}
use Rattle.laws.proofs.Library.{chunk_records}
use Rattle.octets.proofs.PutLaws.{Putting, putting_start, putting_next, putting_done, put_front, placed_put}
use Rattle.sheets.specs.Contexts.{Context}
use Rattle.sheets.specs.Sheet.{transfer_of, records_of, answer_sheet_of, sheet_runs, contexts_in, proposal_ok, site_ok}
use Rattle.sheets.specs.Private.OneRecord.{run_context}
use Rattle.sheets.proofs.RecordLaws.{transfer_most, record_length}
use Rattle.choosing.specs.Choice.{liked_of, site_in, matches, transfer_for, chosen, chosen_for}
use Rattle.choosing.specs.Call.{Chosen, chosen_as, chosen_sheet, choose_refusal, none_chosen, chosen_of, chosen_bytes, Chose}
use Rattle.choosing.specs.Private.Runs.{answer_bytes, answers_for}
use Rattle.choosing.proofs.RunLaws.{no_runs}

-- ---- the record of an answer has its 132 bytes, since the name of any record fits its field
chosen_most : (c : Context) (rs : List (List ℕ)) → length (transfer_for c (map liked_of rs)) ≤ 64
unfolding transfer_for liked_of
chosen_most c [] = omega arith
chosen_most c (r ∷ rs) = go (matches c (liked_of r)) (chosen_most c rs)
  where
    go : (b : Bool) → length (transfer_for c (map liked_of rs)) ≤ 64 → length (cond b (transfer_of r) (transfer_for c (map liked_of rs))) ≤ 64
    go true k = transfer_most r
    go false k = k

answer_long : (c : Context) (rs : List (List ℕ)) → length (answer_bytes (chosen (map liked_of rs) c)) ≡ 132
unfolding answer_bytes chosen
answer_long c rs = record_length _ _ [] _ (omega arith) (chosen_most c rs)

-- ---- `put_answers`: the answers to the contexts of the records that are left
answers_here : (rs more site : List (List ℕ)) (c : Context) → sheet_runs rs ≡ c ∷ sheet_runs more → answers_for rs site ≡ answer_bytes (chosen (map liked_of site) c) ++ answers_for more site
unfolding answers_for answer_sheet_of chosen_for answer_bytes
answers_here rs more site c e = rw e

answers_over : (rs site : List (List ℕ)) → length rs ≡ 0 → answers_for rs site ≡ []
unfolding answers_for answer_sheet_of chosen_for
answers_over rs site h = rw (no_runs rs h)

pub record Reached (o₀ : List ℕ) (proposal site : List (List ℕ)) (o : List ℕ) (n : ℕ) (rest : List (List ℕ)) : Type 0 where
  pub room : n + 132 * length (sheet_runs rest) ≤ length o
  pub putting : Putting o₀ 0 (answers_for proposal site) o n (answers_for rest site)

pub put_start : (o : List ℕ) (proposal site rest : List (List ℕ)) → rest ≡ proposal → 132 * length (sheet_runs proposal) ≤ length o → Reached o proposal site o 0 rest
put_start o proposal site rest e h = rw e (record { room = omega arith; putting = putting_start o 0 (answers_for proposal site) })

module _ (o₀ : List ℕ) (proposal site : List (List ℕ)) (o : List ℕ) (n : ℕ) (rest : List (List ℕ)) (v : Reached o₀ proposal site o n rest) where
  pub put_next : (x more : List (List ℕ)) (a : List ℕ) (m : ℕ) (o' : List ℕ) → sheet_runs rest ≡ run_context x ∷ sheet_runs more → a ≡ answer_bytes (chosen (map liked_of site) (run_context x)) → Placed o n a m o' → Reached o₀ proposal site o' m more
  put_next x more a m o' e q p =
      let l : length a ≡ 132 = ap length q ∙ answer_long (run_context x) site in
      let k = ap length e in
      let r = v.room in
      let d = placed_put o n a p (omega arith) in
      let j = d.behind in
      let i : answers_for rest site ≡ a ++ answers_for more site = answers_here rest more site (run_context x) e ∙ ap (λ (b : List ℕ). b ++ answers_for more site) (sym q) in
      let f = putting_next o₀ (answers_for proposal site) o (answers_for rest site) 0 n v.putting a (answers_for more site) o' m i (omega arith) d in
      let g = f.long in
      let h = v.putting.long in
      record { room = omega arith; putting = f }

  pub put_done : length rest ≡ 0 → o ≡ front o₀ (answers_for proposal site)
  put_done h = let p = putting_done o₀ (answers_for proposal site) o (answers_for rest site) 0 n v.putting (answers_over rest site h) in p.out ∙ put_front o₀ (answers_for proposal site)

-- ---- `choose`
pub bad_proposal : (s site o : List ℕ) (b : Bool) → b ≡ proposal_ok s → not b ≡ true → Chose s site o (none_chosen BAD-CONTENTS) o
unfolding chosen_of chosen_bytes choose_refusal front
bad_proposal s site o b e t = let k : proposal_ok s ≡ false = sym e ∙ not-true b t in record { answer = simp k; sheet = simp k }

module _ (s site o : List ℕ) (b : Bool) (e : b ≡ proposal_ok s) (t : not b ≡ false) (d : Bool) (f : d ≡ site_ok site) where
  good_proposal : proposal_ok s ≡ true
  good_proposal = sym e ∙ not-false b t

  pub bad_site : not d ≡ true → Chose s site o (none_chosen BAD-CONTENTS) o
  unfolding chosen_of chosen_bytes choose_refusal front
  bad_site u = let k : site_ok site ≡ false = sym f ∙ not-true d u in record { answer = simp (good_proposal, k); sheet = simp (good_proposal, k) }

  module _ (u : not d ≡ false) where
    good_site : site_ok site ≡ true
    good_site = sym f ∙ not-false d u

    module _ (ps qs : List (List ℕ)) (n : ℕ) (i : ps ≡ first_chunks 132 (length s / 132) s) (k : n ≡ length (sheet_runs ps)) where
      contexts_are : length (contexts_in s) ≡ n
      unfolding contexts_in records_of
      contexts_are = sym (k ∙ ap (λ (rs : List (List ℕ)). length (sheet_runs rs)) (i ∙ chunk_records 132 (length s / 132) s))

      pub no_room : length o / 132 < n → Chose s site o (none_chosen SHORT-OUTPUT) o
      unfolding chosen_of chosen_bytes choose_refusal front
      no_room h =
          let q = contexts_are in
          let l : ltb (length o) (RECORD * length (contexts_in s)) ≡ true = lt-ltb (length o) (RECORD * length (contexts_in s)) (omega arith) in
          record { answer = simp (good_proposal, good_site, l); sheet = simp (good_proposal, good_site, l) }

      pub some_room : n ≤ length o / 132 → 132 * length (sheet_runs ps) ≤ length o
      some_room h = omega arith

      sheet_is : qs ≡ first_chunks 132 (length site / 132) site → answers_for ps qs ≡ chosen_sheet s site
      unfolding answers_for chosen_sheet contexts_in site_in records_of
      sheet_is j =
          let p = i ∙ chunk_records 132 (length s / 132) s in
          let q = j ∙ chunk_records 132 (length site / 132) site in
          λ t. answer_sheet_of (chosen_for (map liked_of (q t)) (sheet_runs (p t)))

      pub all_chosen : (o' : List ℕ) → n ≤ length o / 132 → qs ≡ first_chunks 132 (length site / 132) site → o' ≡ front o (answers_for ps qs) → Chose s site o (record { refusal = NOT-REFUSED; records = n }) o'
      unfolding chosen_of chosen_bytes choose_refusal
      all_chosen o' h j p =
          let q : n ≡ length (contexts_in s) = sym contexts_are in
          let l : ltb (length o) (RECORD * length (contexts_in s)) ≡ false = le-ltb (length o) (RECORD * length (contexts_in s)) (omega arith) in
          record { answer = simp (good_proposal, good_site, l, q); sheet = p ∙ (rw (sheet_is j) (simp (good_proposal, good_site, l))) }

pub ruleset choose_laws = (rules, bad_proposal, bad_site, no_room, some_room, all_chosen)

-- an answer is told by its fields
pub chosen_once : (a b : Result ℕ Refusal) → chosen_as a ≡ chosen_as b → a ≡ b
chosen_once a b e = answer_once a b (refusals a b (ap (λ (c : Chosen). c.refusal) e)) (counts a b e)
  where
    refusals : (a b : Result ℕ Refusal) → (chosen_as a).refusal ≡ (chosen_as b).refusal → refusal_in a ≡ refusal_in b
    refusals (Ok x) (Ok y) e = e
    refusals (Ok x) (Err m) e = e
    refusals (Err n) (Ok y) e = e
    refusals (Err n) (Err m) e = e

    counts : (a b : Result ℕ Refusal) → chosen_as a ≡ chosen_as b → (x y : ℕ) → a ≡ Ok x → b ≡ Ok y → x ≡ y
    counts a b e x y p q = ap (λ (c : Chosen). c.records) (ap chosen_as (sym p) ∙ (e ∙ ap chosen_as q))
