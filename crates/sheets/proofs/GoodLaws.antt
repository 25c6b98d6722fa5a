-- Laws of good records and sheets: each way through the tests, and that the records tested one by one give the rule over the contexts.
-- Assumes nothing.
use Prim.Native.Nat.{ℕ, zero, suc, ◌+◌, ◌*◌, ◌%◌, ◌≤◌, ◌<◌}
use native.Mathlib.Omega.{arith}
use mathlib.Core.Bool.{Bool, true, false, ◌&&◌, cond, and-false}
use mathlib.Core.List.{List, [], ◌∷◌, map}
use mathlib.Core.Path.{◌≡◌, refl, sym, ap, ◌∙◌}
use lib.ListN.{length, take, drop, get_or, length-drop, length-map}
use lib.Seq.{drop-drop, take_all}
use lib.Dec.{leb, eqb}
use borrow.Author.Tests.{le-leb, eq-eqb, ne_eqb, eqb-true, eqb-false}
use Rattle.std.specs.List.{list_all}
use Rattle.laws.specs.Lists.{all, empty, distinct, same_bytes}
use Rattle.laws.proofs.Booleans.{left_of, right_of, held}
use Rattle.laws.proofs.Library.{all_list}
use Rattle.laws.proofs.Same.{same_equal}
use Rattle.names.specs.Name.{name_ok}
use Rattle.octets.specs.Octets.{odd}
use Rattle.sheets.specs.Contexts.{Context, context_id, answered_id, context_ok, answered_ok, contexts_ok, all_answered_ok}
use Rattle.sheets.specs.Sheet.{record_id, abstract_of, transfer_of, records_of, goes_on, first_transfers, others, start, sheet_runs, contexts_in, answered_of, answers_in, zero?, field_ok, fields_ok, proposes, proposal_record, site_record, answers, proposal_ok, answers_ok, site_ok}
use Rattle.sheets.specs.Record.{record_at}
use Rattle.sheets.specs.Private.OneRecord.{answer_record}
use Rattle.sheets.proofs.RunLaws.{records_cons, records_none, no_run}

-- ---- one record
pub field_is : (n : ℕ) (f : List ℕ) (z : Bool) → n ≤ 64 → z ≡ list_all zero? (drop n f) → z ≡ field_ok n f
unfolding field_ok
field_is n f z h q = q ∙ (all_list zero? (drop n f) ∙ rw (le-leb n 64 h))

pub fields_rest : (r : List ℕ) (b d : Bool) → length r ≡ 132 → b ≡ field_ok (get_or r 2 0) (take 64 (drop 4 r)) → b ≡ true → d ≡ field_ok (get_or r 3 0) (take 64 (drop 68 r)) → d ≡ fields_ok r
unfolding fields_ok
fields_rest r b d l q t y = let e = take_all 64 (drop 68 r) (omega (arith, length-drop 68 r)) in rw (← e) (y ∙ rw (← q, t))

pub no_name : (x : List ℕ) → eqb (length x) 0 ≡ empty x
no_name [] = refl
no_name (y ∷ x) = ne_eqb (length (y ∷ x)) 0 (λ e. omega arith)

-- ---- records tested one by one give the rule over the contexts

-- a conjunction of conjunctions, the other way round
across : (a b c d : Bool) → ((a && b) && (c && d)) ≡ ((a && c) && (b && d))
across true true c d = refl
across true false true d = refl
across true false false d = refl
across false b c d = refl

-- the transfer names of each are one or more
some : Context → Bool
some c = leb 1 (length c.transfers)

start_some : (r : List ℕ) (cs : List Context) → all some cs ≡ true → all some (start r cs) ≡ true
unfolding start some
start_some r cs k = go cs (goes_on r cs) k
  where
    go : (cs : List Context) (b : Bool) → all some cs ≡ true → (leb 1 (length (transfer_of r ∷ cond b (first_transfers cs) [])) && all some (cond b (others cs) cs)) ≡ true
    go cs false k = k
    go [] true k = refl
    go (c ∷ cs) true k = rw (le-leb 1 (length (transfer_of r ∷ c.transfers)) (omega arith)) (right_of (some c) _ k)

runs_some : (rs : List (List ℕ)) → all some (sheet_runs rs) ≡ true
unfolding sheet_runs
runs_some [] = refl
runs_some (r ∷ rs) = start_some r (sheet_runs rs) (runs_some rs)

-- what a record by itself makes good
abbrev alone : List ℕ → Bool
alone r = odd (record_id r) && (name_ok (abstract_of r) && name_ok (transfer_of r))

join : (o a t l b x : Bool) → l ≡ true → ((o && (a && (t && b))) && x) ≡ ((o && (a && t)) && ((o && (a && (l && b))) && x))
join true true true true b x e = refl
join true true false l b x e = refl
join true false t l b x e = refl
join false a t l b x e = refl
join true true true false b x e = absurd (held false e)

lone : (o a t x : Bool) → ((o && (a && (t && true))) && x) ≡ ((o && (a && t)) && x)
lone true true true x = refl
lone true true false x = refl
lone true false t x = refl
lone false a t x = refl

start_good : (r : List ℕ) (cs : List Context) → all some cs ≡ true → all context_ok (start r cs) ≡ (alone r && all context_ok cs)
unfolding start goes_on context_ok some
start_good r cs k = go cs (goes_on r cs) refl k
  where
    go : (cs : List Context) (b : Bool) → goes_on r cs ≡ b → all some cs ≡ true
        → all context_ok (record { id = record_id r; abstr = abstract_of r; transfers = transfer_of r ∷ cond b (first_transfers cs) [] } ∷ cond b (others cs) cs) ≡ (alone r && all context_ok cs)
    go cs false e k = lone (odd (record_id r)) (name_ok (abstract_of r)) (name_ok (transfer_of r)) (all context_ok cs)
    go [] true e k = absurd (no_run r e)
    go (c ∷ cs) true e k =
        let i : record_id r ≡ c.id = eqb-true _ _ (left_of (eqb (record_id r) c.id) (same_bytes (abstract_of r) c.abstr) e) in
        let a : abstract_of r ≡ c.abstr = same_equal _ _ (held _ (right_of (eqb (record_id r) c.id) (same_bytes (abstract_of r) c.abstr) e)) in
        rw (le-leb 1 (length (transfer_of r ∷ c.transfers)) (omega arith), i, a)
        (join (odd c.id) (name_ok c.abstr) (name_ok (transfer_of r)) (leb 1 (length c.transfers)) (all name_ok c.transfers) (all context_ok cs) (left_of (some c) _ k))

pub records_proposal : (rs : List (List ℕ)) → all proposal_record rs ≡ (all proposes rs && all context_ok (sheet_runs rs))
unfolding sheet_runs proposal_record
records_proposal [] = refl
records_proposal (r ∷ rs) = rw (records_proposal rs, start_good r (sheet_runs rs) (runs_some rs)) (across (proposes r) (alone r) (all proposes rs) (all context_ok (sheet_runs rs)))

pub records_answer : (rs : List (List ℕ)) → all answer_record rs ≡ (all answers rs && all answered_ok (map answered_of rs))
unfolding answer_record
records_answer [] = refl
records_answer (r ∷ rs) = rw (records_answer rs) (across (answers r) (answered_ok (answered_of r)) (all answers rs) (all answered_ok (map answered_of rs)))

-- ---- sheets
together : (p c d : Bool) → (p && (c && d)) ≡ ((p && c) && d)
together true c d = refl
together false c d = refl

answered_ids : (rs : List (List ℕ)) → map answered_id (map answered_of rs) ≡ map record_id rs
unfolding answered_of
answered_ids [] = refl
answered_ids (r ∷ rs) = rw (answered_ids rs)

-- no record, or a part record
module _ (s : List ℕ) (n : length s % 132 ≡ 0 → length s ≡ 0) where
  no_records : (ok : List (List ℕ) → Bool) → ok [] ≡ false → false ≡ (eqb (length s % 132) 0 && ok (records_of s))
  no_records ok e = go (eqb (length s % 132) 0) refl
    where
      go : (b : Bool) → eqb (length s % 132) 0 ≡ b → false ≡ (b && ok (records_of s))
      go true q = let z = n (eqb-true _ _ q) in sym (ap ok (records_none s (omega arith)) ∙ e)
      go false q = refl

  pub proposal_none : false ≡ proposal_ok s
  unfolding proposal_ok contexts_ok contexts_in sheet_runs
  proposal_none = no_records (λ (rs : List (List ℕ)). all proposes rs && contexts_ok (sheet_runs rs)) refl

  pub answers_none : false ≡ answers_ok s
  unfolding answers_ok all_answered_ok answers_in
  answers_none = no_records (λ (rs : List (List ℕ)). all answers rs && all_answered_ok (map answered_of rs)) refl

  pub site_none : false ≡ site_ok s
  unfolding site_ok
  site_none = no_records (λ (rs : List (List ℕ)). leb 1 (length rs) && all site_record rs) refl

some_runs : (rs : List (List ℕ)) → 0 < length rs → leb 1 (length (sheet_runs rs)) ≡ true
unfolding sheet_runs start
some_runs [] h = absurd (omega arith)
some_runs (r ∷ rs) h = le-leb 1 (length (start r (sheet_runs rs))) (omega arith)

-- whole records, one or more: the tests of each by itself, and that no ID comes twice
module _ (s : List ℕ) (m : length s % 132 ≡ 0) (h : 0 < length (records_of s)) where
  pub proposal_is : (all proposal_record (records_of s) && distinct (map context_id (sheet_runs (records_of s)))) ≡ proposal_ok s
  unfolding proposal_ok contexts_ok contexts_in
  proposal_is =
      rw (eq-eqb _ _ m, some_runs (records_of s) h, records_proposal (records_of s))
      (sym (together (all proposes (records_of s)) (all context_ok (sheet_runs (records_of s))) (distinct (map context_id (sheet_runs (records_of s))))))

  pub answers_is : (all answer_record (records_of s) && distinct (map record_id (records_of s))) ≡ answers_ok s
  unfolding answers_ok all_answered_ok answers_in
  answers_is =
      let l : 1 ≤ length (map answered_of (records_of s)) = omega (arith, length-map (records_of s) answered_of) in
      rw (eq-eqb _ _ m, le-leb 1 (length (map answered_of (records_of s))) l, records_answer (records_of s), ← answered_ids (records_of s))
      (sym (together (all answers (records_of s)) (all answered_ok (map answered_of (records_of s))) (distinct (map answered_id (map answered_of (records_of s))))))

  pub site_is : all site_record (records_of s) ≡ site_ok s
  unfolding site_ok
  site_is = rw (eq-eqb _ _ m, le-leb 1 (length (records_of s)) h)

-- by the answers of the calls: b of the tests of each, d of the IDs
module _ (s : List ℕ) (rs : List (List ℕ)) (e : rs ≡ records_of s) (m : length s % 132 ≡ 0) (h : 0 < length rs) (b : Bool) where
  some_records : 0 < length (records_of s)
  some_records = rw (← e) h

  pub proposal_bad : b ≡ list_all proposal_record rs → b ≡ false → b ≡ proposal_ok s
  proposal_bad q t = t ∙ (sym (rw (← e, ← all_list proposal_record rs, ← q, t)) ∙ proposal_is s m some_records)

  pub proposal_rest : (d : Bool) → b ≡ list_all proposal_record rs → b ≡ true → d ≡ distinct (map context_id (sheet_runs rs)) → d ≡ proposal_ok s
  proposal_rest d q t i = i ∙ (sym (rw (← e, ← all_list proposal_record rs, ← q, t)) ∙ proposal_is s m some_records)

  pub answers_bad : b ≡ list_all answer_record rs → b ≡ false → b ≡ answers_ok s
  answers_bad q t = t ∙ (sym (rw (← e, ← all_list answer_record rs, ← q, t)) ∙ answers_is s m some_records)

  pub answers_rest : (d : Bool) → b ≡ list_all answer_record rs → b ≡ true → d ≡ distinct (map record_id rs) → d ≡ answers_ok s
  answers_rest d q t i = i ∙ (sym (rw (← e, ← all_list answer_record rs, ← q, t)) ∙ answers_is s m some_records)

  pub site_by : b ≡ list_all site_record rs → b ≡ site_ok s
  site_by q = q ∙ (all_list site_record rs ∙ (ap (all site_record) e ∙ site_is s m some_records))

-- ---- one bad record, whatever the others and however many
all_but : (p : List ℕ → Bool) (s : List ℕ) (k : ℕ) → 132 * k + 132 ≤ length s → p (record_at s (132 * k)) ≡ false → all p (records_of s) ≡ false
all_but p s zero h e = rw (records_cons s (omega arith)) (simp e)
all_but p s (suc k) h e =
    let q : 132 + 132 * k ≡ 132 * suc k = omega arith in
    let r = all_but p (drop 132 s) k (omega (arith, length-drop 132 s)) (rw (drop-drop (132 * k) 132 s, q) e) in
    rw (records_cons s (omega arith), r) (and-false (p (take 132 s)))

pub bad_record : (s : List ℕ) (k : ℕ) → 132 * k + 132 ≤ length s → proposal_record (record_at s (132 * k)) ≡ false → proposal_ok s ≡ false
bad_record s k h e = go (eqb (length s % 132) 0) refl
  where
    go : (b : Bool) → eqb (length s % 132) 0 ≡ b → proposal_ok s ≡ false
    go true q =
        let f = ap length (records_cons s (omega arith)) in
        sym (proposal_is s (eqb-true _ _ q) (omega arith)) ∙ rw (all_but proposal_record s k h e)
    go false q = sym (proposal_none s (λ z. absurd (eqb-false _ _ q z)))
