-- Laws of the contexts of a sheet: what a record at a place does to the contexts from there on, a run of records and its context, and the loops that look for an ID that comes twice.
-- Assumes nothing.
use Prim.Native.Nat.{ℕ, zero, suc, ◌+◌, ◌-◌, ◌/◌, ◌≤◌, ◌<◌}
use native.Mathlib.Omega.{arith}
use mathlib.Core.Bool.{Bool, true, false, not}
use mathlib.Core.List.{List, [], ◌∷◌, ◌++◌, map}
use mathlib.Core.Path.{◌≡◌, refl, sym, ap, subst, ◌∙◌}
use lib.ListN.{length, take, drop, get_or, length-drop}
use lib.Seq.{get_or-take, get_or-drop, drop-cons, drop-drop}
use Rattle.std.proofs.lemmas.List.{drop_all}
use native.Mathlib.Numerals.{add-one}
use borrow.Author.Rules.{rules}
use lib.Dec.{leb}
use borrow.Author.Tests.{le-leb, lt-leb, leb-true, leb-false, not-true, not-false}
use Rattle.std.specs.List.{IsChunkByPrefix}
use Rattle.std.specs.Simd.{first_chunks}
use Rattle.laws.specs.Lists.{distinct}
use Rattle.laws.proofs.Booleans.{held}
use Rattle.laws.proofs.Records.{rows_cons, rows_none, row_here}
use Rattle.id_set.specs.IdSet.{is_in, Empty, With}
use Rattle.id_set.proofs.SeenLaws.{fresh, fresh_start, fresh_none, fresh_seen, fresh_new}
use Rattle.sheets.specs.Contexts.{Context, context_id}
use Rattle.sheets.specs.Sheet.{record_id, abstract_of, transfer_of, records_of, goes_on, start, sheet_runs, contexts_in, answered_of, answers_in}
use Rattle.sheets.specs.Record.{record_at, goes_on_at, same_run}
use Rattle.sheets.specs.Private.OneRecord.{run_context}
use Rattle.sheets.proofs.RecordLaws.{abstract_here}

-- ---- the records of a sheet, from a place on
pub records_cons : (s : List ℕ) → 132 ≤ length s → records_of s ≡ take 132 s ∷ records_of (drop 132 s)
unfolding records_of
records_cons = rows_cons 132 (omega arith)

pub records_none : (s : List ℕ) → length s < 132 → records_of s ≡ []
unfolding records_of
records_none = rows_none 132 (omega arith)

pub record_here : (s : List ℕ) (at : ℕ) → at + 132 ≤ length s → records_of (drop at s) ≡ record_at s at ∷ records_of (drop (at + 132) s)
unfolding records_of
record_here = row_here 132 (omega arith)

pub contexts_here : (s : List ℕ) (at : ℕ) → at + 132 ≤ length s → contexts_in (drop at s) ≡ start (record_at s at) (contexts_in (drop (at + 132) s))
unfolding contexts_in sheet_runs
contexts_here s at h = rw (record_here s at h)

pub contexts_none : (s : List ℕ) (at : ℕ) → length s < at + 132 → contexts_in (drop at s) ≡ []
unfolding contexts_in sheet_runs
contexts_none s at h = rw (records_none (drop at s) (omega (arith, length-drop at s)))

pub answers_here : (s : List ℕ) (at : ℕ) → at + 132 ≤ length s → answers_in (drop at s) ≡ answered_of (record_at s at) ∷ answers_in (drop (at + 132) s)
unfolding answers_in
answers_here s at h = rw (record_here s at h)

pub answers_none : (s : List ℕ) (at : ℕ) → length s < at + 132 → answers_in (drop at s) ≡ []
unfolding answers_in
answers_none s at h = rw (records_none (drop at s) (omega (arith, length-drop at s)))

pub id_here : (s : List ℕ) (at : ℕ) → get_or (record_at s at) 0 0 ≡ get_or s at 0
id_here s at = get_or-take 132 (drop at s) 0 0 (omega arith) ∙ (get_or-drop at s 0 0 ∙ ap (λ (n : ℕ). get_or s n 0) (omega arith))

-- ---- `goes_on`: two records behind one another, and none where there are not two
pub on_short : (s : List ℕ) (at : ℕ) → length s < at + 132 + 132 → false ≡ goes_on_at s at
unfolding goes_on_at
on_short s at h = simp (lt-leb (at + 132 + 132) (length s) h)

pub on_two : (s : List ℕ) (at : ℕ) → at + 132 + 132 ≤ length s → same_run (record_at s at) (record_at s (at + 132)) ≡ goes_on_at s at
unfolding goes_on_at same_run
on_two s at h =
    rw (id_here s at, id_here s (at + 132), ← abstract_here s at (omega arith), ← abstract_here s (at + 132) h) (simp (le-leb (at + 132 + 132) (length s) h))

front_two : (l : List ℕ) (n : ℕ) → 2 ≤ n → first_chunks 132 n l ≡ take 132 l ∷ take 132 (drop 132 l) ∷ first_chunks 132 (n - 2) (drop 132 (drop 132 l))
front_two l zero h = absurd (omega arith)
front_two l (suc zero) h = absurd (omega arith)
front_two l (suc (suc n)) h = let e : suc (suc n) - 2 ≡ n = omega arith in rw e

module _ (s rest : List ℕ) (at : ℕ) (rs : List (List ℕ)) (e : rest ≡ drop at s) (f : rs ≡ first_chunks 132 (length rest / 132) rest) (l : length rs ≡ length rest / 132) where
  pub on_few : length rs < 2 → false ≡ goes_on_at s at
  on_few h = let g = ap length e in on_short s at (omega (arith, length-drop at s))

  pub on_next : (d : Bool) → 2 ≤ length rs → d ≡ same_run (get_or rs 0 []) (get_or rs 1 []) → d ≡ goes_on_at s at
  on_next d h q =
      let g = ap length e in
      q ∙ (rw (f, front_two rest (length rest / 132) (omega arith), e, drop-drop 132 at s) (on_two s at (omega (arith, length-drop at s))))

-- ---- what `goes_on` answers is whether the next context goes on the run
pub no_run : (r : List ℕ) → goes_on r [] ≡ true → ⊥
unfolding goes_on
no_run r e = absurd (held false e)

pub on_here : (s : List ℕ) (at : ℕ) → at + 132 ≤ length s → goes_on_at s at ≡ goes_on (record_at s at) (contexts_in (drop (at + 132) s))
unfolding goes_on_at goes_on start
on_here s at h = go (leb (at + 132 + 132) (length s)) refl
  where
    go : (b : Bool) → leb (at + 132 + 132) (length s) ≡ b → goes_on_at s at ≡ goes_on (record_at s at) (contexts_in (drop (at + 132) s))
    go true q =
        let l : at + 132 + 132 ≤ length s = leb-true _ _ q in
        rw (contexts_here s (at + 132) l, id_here s at, id_here s (at + 132), ← abstract_here s at h, ← abstract_here s (at + 132) l) (simp q)
    go false q = rw (contexts_none s (at + 132) (leb-false _ _ q)) (simp q)

-- a record that goes on a run is there
pub on_there : (s : List ℕ) (at : ℕ) → goes_on_at s at ≡ true → at + 132 + 132 ≤ length s
unfolding goes_on_at
on_there s at e = go (leb (at + 132 + 132) (length s)) refl
  where
    go : (d : Bool) → leb (at + 132 + 132) (length s) ≡ d → at + 132 + 132 ≤ length s
    go true q = leb-true _ _ q
    go false q = absurd (held false (simp q at e))

-- ---- records one behind the other as `same_run` holds: a run, and its context is the first
run_on : (r : List ℕ) (c : Context) (cs : List Context) → goes_on r (c ∷ cs) ≡ true
    → start r (c ∷ cs) ≡ record { id = record_id r; abstr = abstract_of r; transfers = transfer_of r ∷ c.transfers } ∷ cs
unfolding start
run_on r c cs e = rw e

run_new : (r : List ℕ) (cs : List Context) → goes_on r cs ≡ false → start r cs ≡ record { id = record_id r; abstr = abstract_of r; transfers = transfer_of r ∷ [] } ∷ cs
unfolding start
run_new r cs e = rw e

none_on : (r : List ℕ) → goes_on r [] ≡ false
unfolding goes_on
none_on r = refl

-- what is in front of a record says of it what `same_run` says
next_on : (r q : List ℕ) (qs : List (List ℕ)) → goes_on r (sheet_runs (q ∷ qs)) ≡ same_run r q
unfolding goes_on sheet_runs start same_run
next_on r q qs = refl

-- the longest run at the front of some records is the first context
pub run_front : (x rest : List (List ℕ)) → 0 < length x → IsChunkByPrefix same_run (x ++ rest) (length x) → sheet_runs (x ++ rest) ≡ run_context x ∷ sheet_runs rest
unfolding sheet_runs run_context
run_front [] rest h p = absurd (omega arith)
run_front (r ∷ []) [] h p = run_new r [] (none_on r)
run_front (r ∷ []) (q ∷ qs) h p = run_new r (sheet_runs (q ∷ qs)) (next_on r q qs ∙ p.1 (omega arith) [])
run_front (r ∷ q ∷ ys) rest h p =
    let two : (k : ℕ) → suc k + 1 ≡ suc (k + 1) = λ k. omega arith in
    let last : length (r ∷ q ∷ ys) - 1 ≡ suc (length (q ∷ ys) - 1) = omega arith in
    let front : IsChunkByPrefix same_run ((q ∷ ys) ++ rest) (length (q ∷ ys)) = (λ k d l. rw (two k) at (p.0 (suc k) d (omega arith)), λ l d. rw last at (p.1 (omega arith) d)) in
    let one : sheet_runs ((q ∷ ys) ++ rest) ≡ run_context (q ∷ ys) ∷ sheet_runs rest = run_front (q ∷ ys) rest (omega arith) front in
    let on : goes_on r (sheet_runs ((q ∷ ys) ++ rest)) ≡ true = next_on r q (ys ++ rest) ∙ p.0 0 [] (omega arith) in
    ap (start r) one ∙ run_on r (run_context (q ∷ ys)) (sheet_runs rest) (ap (goes_on r) (sym one) ∙ on)

-- ---- `ids_differ` and `runs_differ`: no ID of those gone over was seen twice, and the rest decides
fresh_again : (seen : List ℕ) (x : ℕ) (xs : List ℕ) (new : Bool) → new ≡ not (is_in x seen) → not new ≡ true → fresh seen (x ∷ xs) ≡ false
fresh_again seen x xs new q y = fresh_seen seen x xs (not-false (is_in x seen) (sym q ∙ not-true new y))

fresh_more : (seen r : List ℕ) (x : ℕ) (xs : List ℕ) (new : Bool) → new ≡ not (is_in x seen) → not new ≡ false → With seen x r → fresh seen (x ∷ xs) ≡ fresh r xs
fresh_more seen r x xs new q y w = fresh_new seen r x xs (not-true (is_in x seen) (sym q ∙ not-false new y)) w

pub ids_start : (seen ids : List ℕ) → Empty seen → distinct ids ≡ fresh seen ids
ids_start seen ids e = fresh_start seen e ids

module _ (rs : List (List ℕ)) (seen : List ℕ) (i : ℕ) (all : Bool) (v : all ≡ fresh seen (map record_id (drop i rs))) where
  pub ids_over : length rs ≤ i → true ≡ all
  ids_over h = sym (v ∙ rw (drop_all i rs h) (fresh_none seen))

  module _ (new : Bool) (h : i < length rs) (q : new ≡ not (is_in (record_id (get_or rs i [])) seen)) where
    ids_here : drop i rs ≡ get_or rs i [] ∷ drop (i + 1) rs
    ids_here = rw add-one (drop-cons rs i [] h)

    pub ids_seen : not new ≡ true → false ≡ all
    ids_seen y = sym (v ∙ rw ids_here (fresh_again seen (record_id (get_or rs i [])) _ new q y))

    pub ids_new : (r : List ℕ) → not new ≡ false → With seen (record_id (get_or rs i [])) r → all ≡ fresh r (map record_id (drop (i + 1) rs))
    ids_new r n m = v ∙ rw ids_here (fresh_more seen r (record_id (get_or rs i [])) _ new q n m)

pub ruleset ids_laws = (rules, ids_start, ids_over, ids_seen, ids_new)

module _ (rest : List (List ℕ)) (seen : List ℕ) (all : Bool) (v : all ≡ fresh seen (map context_id (sheet_runs rest))) where
  pub runs_over : length rest ≡ 0 → true ≡ all
  unfolding sheet_runs
  runs_over h = go rest h v
    where
      go : (rs : List (List ℕ)) → length rs ≡ 0 → all ≡ fresh seen (map context_id (sheet_runs rs)) → true ≡ all
      go [] h v = sym (v ∙ fresh_none seen)
      go (r ∷ rs) h v = absurd (omega arith)

  module _ (x more : List (List ℕ)) (e : rest ≡ x ++ more) (h : 0 < length x) (p : IsChunkByPrefix same_run rest (length x)) (new : Bool) (q : new ≡ not (is_in (record_id (get_or x 0 [])) seen)) where
    runs_here : map context_id (sheet_runs rest) ≡ record_id (get_or x 0 []) ∷ map context_id (sheet_runs more)
    unfolding run_context
    runs_here = rw e (ap (map context_id) (run_front x more h (subst (λ (rs : List (List ℕ)). IsChunkByPrefix same_run rs (length x)) e p)) ∙ go x h)
      where
        go : (x : List (List ℕ)) → 0 < length x → (context_id (run_context x) ∷ map context_id (sheet_runs more)) ≡ record_id (get_or x 0 []) ∷ map context_id (sheet_runs more)
        go [] h = absurd (omega arith)
        go (r ∷ rs) h = refl

    pub runs_seen : not new ≡ true → false ≡ all
    runs_seen y = sym (v ∙ rw runs_here (fresh_again seen (record_id (get_or x 0 [])) _ new q y))

    pub runs_new : (r : List ℕ) → not new ≡ false → With seen (record_id (get_or x 0 [])) r → all ≡ fresh r (map context_id (sheet_runs more))
    runs_new r n m = v ∙ rw runs_here (fresh_more seen r (record_id (get_or x 0 [])) _ new q n m)

pub ruleset runs_laws = (rules, ids_start, runs_over, runs_seen, runs_new)
