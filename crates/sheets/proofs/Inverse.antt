-- Sheets and contexts are inverse where they are good: a good sheet's contexts give back the sheet, and good contexts are those of their sheet, which is good.
-- Assumes nothing.
use Prim.Native.Nat.{ℕ, zero, suc, ◌-◌, ◌*◌, ◌%◌, ◌≤◌}
use native.Mathlib.Omega.{arith}
use mathlib.Core.Bool.{Bool, true, false, not, ◌&&◌, ◌||◌, cond}
use mathlib.Core.List.{List, [], ◌∷◌, ◌++◌, map, append_assoc}
use mathlib.Core.Path.{◌≡◌, refl, sym, ap, ◌∙◌}
use lib.ListN.{length, take, drop, get_or, replicate, length-append, length-drop, take-append-drop}
use lib.Seq.{take-take, take_at, drop_at, drop-drop, length-take-le}
use lib.Dec.{leb, eqb}
use borrow.Author.Tests.{le-leb, eq-eqb, leb-true, eqb-true, not-true}
use Rattle.laws.specs.Lists.{all, empty, same_bytes, among, distinct}
use Rattle.laws.proofs.Booleans.{left_of, right_of, both_of, held, holds}
use Rattle.laws.proofs.Same.{same_equal, same_self}
use Rattle.laws.proofs.Records.{Good, Sheeted, good, sheet_back, in_front, rows_front, sheeted_good}
use Rattle.names.specs.Name.{name_ok}
use Rattle.names.proofs.NameLaws.{name_short}
use Rattle.numbers.specs.Lengths.{RECORD}
use Rattle.numbers.specs.Results.{ACCEPTED}
use Rattle.octets.specs.Octets.{odd}
use Rattle.sheets.specs.Contexts.{Context, Answered, context_id, answered_id, context_ok, transfer_name_ok, answered_ok, contexts_ok, all_answered_ok}
use Rattle.sheets.specs.Sheet.{field, record_bytes, context_records, sheet_of, answer_sheet_of, records_of, record_id, abstract_of, transfer_of, goes_on, first_transfers, others, start, sheet_runs, contexts_in, answered_of, answers_in, zero?, field_ok, fields_ok, proposes, site_record, answers, proposal_ok, answers_ok, site_ok}
use Rattle.sheets.proofs.RecordLaws.{cap_low, field_length, record_length}
use Rattle.sheets.proofs.RunLaws.{no_run}

-- a transfer name fits its field, for each result
pub transfer_fits : (result : ℕ) (x : List ℕ) → transfer_name_ok result x ≡ true → length x ≤ 64
unfolding transfer_name_ok
transfer_fits result x = go (eqb result ACCEPTED) x
  where
    go : (d : Bool) (x : List ℕ) → cond d (name_ok x) (empty x) ≡ true → length x ≤ 64
    go true x e = name_short x e
    go false [] e = omega arith
    go false (y ∷ x) e = absurd (held false e)

-- ---- a record whose unused bytes are zero is the bytes of what it says
zeros_are : (l : List ℕ) → all zero? l ≡ true → l ≡ replicate (length l) 0
zeros_are [] k = refl
zeros_are (x ∷ l) k =
    let e : x ≡ 0 = eqb-true x 0 (left_of _ _ k) in
    let z = zeros_are l (right_of (zero? x) _ k) in
    rw e (ap (λ (m : List ℕ). 0 ∷ m) z)

module _ (n : ℕ) (f : List ℕ) (l : length f ≡ 64) (k : field_ok n f ≡ true) where
  field_parts : (leb n 64 && all zero? (drop n f)) ≡ true
  unfolding field_ok
  field_parts = k

  pub field_small : n ≤ 64
  field_small = leb-true n 64 (left_of _ _ field_parts)

  pub used_length : length (take n f) ≡ n
  used_length = let s = field_small in length-take-le n f (omega arith)

  pub field_back : field (take n f) ≡ f
  field_back =
      let s = field_small in
      let z = zeros_are (drop n f) (right_of (leb n 64) _ field_parts) in
      let d : length (drop n f) ≡ 64 - length (take n f) = (let a = used_length in omega (arith, length-drop n f)) in
      let w : replicate (64 - length (take n f)) 0 ≡ drop n f = ap (λ (m : ℕ). replicate m 0) (sym d) ∙ sym z in
      ap (λ (m : List ℕ). take n f ++ m) w ∙ take-append-drop n f

pub four_first : (s : List ℕ) → 4 ≤ length s → s ≡ get_or s 0 0 ∷ get_or s 1 0 ∷ get_or s 2 0 ∷ get_or s 3 0 ∷ drop 4 s
four_first [] h = absurd (omega arith)
four_first (a ∷ []) h = absurd (omega arith)
four_first (a ∷ b ∷ []) h = absurd (omega arith)
four_first (a ∷ b ∷ c ∷ []) h = absurd (omega arith)
four_first (a ∷ b ∷ c ∷ d ∷ s) h = refl

module _ (r : List ℕ) (l : length r ≡ 132) (k : fields_ok r ≡ true) where
  both_fields : (field_ok (get_or r 2 0) (take 64 (drop 4 r)) && field_ok (get_or r 3 0) (drop 68 r)) ≡ true
  unfolding fields_ok
  both_fields = k

  abstract_ok : field_ok (get_or r 2 0) (take 64 (drop 4 r)) ≡ true
  abstract_ok = left_of _ _ both_fields

  transfer_name_ok_so : field_ok (get_or r 3 0) (drop 68 r) ≡ true
  transfer_name_ok_so = right_of (field_ok (get_or r 2 0) (take 64 (drop 4 r))) _ both_fields

  abstract_long : length (take 64 (drop 4 r)) ≡ 64
  abstract_long = length-take-le 64 (drop 4 r) (omega (arith, length-drop 4 r))

  transfer_long : length (drop 68 r) ≡ 64
  transfer_long = omega (arith, length-drop 68 r)

  abstract_is : abstract_of r ≡ take (get_or r 2 0) (take 64 (drop 4 r))
  unfolding abstract_of
  abstract_is =
      let s = field_small (get_or r 2 0) (take 64 (drop 4 r)) abstract_long abstract_ok in
      rw (← cap_low (get_or r 2 0) s) (sym (take-take (get_or r 2 0) 64 (drop 4 r) s))

  transfer_is : transfer_of r ≡ take (get_or r 3 0) (drop 68 r)
  unfolding transfer_of
  transfer_is = let s = field_small (get_or r 3 0) (drop 68 r) transfer_long transfer_name_ok_so in rw (← cap_low (get_or r 3 0) s)

  pub record_back : record_bytes (record_id r) (get_or r 1 0) (abstract_of r) (transfer_of r) ≡ r
  unfolding record_bytes
  record_back =
      let a : field (abstract_of r) ≡ take 64 (drop 4 r) = ap field abstract_is ∙ field_back (get_or r 2 0) (take 64 (drop 4 r)) abstract_long abstract_ok in
      let t : field (transfer_of r) ≡ drop 68 r = ap field transfer_is ∙ field_back (get_or r 3 0) (drop 68 r) transfer_long transfer_name_ok_so in
      let la : length (abstract_of r) ≡ get_or r 2 0 = ap length abstract_is ∙ used_length (get_or r 2 0) (take 64 (drop 4 r)) abstract_long abstract_ok in
      let lt : length (transfer_of r) ≡ get_or r 3 0 = ap length transfer_is ∙ used_length (get_or r 3 0) (drop 68 r) transfer_long transfer_name_ok_so in
      let j : field (abstract_of r) ++ field (transfer_of r) ≡ drop 4 r
      = ap (λ (m : List ℕ). m ++ field (transfer_of r)) a ∙ (ap (λ (m : List ℕ). take 64 (drop 4 r) ++ m) (t ∙ sym (drop-drop 64 4 r)) ∙ take-append-drop 64 (drop 4 r)) in
      let w : record_bytes (record_id r) (get_or r 1 0) (abstract_of r) (transfer_of r) ≡ get_or r 0 0 ∷ get_or r 1 0 ∷ get_or r 2 0 ∷ get_or r 3 0 ∷ drop 4 r = λ i. get_or r 0 0 ∷ get_or r 1 0 ∷ la i ∷ lt i ∷ j i in
      w ∙ sym (four_first r (omega arith))

-- ---- a good proposal's contexts give back the proposal
pub start_back : (r : List ℕ) (cs : List Context) → sheet_of (start r cs) ≡ record_bytes (record_id r) 0 (abstract_of r) (transfer_of r) ++ sheet_of cs
unfolding start sheet_of context_records goes_on
start_back r cs = go cs (goes_on r cs) refl
  where
    go : (cs : List Context) (b : Bool) → goes_on r cs ≡ b
        → (record_bytes (record_id r) 0 (abstract_of r) (transfer_of r) ++ context_records (record_id r) (abstract_of r) (cond b (first_transfers cs) [])) ++ sheet_of (cond b (others cs) cs)
        ≡ record_bytes (record_id r) 0 (abstract_of r) (transfer_of r) ++ sheet_of cs
    go cs false e = append_assoc (record_bytes (record_id r) 0 (abstract_of r) (transfer_of r)) [] (sheet_of cs)
    go [] true e = absurd (no_run r e)
    go (c ∷ cs) true e =
        let i : record_id r ≡ c.id = eqb-true _ _ (left_of (eqb (record_id r) c.id) (same_bytes (abstract_of r) c.abstr) e) in
        let a : abstract_of r ≡ c.abstr = same_equal _ _ (held _ (right_of (eqb (record_id r) c.id) (same_bytes (abstract_of r) c.abstr) e)) in
        append_assoc (record_bytes (record_id r) 0 (abstract_of r) (transfer_of r)) (context_records (record_id r) (abstract_of r) c.transfers) (sheet_of cs)
        ∙ (λ j. record_bytes (record_id r) 0 (abstract_of r) (transfer_of r) ++ (context_records (i j) (a j) c.transfers ++ sheet_of cs))

proposes_back : (r : List ℕ) → length r ≡ 132 → proposes r ≡ true → record_bytes (record_id r) 0 (abstract_of r) (transfer_of r) ≡ r
unfolding proposes
proposes_back r l k =
    let z : get_or r 1 0 ≡ 0 = eqb-true (get_or r 1 0) 0 (left_of _ _ k) in
    ap (λ (x : ℕ). record_bytes (record_id r) x (abstract_of r) (transfer_of r)) (sym z) ∙ record_back r l (right_of (eqb (get_or r 1 0) 0) _ k)

answers_back_one : (r : List ℕ) → length r ≡ 132 → answers r ≡ true → record_bytes (record_id r) (get_or r 1 0) [] (transfer_of r) ≡ r
unfolding answers abstract_of
answers_back_one r l k =
    let z : get_or r 2 0 ≡ 0 = eqb-true (get_or r 2 0) 0 (left_of _ _ k) in
    let n : abstract_of r ≡ [] = rw (z, ← cap_low 0 (omega arith)) in
    ap (λ (a : List ℕ). record_bytes (record_id r) (get_or r 1 0) a (transfer_of r)) (sym n) ∙ record_back r l (right_of (eqb (get_or r 2 0) 0) _ k)

-- ---- what a good sheet has
module _ (s : List ℕ) (k : proposal_ok s ≡ true) where
  proposal_good : Good 132 proposes (contexts_ok (contexts_in s)) s
  unfolding proposal_ok records_of
  proposal_good = good 132 proposes (contexts_ok (contexts_in s)) s k

  pub proposal_whole : length s % 132 ≡ 0
  proposal_whole = proposal_good.whole

  pub proposal_contexts : contexts_ok (contexts_in s) ≡ true
  proposal_contexts = proposal_good.holds

  pub proposal_back : sheet_of (contexts_in s) ≡ s
  unfolding contexts_in records_of sheet_runs sheet_of
  proposal_back =
      sheet_back 132 proposes sheet_runs sheet_of refl (λ r rs l g. start_back r (sheet_runs rs) ∙ ap (λ (b : List ℕ). b ++ sheet_of (sheet_runs rs)) (proposes_back r l g))
      s proposal_whole proposal_good.formed

module _ (s : List ℕ) (k : answers_ok s ≡ true) where
  answers_good : Good 132 answers (all_answered_ok (answers_in s)) s
  unfolding answers_ok records_of
  answers_good = good 132 answers (all_answered_ok (answers_in s)) s k

  pub answers_whole : length s % 132 ≡ 0
  answers_whole = answers_good.whole

  pub answers_answered : all_answered_ok (answers_in s) ≡ true
  answers_answered = answers_good.holds

  pub answer_sheet_back : answer_sheet_of (answers_in s) ≡ s
  unfolding answers_in records_of answered_of answer_sheet_of
  answer_sheet_back =
      sheet_back 132 answers (map answered_of) answer_sheet_of refl (λ r rs l g. ap (λ (b : List ℕ). b ++ answer_sheet_of (map answered_of rs)) (answers_back_one r l g))
      s answers_whole answers_good.formed

-- ---- an answer takes one record
pub answered_fits : (c : Answered) → answered_ok c ≡ true → length c.transfer ≤ 64
unfolding answered_ok
answered_fits c k =
    let o : (leb c.result 4 && transfer_name_ok c.result c.transfer) ≡ true = right_of (odd c.id) _ k in
    transfer_fits c.result c.transfer (right_of (leb c.result 4) _ o)

pub answered_length : (cs : List Answered) → all answered_ok cs ≡ true → length (answer_sheet_of cs) ≡ RECORD * length cs
unfolding answer_sheet_of
answered_length [] g = refl
answered_length (c ∷ cs) g =
    let l = record_length c.id c.result [] c.transfer (omega arith) (answered_fits c (left_of _ _ g)) in
    let r = answered_length cs (right_of (answered_ok c) _ g) in
    simp length-append (omega arith)

pub answers_length : (s : List ℕ) → answers_ok s ≡ true → length s ≡ RECORD * length (answers_in s)
unfolding all_answered_ok
answers_length s k =
    let o : (leb 1 (length (answers_in s)) && (all answered_ok (answers_in s) && distinct (map answered_id (answers_in s)))) ≡ true = answers_answered s k in
    ap length (sym (answer_sheet_back s k)) ∙ answered_length (answers_in s) (left_of _ _ (right_of (leb 1 (length (answers_in s))) _ o))

pub site_whole : (s : List ℕ) → site_ok s ≡ true → length s % 132 ≡ 0
unfolding site_ok
site_whole s k = eqb-true _ _ (left_of _ (leb 1 (length (records_of s)) && all site_record (records_of s)) k)

-- ---- what the record of two names says
module _ (id result : ℕ) (a x : List ℕ) (h : length a ≤ 64) (l : length x ≤ 64) where
  pub abstract_back : abstract_of (record_bytes id result a x) ≡ a
  unfolding abstract_of record_bytes
  abstract_back = rw (← cap_low (length a) h) (ap (take (length a)) (append_assoc a (replicate (64 - length a) 0) (field x)) ∙ take_at a _ (length a) refl)

  behind_abstract : drop 64 (field a ++ field x) ≡ field x
  behind_abstract = drop_at (field a) (field x) 64 (field_length a h)

  pub transfer_back : transfer_of (record_bytes id result a x) ≡ x
  unfolding transfer_of record_bytes
  transfer_back = rw (← cap_low (length x) l) (ap (take (length x)) behind_abstract ∙ take_at x _ (length x) refl)

zeros_good : (n : ℕ) → all zero? (replicate n 0) ≡ true
zeros_good zero = refl
zeros_good (suc n) = zeros_good n

pub field_good : (a : List ℕ) → length a ≤ 64 → field_ok (length a) (field a) ≡ true
unfolding field_ok
field_good a h = both_of _ _ (le-leb (length a) 64 h) (ap (all zero?) (drop_at a (replicate (64 - length a) 0) (length a) refl) ∙ zeros_good (64 - length a))

fields_good : (id result : ℕ) (a x : List ℕ) → length a ≤ 64 → length x ≤ 64 → fields_ok (record_bytes id result a x) ≡ true
unfolding fields_ok record_bytes
fields_good id result a x h l =
    both_of _ _ (ap (field_ok (length a)) (take_at (field a) (field x) 64 (field_length a h)) ∙ field_good a h)
    (ap (field_ok (length x)) (behind_abstract id result a x h l) ∙ field_good x l)

-- ---- good contexts are those of their sheet
abbrev Proposing : List ℕ → List Context → Type 0
Proposing = Sheeted 132 proposes contexts_in

sheeted_row : (id : ℕ) (a x s : List ℕ) (cs : List Context) → length a ≤ 64 → length x ≤ 64 → Proposing s cs → Proposing (record_bytes id 0 a x ++ s) (start (record_bytes id 0 a x) cs)
unfolding contexts_in records_of sheet_runs proposes record_bytes
sheeted_row id a x s cs h l w =
    let m = record_length id 0 a x h l in
    in_front 132 (omega arith) proposes contexts_in (record_bytes id 0 a x) s cs (start (record_bytes id 0 a x) cs) m (fields_good id 0 a x h l)
    (ap sheet_runs (rows_front 132 (omega arith) (record_bytes id 0 a x) s m) ∙ ap (start (record_bytes id 0 a x)) w.back) w

-- the record of a context that is none of cs starts one of its own; of the first of cs, it goes into it
new_run : (id : ℕ) (a x : List ℕ) (cs : List Context) → length a ≤ 64 → length x ≤ 64 → among id (map context_id cs) ≡ false
    → start (record_bytes id 0 a x) cs ≡ record { id = id; abstr = a; transfers = x ∷ [] } ∷ cs
unfolding start goes_on among record_bytes
new_run id a x cs h l n =
    let g : goes_on (record_bytes id 0 a x) cs ≡ false = none cs n in
    let p = abstract_back id 0 a x h l in
    let q = transfer_back id 0 a x h l in
    rw g (λ i. record { id = id; abstr = p i; transfers = q i ∷ [] } ∷ cs)
  where
    not_first : (b c d : Bool) → (b || c) ≡ false → (b && d) ≡ false
    not_first true c d e = absurd (held false (sym e))
    not_first false c d e = refl

    none : (cs : List Context) → among id (map context_id cs) ≡ false → goes_on (record_bytes id 0 a x) cs ≡ false
    none [] e = refl
    none (c ∷ cs) e = not_first (eqb id c.id) (among id (map context_id cs)) (same_bytes (abstract_of (record_bytes id 0 a x)) c.abstr) e

more_run : (id : ℕ) (a x : List ℕ) (xs : List (List ℕ)) (cs : List Context) → length a ≤ 64 → length x ≤ 64
    → start (record_bytes id 0 a x) (record { id = id; abstr = a; transfers = xs } ∷ cs) ≡ record { id = id; abstr = a; transfers = x ∷ xs } ∷ cs
unfolding start goes_on record_bytes
more_run id a x xs cs h l =
    let p = abstract_back id 0 a x h l in
    let q = transfer_back id 0 a x h l in
    let s : same_bytes (abstract_of (record_bytes id 0 a x)) a ≡ true = ap (λ (b : List ℕ). same_bytes b a) p ∙ holds _ (same_self a) in
    let g : goes_on (record_bytes id 0 a x) (record { id = id; abstr = a; transfers = xs } ∷ cs) ≡ true = both_of (eqb id id) _ (eq-eqb id id refl) s in
    rw g (λ i. record { id = id; abstr = p i; transfers = q i ∷ xs } ∷ cs)

sheeted_run : (id : ℕ) (a x : List ℕ) (xs : List (List ℕ)) (s : List ℕ) (cs : List Context) → length a ≤ 64 → all name_ok (x ∷ xs) ≡ true → among id (map context_id cs) ≡ false
    → Proposing s cs → Proposing (context_records id a (x ∷ xs) ++ s) (record { id = id; abstr = a; transfers = x ∷ xs } ∷ cs)
unfolding context_records
sheeted_run id a x [] s cs h k n w =
    let l : length x ≤ 64 = name_short x (left_of _ _ k) in
    let r = sheeted_row id a x s cs h l w in
    let e : record_bytes id 0 a x ++ s ≡ (record_bytes id 0 a x ++ []) ++ s = sym (append_assoc (record_bytes id 0 a x) [] s) in
    rw (← e, ← new_run id a x cs h l n) r
sheeted_run id a x (y ∷ ys) s cs h k n w =
    let l : length x ≤ 64 = name_short x (left_of _ _ k) in
    let v = sheeted_run id a y ys s cs h (right_of (name_ok x) _ k) n w in
    let r = sheeted_row id a x (context_records id a (y ∷ ys) ++ s) (record { id = id; abstr = a; transfers = y ∷ ys } ∷ cs) h l v in
    let e : record_bytes id 0 a x ++ (context_records id a (y ∷ ys) ++ s) ≡ (record_bytes id 0 a x ++ context_records id a (y ∷ ys)) ++ s = sym (append_assoc (record_bytes id 0 a x) (context_records id a (y ∷ ys)) s) in
    rw (← e, ← more_run id a x (y ∷ ys) cs h l) r

sheeted_context : (id : ℕ) (a : List ℕ) (xs : List (List ℕ)) (s : List ℕ) (cs : List Context) → length a ≤ 64 → leb 1 (length xs) ≡ true → all name_ok xs ≡ true → among id (map context_id cs) ≡ false
    → Proposing s cs → Proposing (context_records id a xs ++ s) (record { id = id; abstr = a; transfers = xs } ∷ cs)
sheeted_context id a [] s cs h p k n w = absurd (held false p)
sheeted_context id a (x ∷ xs) s cs h p k n w = sheeted_run id a x xs s cs h k n w

sheeted : (cs : List Context) → all context_ok cs ≡ true → distinct (map context_id cs) ≡ true → Proposing (sheet_of cs) cs
unfolding sheet_of context_ok distinct contexts_in sheet_runs records_of
sheeted [] k d = record { whole = refl; formed = refl; back = refl }
sheeted (c ∷ cs) k d =
    let o : (odd c.id && (name_ok c.abstr && (leb 1 (length c.transfers) && all name_ok c.transfers))) ≡ true = left_of _ _ k in
    let o₂ : (name_ok c.abstr && (leb 1 (length c.transfers) && all name_ok c.transfers)) ≡ true = right_of (odd c.id) _ o in
    let o₃ : (leb 1 (length c.transfers) && all name_ok c.transfers) ≡ true = right_of (name_ok c.abstr) _ o₂ in
    let n : among c.id (map context_id cs) ≡ false = not-true _ (left_of (not (among c.id (map context_id cs))) (distinct (map context_id cs)) d) in
    sheeted_context c.id c.abstr c.transfers (sheet_of cs) cs (name_short c.abstr (left_of _ _ o₂)) (left_of _ _ o₃) (right_of (leb 1 (length c.transfers)) _ o₃) n
    (sheeted cs (right_of (context_ok c) _ k) (right_of (not (among c.id (map context_id cs))) _ d))

module _ (cs : List Context) (k : contexts_ok cs ≡ true) where
  context_parts : (leb 1 (length cs) && (all context_ok cs && distinct (map context_id cs))) ≡ true
  unfolding contexts_ok
  context_parts = k

  contexts_sheeted : Proposing (sheet_of cs) cs
  contexts_sheeted =
      let p : (all context_ok cs && distinct (map context_id cs)) ≡ true = right_of (leb 1 (length cs)) _ context_parts in
      sheeted cs (left_of _ _ p) (right_of (all context_ok cs) _ p)

  pub contexts_back : contexts_in (sheet_of cs) ≡ cs
  contexts_back = contexts_sheeted.back

  pub contexts_proposal : proposal_ok (sheet_of cs) ≡ true
  unfolding proposal_ok records_of
  contexts_proposal = sheeted_good 132 proposes contexts_in contexts_ok (sheet_of cs) cs contexts_sheeted k

-- ---- and good answers those of theirs
abbrev Answering : List ℕ → List Answered → Type 0
Answering = Sheeted 132 answers answers_in

answering_row : (c : Answered) (s : List ℕ) (cs : List Answered) → length c.transfer ≤ 64 → Answering s cs → Answering (record_bytes c.id c.result [] c.transfer ++ s) (c ∷ cs)
unfolding answers_in records_of answered_of answers record_bytes
answering_row c s cs l w =
    let h : length {A = ℕ} [] ≤ 64 = omega arith in
    let m = record_length c.id c.result [] c.transfer h l in
    let q = transfer_back c.id c.result [] c.transfer h l in
    let b = w.back in
    in_front 132 (omega arith) answers answers_in (record_bytes c.id c.result [] c.transfer) s cs (c ∷ cs) m (fields_good c.id c.result [] c.transfer h l)
    (ap (map answered_of) (rows_front 132 (omega arith) (record_bytes c.id c.result [] c.transfer) s m) ∙ (λ i. record { id = c.id; result = c.result; transfer = q i } ∷ b i)) w

answering : (cs : List Answered) → all answered_ok cs ≡ true → Answering (answer_sheet_of cs) cs
unfolding answer_sheet_of answers_in records_of
answering [] k = record { whole = refl; formed = refl; back = refl }
answering (c ∷ cs) k = answering_row c (answer_sheet_of cs) cs (answered_fits c (left_of _ _ k)) (answering cs (right_of (answered_ok c) _ k))

module _ (cs : List Answered) (k : all_answered_ok cs ≡ true) where
  answered_parts : (leb 1 (length cs) && (all answered_ok cs && distinct (map answered_id cs))) ≡ true
  unfolding all_answered_ok
  answered_parts = k

  answered_sheet : Answering (answer_sheet_of cs) cs
  answered_sheet = answering cs (left_of _ _ (right_of (leb 1 (length cs)) _ answered_parts))

  pub answered_back : answers_in (answer_sheet_of cs) ≡ cs
  answered_back = answered_sheet.back

  pub answered_answers : answers_ok (answer_sheet_of cs) ≡ true
  unfolding answers_ok records_of
  answered_answers = sheeted_good 132 answers answers_in all_answered_ok (answer_sheet_of cs) cs answered_sheet k
