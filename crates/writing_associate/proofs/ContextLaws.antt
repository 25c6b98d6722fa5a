-- Laws of a sheet's contexts, measured and written over its records.
-- Assumes nothing.
use Prim.Native.Nat.{ℕ, ◌+◌, ◌/◌, ◌%◌, ◌≤◌, ◌<◌}
use native.Mathlib.Omega.{arith}
use mathlib.Core.Bool.{Bool, true, false}
use mathlib.Core.List.{List, [], ◌∷◌, ◌++◌, map}
use mathlib.Core.Path.{◌≡◌, refl, ap, subst, ◌∙◌}
use lib.ListN.{length, drop, get_or, length-append}
use lib.Dec.{leb}
use borrow.Author.Rules.{rules}
use borrow.Author.Tests.{le-leb, lt-leb, leb-true, leb-false}
use Rattle.std.proofs.lemmas.List.{drop_all}
use Rattle.std.specs.List.{IsChunkByPrefix}
use Rattle.numbers.specs.Lengths.{LONGEST}
use Rattle.octets.specs.Octets.{two}
use Rattle.octets.specs.Put.{Placed}
use Rattle.octets.specs.Private.Put.{Put}
use Rattle.octets.proofs.PutLaws.{placed_put}
use Rattle.items.specs.Wire.{item_bytes, items_bytes}
use Rattle.items.proofs.WireLaws.{item_length}
use Rattle.sheets.specs.Sheet.{abstract_of, transfer_of, sheet_runs, answered_of}
use Rattle.sheets.specs.Record.{same_run}
use Rattle.sheets.specs.Private.OneRecord.{run_context}
use Rattle.sheets.proofs.RecordLaws.{abstract_first, transfer_first, abstract_short, transfer_short}
use Rattle.sheets.proofs.RunLaws.{run_front}
use Rattle.writing.specs.Wire.{context_body, answer_body}
use Rattle.writing_associate.specs.Private.ContextItems.{name_items, names_size, run_item, run_items, answer_item, answer_items, context_bytes, context_head, capped}
use Rattle.writing_associate.proofs.ItemLaws.{Writing, writing_start, writing_room, writing_next, writing_done, drop_step, part_room, rest_room, both_put, item_room}

-- ---- what comes first, and the rest
names_cons : (r : List ℕ) (rs : List (List ℕ)) → name_items (r ∷ rs) ≡ item_bytes 0x40 (transfer_of r) ++ name_items rs
unfolding name_items
names_cons r rs = refl

answers_cons : (r : List ℕ) (rs : List (List ℕ)) → answer_items (r ∷ rs) ≡ answer_item r ++ answer_items rs
unfolding answer_items answer_item
answers_cons r rs = refl

-- the longest run at the front
runs_cons : (run rest : List (List ℕ)) → 0 < length run → IsChunkByPrefix same_run (run ++ rest) (length run) → run_items (run ++ rest) ≡ run_item run ++ run_items rest
unfolding run_items run_item
runs_cons run rest h p = rw (run_front run rest h p)

-- ---- how many bytes
pub names_long : (rs : List (List ℕ)) → length (name_items rs) ≡ names_size 4 rs
unfolding name_items names_size
names_long [] = refl
names_long (r ∷ rs) = let l = names_long rs in let a = length-append (item_bytes 0x40 (transfer_of r)) (items_bytes 0x40 (map transfer_of rs)) in let i = item_length 0x40 (transfer_of r) in omega arith

answer_is : (r : List ℕ) → answer_item r ≡ context_head 0x21 (8 + length (transfer_of r)) (get_or r 0 0) (get_or r 1 0) ++ item_bytes 0x40 (transfer_of r)
unfolding answer_item answer_body answered_of item_bytes context_head
answer_is r = let e : length ((get_or r 0 0) ∷ 0 ∷ (get_or r 1 0) ∷ 0 ∷ item_bytes 0x40 (transfer_of r)) ≡ 8 + length (transfer_of r) = omega arith in rw e

head_long : (kind n i r : ℕ) → length (context_head kind n i r) ≡ 8
unfolding context_head
head_long kind n i r = refl

answer_long : (r : List ℕ) → length (answer_item r) ≡ 12 + length (transfer_of r)
answer_long r = rw answer_is (simp (length-append, head_long, item_length) (omega arith))

pub answers_long : (rs : List (List ℕ)) → length (answer_items rs) ≡ names_size 12 rs
unfolding names_size answer_items
answers_long [] = refl
answers_long (r ∷ rs) = let l = answers_long rs in let a = length-append (answer_item r) (answer_items rs) in let i = answer_long r in ap length (answers_cons r rs) ∙ omega arith

-- the first record of a run
abbrev pub first : List (List ℕ) → List ℕ
first run = get_or run 0 []

run_bytes : (r : List ℕ) (rs : List (List ℕ)) (m : ℕ) → length (get_or r 0 0 ∷ 0 ∷ 0 ∷ 0 ∷ (item_bytes 0x30 (abstract_of r) ++ name_items (r ∷ rs))) ≡ m
    → run_item (r ∷ rs) ≡ context_head 0x20 m (get_or r 0 0) 0 ++ (item_bytes 0x30 (abstract_of r) ++ name_items (r ∷ rs))
unfolding run_item run_context context_body name_items item_bytes context_head
run_bytes r rs m e = rw e

run_is : (run : List (List ℕ)) → 0 < length run
    → run_item run ≡ context_head 0x20 (8 + length (abstract_of (first run)) + names_size 4 run) (get_or (first run) 0 0) 0 ++ (item_bytes 0x30 (abstract_of (first run)) ++ name_items run)
run_is [] h = absurd (omega arith)
run_is (r ∷ rs) h =
    let n : length (name_items (r ∷ rs)) ≡ names_size 4 (r ∷ rs) = names_long (r ∷ rs) in
    let e : length (get_or r 0 0 ∷ 0 ∷ 0 ∷ 0 ∷ (item_bytes 0x30 (abstract_of r) ++ name_items (r ∷ rs))) ≡ 8 + length (abstract_of r) + names_size 4 (r ∷ rs) = (let a = length-append (item_bytes 0x30 (abstract_of r)) (name_items (r ∷ rs)) in let i = item_length 0x30 (abstract_of r) in omega arith) in
    run_bytes r rs _ e

run_long : (run : List (List ℕ)) → 0 < length run → length (run_item run) ≡ 12 + length (abstract_of (first run)) + names_size 4 run
run_long run h =
    rw (run_is run h) (let n = names_long run in simp (length-append, head_long, item_length) (omega arith))

-- ---- `transfer_len`, `abstract_len`
pub transfer_64 : (r : List ℕ) → length r ≡ 132 → length (transfer_of r) ≤ 64
transfer_64 r h = rw (← transfer_first r h) (transfer_short r 0)

pub abstract_64 : (r : List ℕ) → length r ≡ 132 → length (abstract_of r) ≤ 64
abstract_64 r h = rw (← abstract_first r h) (abstract_short r 0)

-- ---- measured: n counts the base and what is gone over, and all of it keeps the limit
pub capped_low : (n : ℕ) → n ≤ LONGEST → n ≡ capped n
unfolding capped
capped_low n h = simp (le-leb n LONGEST h)

pub capped_high : (n : ℕ) → LONGEST < n → LONGEST + 1 ≡ capped n
unfolding capped
capped_high n h = simp (lt-leb n LONGEST h)

capped_by : (x n : ℕ) → n ≡ capped x → (n ≤ LONGEST → n ≡ x) × (LONGEST < n → LONGEST < x)
unfolding capped
capped_by x n e = go (leb x LONGEST) refl
  where
    go : (b : Bool) → leb x LONGEST ≡ b → (n ≤ LONGEST → n ≡ x) × (LONGEST < n → LONGEST < x)
    go true q = let z : n ≡ x = e ∙ simp q in (λ h. z, λ h. omega arith)
    go false q = let z : n ≡ LONGEST + 1 = e ∙ simp q in let l = leb-false x LONGEST q in (λ h. absurd (omega arith), λ h. l)

module _ (head base : ℕ) (rs : List (List ℕ)) (n i : ℕ) (v : base + names_size head rs ≡ n + names_size head (drop i rs)) where
  module _ (h : i < length rs) (x : List ℕ) (q : x ≡ transfer_of (get_or rs i [])) where
    names_here : names_size head (drop i rs) ≡ head + length x + names_size head (drop (i + 1) rs)
    unfolding names_size
    names_here = rw (drop_step rs i [] h, ← q)

    pub names_next : base + names_size head rs ≡ n + (head + length x) + names_size head (drop (i + 1) rs)
    names_next = let l = names_here in omega arith

    pub names_over : LONGEST < n + (head + length x) → LONGEST + 1 ≡ capped (base + names_size head rs)
    names_over o = let l = names_here in capped_high _ (omega arith)

  pub names_done : length rs ≤ i → n ≤ LONGEST → n ≡ capped (base + names_size head rs)
  unfolding names_size
  names_done h l = let e = drop_all i rs h in let d : names_size head (drop i rs) ≡ 0 = rw e in let z : n ≡ base + names_size head rs = omega arith in z ∙ capped_low _ (omega arith)

pub ruleset names_laws = (rules, names_next, names_over, names_done)

-- runs
module _ (rest x more : List (List ℕ)) (e : rest ≡ x ++ more) (h : 0 < length x) (p : IsChunkByPrefix same_run rest (length x)) where
  pub runs_here : run_items rest ≡ run_item x ++ run_items more
  runs_here = rw e (runs_cons x more h (subst (λ (rs : List (List ℕ)). IsChunkByPrefix same_run rs (length x)) e p))

  runs_sum : length (run_items rest) ≡ 12 + length (abstract_of (first x)) + names_size 4 x + length (run_items more)
  runs_sum = let l = run_long x h in let a = length-append (run_item x) (run_items more) in ap length runs_here ∙ omega arith

  module _ (base all n m : ℕ) (a : List ℕ) (v : base + all ≡ n + length (run_items rest)) (q : m ≡ capped (n + names_size 4 x)) (r : a ≡ abstract_of (first x)) where
    pub runs_next : m + 12 + length a ≤ LONGEST → base + all ≡ m + 12 + length a + length (run_items more)
    runs_next o = let s = runs_sum in let d = ap length r in let k : m ≡ n + names_size 4 x = (capped_by (n + names_size 4 x) m q).0 (omega arith) in omega arith

    pub runs_over : LONGEST < m + 12 + length a → LONGEST + 1 ≡ capped (base + all)
    runs_over o = go (leb m LONGEST) refl
      where
        go : (b : Bool) → leb m LONGEST ≡ b → LONGEST + 1 ≡ capped (base + all)
        go true t =
            let s = runs_sum in
            let d = ap length r in
            let k : m ≡ n + names_size 4 x = (capped_by (n + names_size 4 x) m q).0 (leb-true m LONGEST t) in
            capped_high (base + all) (omega arith)
        go false t =
            let s = runs_sum in
            let d = ap length r in
            let k : LONGEST < n + names_size 4 x = (capped_by (n + names_size 4 x) m q).1 (leb-false m LONGEST t) in
            capped_high (base + all) (omega arith)

pub runs_none : (rest : List (List ℕ)) → length rest ≡ 0 → run_items rest ≡ []
unfolding run_items sheet_runs
runs_none [] h = refl
runs_none (r ∷ rs) h = absurd (omega arith)

pub runs_done : (rest : List (List ℕ)) (base all n : ℕ) → base + all ≡ n + length (run_items rest) → length rest ≡ 0 → n ≤ LONGEST → n ≡ capped (base + all)
runs_done rest base all n v h l = let d = ap length (runs_none rest h) in let z : n ≡ base + all = omega arith in z ∙ capped_low (base + all) (omega arith)

pub capped_16385 : (n x : ℕ) → n ≡ capped x → n ≤ LONGEST + 1
unfolding capped
capped_16385 n x e = go (leb x LONGEST) refl
  where
    go : (b : Bool) → leb x LONGEST ≡ b → n ≤ LONGEST + 1
    go true q = let z : n ≡ x = e ∙ simp q in let l = leb-true x LONGEST q in omega arith
    go false q = let z : n ≡ LONGEST + 1 = e ∙ simp q in omega arith

-- ---- `measure`
pub measure_runs : (base n : ℕ) (rs : List (List ℕ)) → n ≡ capped (base + length (run_items rs)) → n ≡ capped (base + length (context_bytes false rs))
unfolding context_bytes
measure_runs base n rs e = e

pub measure_answers : (base n : ℕ) (rs : List (List ℕ)) → n ≡ capped (base + names_size 12 rs) → n ≡ capped (base + length (context_bytes true rs))
unfolding context_bytes
measure_answers base n rs e = rw answers_long e

-- ---- `put_head`
pub head_put : (o l o₁ : List ℕ) (at kind n id result r : ℕ) → at + 8 ≤ length o → l ≡ two n → Placed o at (kind ∷ 0 ∷ get_or l 0 0 ∷ get_or l 1 0 ∷ id ∷ 0 ∷ result ∷ 0 ∷ []) r o₁ → Put o at (context_head kind n id result) r o₁
unfolding context_head
head_put o l o₁ at kind n id result r h e p = placed_put o at (kind ∷ 0 ∷ n / 256 ∷ n % 256 ∷ id ∷ 0 ∷ result ∷ 0 ∷ []) (rw e at p) (omega arith)

pub ruleset head_laws = (rules, head_put)

-- ---- `put_names`
names_rest : (rs : List (List ℕ)) (i : ℕ) (x : List ℕ) → i < length rs → x ≡ transfer_of (get_or rs i []) → name_items (drop i rs) ≡ item_bytes 0x40 x ++ name_items (drop (i + 1) rs)
names_rest rs i x h q = rw q (ap name_items (drop_step rs i [] h) ∙ names_cons (get_or rs i []) (drop (i + 1) rs))

names_none : (rs : List (List ℕ)) (i : ℕ) → length rs ≤ i → name_items (drop i rs) ≡ []
unfolding name_items
names_none rs i h = rw (drop_all i rs h)

module _ (o₀ all o : List ℕ) (rs : List (List ℕ)) (from n i : ℕ) (w : Writing o₀ from all o n (name_items (drop i rs))) where
  module _ (h : i < length rs) (x : List ℕ) (q : x ≡ transfer_of (get_or rs i [])) where
    pub names_room : n + 4 + length x ≤ length o
    names_room = item_room o x n 0x40 (writing_room o₀ all o _ from n w (item_bytes 0x40 x) _ (names_rest rs i x h q))

    pub names_more : (o' : List ℕ) (n' : ℕ) → Put o n (item_bytes 0x40 x) n' o' → Writing o₀ from all o' n' (name_items (drop (i + 1) rs))
    names_more = writing_next o₀ all o _ from n w (item_bytes 0x40 x) _ (names_rest rs i x h q)

  pub names_end : length rs ≤ i → Put o₀ from all n o
  names_end h = writing_done o₀ all o _ from n w (names_none rs i h)

pub ruleset put_names_laws = (rules, writing_start, names_room, names_more, names_end)

-- ---- `put_answers`
answers_rest : (rs : List (List ℕ)) (i : ℕ) → i < length rs → answer_items (drop i rs) ≡ answer_item (get_or rs i []) ++ answer_items (drop (i + 1) rs)
answers_rest rs i h = ap answer_items (drop_step rs i [] h) ∙ answers_cons (get_or rs i []) (drop (i + 1) rs)

answers_none : (rs : List (List ℕ)) (i : ℕ) → length rs ≤ i → answer_items (drop i rs) ≡ []
unfolding answer_items
answers_none rs i h = rw (drop_all i rs h)

module _ (o₀ all o : List ℕ) (rs : List (List ℕ)) (from n i : ℕ) (w : Writing o₀ from all o n (answer_items (drop i rs))) where
  module _ (h : i < length rs) where
    pub answers_room : n + length (answer_item (get_or rs i [])) ≤ length o
    answers_room = writing_room o₀ all o _ from n w _ _ (answers_rest rs i h)

    pub answers_more : (o' : List ℕ) (n' : ℕ) → Put o n (answer_item (get_or rs i [])) n' o' → Writing o₀ from all o' n' (answer_items (drop (i + 1) rs))
    answers_more = writing_next o₀ all o _ from n w _ _ (answers_rest rs i h)

  pub answers_end : length rs ≤ i → Put o₀ from all n o
  answers_end h = writing_done o₀ all o _ from n w (answers_none rs i h)

pub ruleset put_answers_laws = (rules, writing_start, answers_room, answers_more, answers_end)

-- ---- `put_answer`
module _ (r o x : List ℕ) (at : ℕ) (g : at + length (answer_item r) ≤ length o) (e : x ≡ transfer_of r) where
  answer_eq : answer_item r ≡ context_head 0x21 (8 + length x) (get_or r 0 0) (get_or r 1 0) ++ item_bytes 0x40 x
  answer_eq = rw e (answer_is r)

  answer_all : at + length (context_head 0x21 (8 + length x) (get_or r 0 0) (get_or r 1 0) ++ item_bytes 0x40 x) ≤ length o
  answer_all = rw answer_eq at g

  pub answer_room : at + 8 ≤ length o
  answer_room = let p = part_room o (context_head 0x21 (8 + length x) (get_or r 0 0) (get_or r 1 0)) (item_bytes 0x40 x) at answer_all in let l = head_long 0x21 (8 + length x) (get_or r 0 0) (get_or r 1 0) in omega arith

  module _ (o₁ : List ℕ) (i : ℕ) (p : Put o at (context_head 0x21 (8 + length x) (get_or r 0 0) (get_or r 1 0)) i o₁) where
    pub answer_name : i + 4 + length x ≤ length o₁
    answer_name = item_room o₁ x i 0x40 (rest_room o (context_head 0x21 (8 + length x) (get_or r 0 0) (get_or r 1 0)) (item_bytes 0x40 x) at answer_all o₁ i p)

    pub answer_put : (o₂ : List ℕ) (j : ℕ) → Put o₁ i (item_bytes 0x40 x) j o₂ → Put o at (answer_item r) j o₂
    answer_put o₂ j q = rw answer_eq (both_put o (context_head 0x21 (8 + length x) (get_or r 0 0) (get_or r 1 0)) (item_bytes 0x40 x) at answer_all o₁ i p o₂ j q)

pub ruleset put_answer_laws = (rules, answer_room, answer_name, answer_put)

-- ---- `put_run`
module _ (run : List (List ℕ)) (o : List ℕ) (at : ℕ) (h : 0 < length run) (g : at + length (run_item run) ≤ length o) (s : length (run_item run) ≤ LONGEST) (a : List ℕ) (m : ℕ) (e : a ≡ abstract_of (first run)) (q : m ≡ capped (0 + names_size 4 run)) where
  count_is : m ≡ names_size 4 run
  count_is = let l = run_long run h in let z = capped_low (0 + names_size 4 run) (omega arith) in omega arith

  abbrev lead : List ℕ
  lead = context_head 0x20 (8 + length a + m) (get_or (first run) 0 0) 0

  run_eq : run_item run ≡ lead ++ (item_bytes 0x30 a ++ name_items run)
  run_eq = rw (count_is, e) (run_is run h)

  run_all : at + length (lead ++ (item_bytes 0x30 a ++ name_items run)) ≤ length o
  run_all = rw run_eq at g

  pub run_small : 8 + length a + m < 65536
  run_small = let l = run_long run h in let c = count_is in let d = ap length e in omega arith

  pub run_room : at + 8 ≤ length o
  run_room = let p = part_room o lead (item_bytes 0x30 a ++ name_items run) at run_all in let l = head_long 0x20 (8 + length a + m) (get_or (first run) 0 0) 0 in omega arith

  module _ (o₁ : List ℕ) (i : ℕ) (p : Put o at (context_head 0x20 (8 + length a + m) (get_or (first run) 0 0) 0) i o₁) where
    behind : i + length (item_bytes 0x30 a ++ name_items run) ≤ length o₁
    behind = rest_room o lead (item_bytes 0x30 a ++ name_items run) at run_all o₁ i p

    pub run_name : i + 4 + length a ≤ length o₁
    run_name = item_room o₁ a i 0x30 (part_room o₁ (item_bytes 0x30 a) (name_items run) i behind)

    module _ (o₂ : List ℕ) (j : ℕ) (t : Put o₁ i (item_bytes 0x30 a) j o₂) where
      pub run_names : j + length (name_items run) ≤ length o₂
      run_names = rest_room o₁ (item_bytes 0x30 a) (name_items run) i behind o₂ j t

      pub run_put : (o₃ : List ℕ) (k : ℕ) → Put o₂ j (name_items run) k o₃ → Put o at (run_item run) k o₃
      run_put o₃ k u =
          rw run_eq (both_put o lead (item_bytes 0x30 a ++ name_items run) at run_all o₁ i p o₃ k (both_put o₁ (item_bytes 0x30 a) (name_items run) i behind o₂ j t o₃ k u))

pub ruleset put_run_laws = (rules, capped_16385, run_small, run_room, run_name, run_names, run_put)

-- ---- `put_runs`
module _ (o₀ all o : List ℕ) (rest x more : List (List ℕ)) (from n : ℕ) (w : Writing o₀ from all o n (run_items rest)) (e : rest ≡ x ++ more) (h : 0 < length x) (p : IsChunkByPrefix same_run rest (length x)) where
  pub each_room : n + length (run_item x) ≤ length o
  each_room = writing_room o₀ all o _ from n w (run_item x) (run_items more) (runs_here rest x more e h p)

  pub each_small : length (run_items rest) ≤ LONGEST → (length (run_item x) ≤ LONGEST) × (length (run_items more) ≤ LONGEST)
  each_small s = let a = ap length (runs_here rest x more e h p) in let b = length-append (run_item x) (run_items more) in (omega arith, omega arith)

  pub each_more : (o' : List ℕ) (n' : ℕ) → Put o n (run_item x) n' o' → Writing o₀ from all o' n' (run_items more)
  each_more = writing_next o₀ all o _ from n w (run_item x) (run_items more) (runs_here rest x more e h p)

pub runs_end : (o₀ all o : List ℕ) (rest : List (List ℕ)) (from n : ℕ) → Writing o₀ from all o n (run_items rest) → length rest ≡ 0 → Put o₀ from all n o
runs_end o₀ all o rest from n w h = writing_done o₀ all o _ from n w (runs_none rest h)
