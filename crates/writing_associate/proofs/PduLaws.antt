-- Laws of an A-ASSOCIATE-RQ and -AC as they are written: the parts, the length, and what the calls answer.
-- Assumes nothing.
use Prim.Native.Nat.{ℕ, ◌+◌, ◌/◌, ◌≤◌, ◌<◌}
use native.Mathlib.Omega.{arith}
use mathlib.Core.Bool.{Bool, true, false}
use mathlib.Core.List.{List, [], ◌∷◌, ◌++◌}
use mathlib.Core.Path.{◌≡◌, refl, ap, ◌∙◌}
use lib.ListN.{length, get_or, length-append}
use lib.Dec.{leb}
use borrow.Author.Rules.{rules}
use borrow.Author.Tests.{lt-leb, leb-false}
use Rattle.std.specs.Simd.{first_chunks}
use Rattle.laws.proofs.Library.{chunk_records}
use Rattle.numbers.specs.Refusals.{NOT-REFUSED, SHORT-OUTPUT, LONG-PDU}
use Rattle.numbers.specs.Lengths.{HEADER, LONGEST}
use Rattle.octets.specs.Octets.{four}
use Rattle.octets.specs.Put.{Placed}
use Rattle.octets.specs.Private.Put.{Put}
use Rattle.octets.proofs.PutLaws.{next_room, next_put, placed_next}
use Rattle.items.specs.Wire.{item_bytes}
use Rattle.items.proofs.WireLaws.{item_length}
use Rattle.sheets.specs.Sheet.{records_of, contexts_in, answers_in}
use Rattle.user_items.specs.Sent.{user_bytes}
use Rattle.writing.specs.Wire.{pdu_bytes, associate_items, associate_bytes}
use Rattle.writing.specs.Form.{Wrote, good_form}
use Rattle.writing_associate.specs.Private.ContextItems.{run_items, answer_items, context_bytes, capped}
use Rattle.writing_associate.specs.Private.Pdu.{Associate, contexts_of, pdu_kind, pdu_of, base, item_part, fixed_part, Fit, Known, Measured}
use Rattle.writing_associate.specs.Private.UserItems.{UserFit}
use Rattle.writing_associate.proofs.ContextLaws.{capped_16385}
use Rattle.writing_associate.proofs.ItemLaws.{part_room, rest_room, both_put, item_room}
use Rattle.writing.proofs.FormLaws.{wrote_long, wrote_short, wrote_fine}

-- ---- `as_chunks`
pub sheet_records : (s : List ℕ) (rs : List (List ℕ)) → rs ≡ first_chunks 132 (length s / 132) s → rs ≡ records_of s
unfolding records_of
sheet_records s rs e = e ∙ chunk_records 132 (length s / 132) s

-- ---- `pdu_size`
module _ (f : Associate) where
  pub size_name : Fit f → length f.application ≤ 64
  size_name w = w.name_short

  pub size_over : (u x : ℕ) → LONGEST < 68 + (4 + length f.application) + (4 + u) → LONGEST + 1 ≡ capped (base f u + x)
  unfolding base capped
  size_over u x h = simp (lt-leb (68 + (4 + length f.application) + (4 + u) + x) LONGEST (omega arith))

  pub size_is : (u n : ℕ) (rs : List (List ℕ)) → rs ≡ first_chunks 132 (length f.sheet / 132) f.sheet → n ≡ capped (68 + (4 + length f.application) + (4 + u) + length (context_bytes f.answer rs))
      → n ≡ capped (base f u + length (contexts_of f))
  unfolding base
  size_is u n rs r e = e ∙ rw (sheet_records f.sheet rs r)

pub ruleset size_laws = (rules, size_name, size_over, size_is)

-- ---- `put_fixed`
abbrev fixed_head : ℕ → List ℕ → List ℕ
fixed_head kind l = kind ∷ 0 ∷ get_or l 0 0 ∷ get_or l 1 0 ∷ get_or l 2 0 ∷ get_or l 3 0 ∷ 0 ∷ 1 ∷ 0 ∷ 0 ∷ []

pub fixed_put : (o l o₁ o₂ middle : List ℕ) (kind n a r : ℕ) → 74 ≤ length o → length middle ≡ 64 → l ≡ four n
    → Placed o 0 (kind ∷ 0 ∷ get_or l 0 0 ∷ get_or l 1 0 ∷ get_or l 2 0 ∷ get_or l 3 0 ∷ 0 ∷ 1 ∷ 0 ∷ 0 ∷ []) a o₁ → Placed o₁ a middle r o₂ → Put o 0 (fixed_part kind n middle) r o₂
unfolding fixed_part
fixed_put o l o₁ o₂ middle kind n a r h m e p q =
    let all : Put o 0 (fixed_head kind l ++ middle) r o₂ = placed_next o 0 (fixed_head kind l) middle o₁ a (omega arith) p q in
    rw e at all

pub ruleset fixed_laws = (rules, fixed_put)

-- ---- `put_items`
part_is : (f : Associate) → length (item_part f) ≡ 4 + length f.application + (length (contexts_of f) + (4 + length (user_bytes f.user)))
unfolding item_part
part_is f = simp (length-append, item_length)

module _ (f : Associate) (o : List ℕ) (user at : ℕ) (w : Known f user at (length o)) where
  abbrev u : List ℕ
  u = user_bytes f.user

  pub known_user : UserFit f.user
  known_user = w.user_fit

  pub known_size : user ≡ length (user_bytes f.user)
  known_size = w.user_size

  pub known_limit : user ≤ LONGEST
  known_limit = let l = part_is f in let m = w.limit in let e = w.user_size in omega arith

  known_small : length (contexts_of f) ≤ LONGEST
  known_small = let l = part_is f in let m = w.limit in omega arith

  pub known_name : length f.application < 65536
  known_name = let l = part_is f in let m = w.limit in omega arith

  all_room : at + length (item_bytes 0x10 f.application ++ (contexts_of f ++ item_bytes 0x50 u)) ≤ length o
  unfolding item_part
  all_room = w.room

  pub name_room : at + 4 + length f.application ≤ length o
  name_room = item_room o f.application at 0x10 (part_room o (item_bytes 0x10 f.application) _ at all_room)

  module _ (o₁ : List ℕ) (e : ℕ) (q : Put o at (item_bytes 0x10 f.application) e o₁) where
    behind_name : e + length (contexts_of f ++ item_bytes 0x50 u) ≤ length o₁
    behind_name = rest_room o (item_bytes 0x10 f.application) (contexts_of f ++ item_bytes 0x50 u) at all_room o₁ e q

    module _ (rs : List (List ℕ)) (r : rs ≡ first_chunks 132 (length f.sheet / 132) f.sheet) where
      pub records_small : length (context_bytes f.answer rs) ≤ LONGEST
      records_small = rw (sheet_records f.sheet rs r) known_small

      pub contexts_room : e + length (context_bytes f.answer rs) ≤ length o₁
      contexts_room = rw (sheet_records f.sheet rs r) (part_room o₁ (contexts_of f) (item_bytes 0x50 u) e behind_name)

      module _ (o₂ : List ℕ) (b : ℕ) (t : Put o₁ e (context_bytes f.answer rs) b o₂) where
        contexts_there : Put o₁ e (contexts_of f) b o₂
        contexts_there = rw (sheet_records f.sheet rs r) at t

        pub user_room : b + 4 + user ≤ length o₂
        user_room = rw w.user_size (item_room o₂ u b 0x50 (rest_room o₁ (contexts_of f) (item_bytes 0x50 u) e behind_name o₂ b contexts_there))

        pub items_put : (o₃ : List ℕ) (g : ℕ) → Put o₂ b (item_bytes 0x50 (user_bytes f.user)) g o₃ → Put o at (item_part f) g o₃
        unfolding item_part
        items_put o₃ g z =
            both_put o (item_bytes 0x10 f.application) (contexts_of f ++ item_bytes 0x50 u) at all_room o₁ e q o₃ g
            (both_put o₁ (contexts_of f) (item_bytes 0x50 u) e behind_name o₂ b contexts_there o₃ g z)

pub ruleset items_laws = (rules, known_user, known_size, known_limit, known_name, name_room, records_small, contexts_room, user_room, items_put)

-- ---- the PDU is its fixed part and its items
pdu_items : (f : Associate) → associate_items (pdu_of f) ≡ item_part f
unfolding associate_items pdu_of item_part context_bytes run_items answer_items contexts_in answers_in
pdu_items f = by f.answer refl
  where
    by : (k : Bool) → f.answer ≡ k → associate_items (pdu_of f) ≡ item_part f
    by true e = rw e
    by false e = rw e

pub pdu_parts : (f : Associate) (n : ℕ) → length f.middle ≡ 64 → n ≡ 68 + length (item_part f) → associate_bytes (pdu_of f) ≡ fixed_part (pdu_kind f.answer) n f.middle ++ item_part f
unfolding associate_bytes pdu_bytes fixed_part pdu_of
pdu_parts f n l e =
    let i = pdu_items f in
    let b : length (0 ∷ 1 ∷ 0 ∷ 0 ∷ (f.middle ++ associate_items (pdu_of f))) ≡ n = (let c = length-append f.middle (associate_items (pdu_of f)) in let d = ap length i in omega arith) in
    rw (b, i)

fixed_long : (kind n : ℕ) (middle : List ℕ) → length middle ≡ 64 → length (fixed_part kind n middle) ≡ 74
unfolding fixed_part
fixed_long kind n middle l = omega arith

pub pdu_long : (f : Associate) → length f.middle ≡ 64 → length (associate_bytes (pdu_of f)) ≡ base f (length (user_bytes f.user)) + length (contexts_of f) + HEADER
unfolding base
pdu_long f l =
    let n : ℕ = 68 + length (item_part f) in
    let e = ap length (pdu_parts f n l refl) in
    let c = length-append (fixed_part (pdu_kind f.answer) n f.middle) (item_part f) in
    let d = fixed_long (pdu_kind f.answer) n f.middle l in
    let p = part_is f in
    omega arith

-- ---- `put_pdu`
module _ (f : Associate) (o : List ℕ) (n user : ℕ) (w : Measured f n user (length o)) where
  measured_is : n ≡ 68 + length (item_part f)
  unfolding base
  measured_is = let z = w.size in let y = w.user_size in let l = part_is f in omega arith

  pub pdu_fixed : 74 ≤ length o
  pdu_fixed = let z = measured_is in let l = w.room in omega arith

  pub pdu_limit : n ≤ LONGEST
  pdu_limit = w.limit

  pub pdu_middle : length f.middle ≡ 64
  pdu_middle = w.fit.middle_long

  module _ (o₁ : List ℕ) (e kind : ℕ) (d : kind ≡ pdu_kind f.answer) (q : Put o 0 (fixed_part kind n f.middle) e o₁) where
    both_parts : 0 + (length (fixed_part kind n f.middle) + length (item_part f)) ≤ length o
    both_parts = let z = measured_is in let l = w.room in let x = fixed_long kind n f.middle w.fit.middle_long in omega arith

    pub pdu_known : Known f user e (length o₁)
    pdu_known =
        record {
          user_fit = w.fit.user_fit;
          user_size = w.user_size;
          limit = (let z = measured_is in let l = w.limit in omega arith);
          room = next_room o 0 (fixed_part kind n f.middle) (item_part f) o₁ e both_parts q;
        }

    pub pdu_put : (o₂ : List ℕ) (g : ℕ) → Put o₁ e (item_part f) g o₂ → Put o 0 (associate_bytes (pdu_of f)) g o₂
    pdu_put o₂ g t =
        let all = next_put o 0 (fixed_part kind n f.middle) (item_part f) o₁ e both_parts q t in
        rw (pdu_parts f n w.fit.middle_long measured_is, ← d) all

pub ruleset pdu_laws = (rules, pdu_fixed, pdu_limit, pdu_middle, pdu_known, pdu_put)

-- ---- `write_pdu`
capped_over : (n x : ℕ) → n ≡ capped x → LONGEST < n → LONGEST < x
unfolding capped
capped_over n x e h = go (leb x LONGEST) refl
  where
    go : (b : Bool) → leb x LONGEST ≡ b → LONGEST < x
    go true q = let z : n ≡ x = e ∙ simp q in omega arith
    go false q = leb-false x LONGEST q

capped_is : (n x : ℕ) → n ≡ capped x → n ≤ LONGEST → n ≡ x
unfolding capped
capped_is n x e h = go (leb x LONGEST) refl
  where
    go : (b : Bool) → leb x LONGEST ≡ b → n ≡ x
    go true q = e ∙ simp q
    go false q = let z : n ≡ LONGEST + 1 = e ∙ simp q in absurd (omega arith)

-- what was measured is never more than it is, nor far above the limit
capped_low : (n x : ℕ) → n ≡ capped x → n ≤ x
unfolding capped
capped_low n x e = go (leb x LONGEST) refl
  where
    go : (b : Bool) → leb x LONGEST ≡ b → n ≤ x
    go true q = let z : n ≡ x = e ∙ simp q in omega arith
    go false q = let z : n ≡ LONGEST + 1 = e ∙ simp q in let l = leb-false x LONGEST q in omega arith

module _ (f : Associate) (o : List ℕ) (w : Fit f) where
  pub fit_user : UserFit f.user
  fit_user = w.user_fit

  module _ (n user : ℕ) (e : user ≡ capped (length (user_bytes f.user))) (g : n ≡ capped (base f user + length (contexts_of f))) where
    abbrev w_pdu : List ℕ
    w_pdu = associate_bytes (pdu_of f)

    long_is : length w_pdu ≡ base f (length (user_bytes f.user)) + length (contexts_of f) + HEADER
    long_is = pdu_long f w.middle_long

    pub pdu_over : LONGEST < n → Wrote (good_form (associate_bytes (pdu_of f))) o (record { refusal = LONG-PDU; count = 0 }) o
    unfolding base
    pdu_over h =
        let x = capped_over n _ g h in
        let y = capped_low user _ e in
        let l = long_is in
        wrote_long (good_form w_pdu) o refl (omega arith)

    module _ (h : n ≤ LONGEST) where
      user_exact : user ≡ length (user_bytes f.user)
      unfolding base
      user_exact = let x = capped_is n _ g h in capped_is user _ e (omega arith)

      fits : length w_pdu ≡ n + HEADER
      fits = let x = capped_is n _ g h in let l = long_is in let y : base f user ≡ base f (length (user_bytes f.user)) = ap (base f) user_exact in omega arith

      pub pdu_short : length o < n + HEADER → Wrote (good_form (associate_bytes (pdu_of f))) o (record { refusal = SHORT-OUTPUT; count = 0 }) o
      pdu_short l = let x = fits in wrote_short (good_form w_pdu) o refl (omega arith) (omega arith)

      pub measured : n + HEADER ≤ length o → Measured f n user (length o)
      measured l = record { fit = w; user_size = user_exact; size = capped_is n _ g h; limit = h; room = l }

      pub pdu_fine : (o' : List ℕ) (m : ℕ) → n + HEADER ≤ length o → Put o 0 (associate_bytes (pdu_of f)) m o'
          → Wrote (good_form (associate_bytes (pdu_of f))) o (record { refusal = NOT-REFUSED; count = m }) o'
      pdu_fine o' m l q = let x = fits in wrote_fine (good_form w_pdu) o refl (omega arith) o' m (omega arith) q

pub ruleset write_pdu_laws = (rules, capped_16385, fit_user, pdu_over, pdu_short, measured, pdu_fine)
