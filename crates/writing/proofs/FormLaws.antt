-- Laws of a written form: each refusal and the answer, as the writing calls come to them, and what they mean for every form: a refused call leaves the output as it was, an
-- answered one changes no byte beyond those sent.
-- Assumes nothing.
use Prim.Native.Nat.{ℕ, ◌-◌, ◌≤◌, ◌<◌}
use native.Mathlib.Omega.{arith}
use mathlib.Core.Bool.{Bool, true, false, not, cond}
use mathlib.Core.List.{List, [], ◌∷◌}
use mathlib.Core.Path.{◌≡◌, refl, sym, ap, subst, ◌∙◌}
use lib.ListN.{length, drop}
use lib.Dec.{leb, ltb, eqb}
use borrow.Author.Rules.{rules}
use borrow.Author.Tests.{lt-ltb, le-ltb, ltb-false, leb-true, ne_eqb, not-false}
use Rattle.laws.specs.Lists.{among}
use Rattle.laws.specs.Refusals.{first_due}
use Rattle.laws.proofs.Refusals.{not_due}
use Rattle.std.specs.Prelude.{Result, Ok, Err}
use Rattle.numbers.specs.declared.refusals.Refusal.{Refusal}
use Rattle.numbers.proofs.NumberLaws.{answer_once}
use Rattle.numbers.specs.Refusals.{refusal_in, NOT-REFUSED, SHORT-OUTPUT, BAD-CONTENTS, LONG-PDU}
use Rattle.numbers.specs.Lengths.{HEADER, LONGEST, BUFFER}
use Rattle.octets.specs.Put.{front}
use Rattle.octets.specs.Private.Put.{Put}
use Rattle.octets.proofs.PutLaws.{put_front, front_behind}
use Rattle.writing.specs.Fields.{RqFields, AcFields, Reject, Items}
use Rattle.writing.specs.Form.{Sent, sent, Form, form_tests, form_refusal, sent_bytes, sent_of, Wrote, good_form, rq_form, ac_form, reject_form, most_of, data_form}

-- ---- two results that say the same are one
pub sent_once : (a b : Result ℕ Refusal) → sent a ≡ sent b → a ≡ b
sent_once a b e = answer_once a b (said a ∙ (ap (λ (x : Sent). x.refusal) e ∙ sym (said b))) (λ x y p q. ap (λ (r : Sent). r.count) (rw (p, q) at e))
  where
    said : (c : Result ℕ Refusal) → refusal_in c ≡ (sent c).refusal
    said (Ok n) = refl
    said (Err m) = refl

-- ---- when each refusal is given, and when none is
module _ (f : Form) (room : ℕ) where
  pub refusal_due : first_due (form_tests f room) ≡ form_refusal f room
  unfolding form_refusal
  refusal_due = refl

  pub refusal_4 : f.good ≡ false → form_refusal f room ≡ BAD-CONTENTS
  unfolding form_refusal
  refusal_4 e = rw e

  module _ (g : f.good ≡ true) where
    pub refusal_5 : f.most < length f.pdu - HEADER → form_refusal f room ≡ LONG-PDU
    unfolding form_refusal
    refusal_5 h = rw (g, lt-ltb _ _ h)

    module _ (h : length f.pdu - HEADER ≤ f.most) where
      pub refusal_2 : room < length f.pdu → form_refusal f room ≡ SHORT-OUTPUT
      unfolding form_refusal
      refusal_2 l = rw (g, le-ltb _ _ h, lt-ltb _ _ l)

      pub refusal_0 : length f.pdu ≤ room → form_refusal f room ≡ NOT-REFUSED
      unfolding form_refusal
      refusal_0 l = rw (g, le-ltb _ _ h, le-ltb _ _ l)

-- no refusal: the contents are good, the PDU-length keeps the limit, the PDU has room and is what is sent
pub record Answered (f : Form) (room : ℕ) : Type 0 where
  pub good : f.good ≡ true
  pub limit : length f.pdu - HEADER ≤ f.most
  pub space : length f.pdu ≤ room
  pub sent : sent_bytes f room ≡ f.pdu

pub answered : (f : Form) (room : ℕ) → form_refusal f room ≡ NOT-REFUSED → Answered f room
unfolding form_refusal sent_bytes
answered f room z =
    let p = not_due (not f.good) 4 _ (λ e. omega arith) z in
    let q = not_due (ltb f.most (length f.pdu - HEADER)) 5 _ (λ e. omega arith) p.1 in
    let r = not_due (ltb room (length f.pdu)) 2 0 (λ e. omega arith) q.1 in
    record { good = not-false _ p.0; limit = ltb-false _ _ q.0; space = ltb-false _ _ r.0; sent = rw z }

-- ---- a form whose limit is at most 16,384: in an output of 16,390 bytes or more 2 never comes
module _ (f : Form) (m : f.most ≤ LONGEST) where
  pub refusal_roomy : (room : ℕ) → BUFFER ≤ room → form_refusal f room ≡ form_refusal f BUFFER
  unfolding form_refusal
  refusal_roomy room h = go (ltb f.most (length f.pdu - HEADER)) refl
    where
      go : (b : Bool) → ltb f.most (length f.pdu - HEADER) ≡ b → form_refusal f room ≡ form_refusal f BUFFER
      go true q = rw q
      go false q =
          let l : length f.pdu - HEADER ≤ f.most = ltb-false _ _ q in
          rw (le-ltb room (length f.pdu) (omega (arith, m, h)), le-ltb BUFFER (length f.pdu) (omega (arith, m)))

  pub refusal_known : among (form_refusal f BUFFER) (0 ∷ 4 ∷ 5 ∷ []) ≡ true
  unfolding form_refusal among
  refusal_known = go f.good (ltb f.most (length f.pdu - HEADER)) refl
    where
      go : (a b : Bool) → ltb f.most (length f.pdu - HEADER) ≡ b → among (cond (not a) 4 (cond b 5 (cond (ltb BUFFER (length f.pdu)) 2 0))) (0 ∷ 4 ∷ 5 ∷ []) ≡ true
      go false b q = refl
      go true true q = refl
      go true false q =
          let l : length f.pdu - HEADER ≤ f.most = ltb-false _ _ q in
          rw (le-ltb BUFFER (length f.pdu) (omega (arith, m)))

-- and so is that of each
pub most_limit : (peer : ℕ) → most_of peer ≤ LONGEST
unfolding most_of
most_limit peer = go (eqb peer 0) (leb peer LONGEST) refl
  where
    go : (b c : Bool) → leb peer LONGEST ≡ c → cond b LONGEST (cond c peer LONGEST) ≤ LONGEST
    go true c e = omega arith
    go false true e = leb-true peer LONGEST e
    go false false e = omega arith

pub rq_limit : (f : RqFields) → (rq_form f).most ≤ LONGEST
unfolding rq_form
rq_limit f = omega arith

pub ac_limit : (f : AcFields) → (ac_form f).most ≤ LONGEST
unfolding ac_form
ac_limit f = omega arith

pub reject_limit : (f : Reject) → (reject_form f).most ≤ LONGEST
unfolding reject_form
reject_limit f = omega arith

pub data_limit : (peer : ℕ) (f : Items) → (data_form peer f).most ≤ LONGEST
unfolding data_form
data_limit peer f = most_limit peer

-- ---- what a writing call leaves, in the order 4, 5, 2
module _ (f : Form) (o : List ℕ) where
  refused : (n : ℕ) → form_refusal f (length o) ≡ n → eqb n 0 ≡ false → Wrote f o (record { refusal = n; count = 0 }) o
  unfolding sent_of sent_bytes front
  refused n e z = record { answer = simp (e, z); out = simp (e, z) }

  pub wrote_bad : f.good ≡ false → Wrote f o (record { refusal = BAD-CONTENTS; count = 0 }) o
  wrote_bad e = refused BAD-CONTENTS (refusal_4 f (length o) e) refl

  module _ (g : f.good ≡ true) where
    pub wrote_long : f.most < length f.pdu - HEADER → Wrote f o (record { refusal = LONG-PDU; count = 0 }) o
    wrote_long h = refused LONG-PDU (refusal_5 f (length o) g h) refl

    module _ (h : length f.pdu - HEADER ≤ f.most) where
      pub wrote_short : length o < length f.pdu → Wrote f o (record { refusal = SHORT-OUTPUT; count = 0 }) o
      wrote_short l = refused SHORT-OUTPUT (refusal_2 f (length o) g h l) refl

      pub wrote_fine : (o' : List ℕ) (r : ℕ) → length f.pdu ≤ length o → Put o 0 f.pdu r o' → Wrote f o (record { refusal = NOT-REFUSED; count = r }) o'
      unfolding sent_of sent_bytes
      wrote_fine o' r l p =
          let e = refusal_0 f (length o) g h l in
          let c : r ≡ length f.pdu = (let b = p.behind in omega arith) in
          record { answer = rw c (simp e); out = p.out ∙ (put_front o f.pdu ∙ simp e) }

-- ---- a call that tests the contents first, and then writes what is good
module _ (f : Form) (o : List ℕ) (b : Bool) (e : b ≡ f.good) where
  pub contents_bad : b ≡ false → Wrote f o (record { refusal = BAD-CONTENTS; count = 0 }) o
  contents_bad t = wrote_bad f o (sym e ∙ t)

  pub contents_good : {o' : List ℕ} {r : Sent} → b ≡ true → f.most ≡ LONGEST → Wrote (good_form f.pdu) o r o' → Wrote f o r o'
  contents_good {o'} {r} t m w =
      let q : f ≡ good_form f.pdu = λ i. record { good = (sym e ∙ t) i; most = m i; pdu = f.pdu } in
      subst (λ (g : Form). Wrote g o r o') (sym q) w

pub ruleset contents_laws = (rules, contents_bad, contents_good)

-- ---- what every form promises
module _ (f : Form) (o : List ℕ) (r : Sent) (o' : List ℕ) (w : Wrote f o r o') where
  -- the refusal is the first that applies
  pub refusal_is : r.refusal ≡ form_refusal f (length o)
  unfolding sent_of
  refusal_is = ap (λ (x : Sent). x.refusal) w.answer

  -- a refused call sends nothing and leaves the output as it was
  module _ (n : r.refusal ≡ NOT-REFUSED → ⊥) where
    nothing : sent_bytes f (length o) ≡ []
    unfolding sent_bytes
    nothing = simp (ne_eqb _ _ (λ e. n (refusal_is ∙ e)))

    pub refused_count : r.count ≡ 0
    unfolding sent_of
    refused_count = ap (λ (x : Sent). x.count) w.answer ∙ ap length nothing

    pub refused_kept : o' ≡ o
    unfolding front
    refused_kept = w.out ∙ ap (front o) nothing

  -- an answered one sends the PDU, writes it at the start and changes no byte beyond it
  module _ (z : r.refusal ≡ NOT-REFUSED) where
    fine : Answered f (length o)
    fine = answered f (length o) (sym refusal_is ∙ z)

    pub sent_count : r.count ≡ length f.pdu
    unfolding sent_of
    sent_count = ap (λ (x : Sent). x.count) w.answer ∙ ap length fine.sent

    pub out_is : o' ≡ front o f.pdu
    out_is = w.out ∙ ap (front o) fine.sent

    pub nothing_beyond : drop (length f.pdu) o' ≡ drop (length f.pdu) o
    nothing_beyond = ap (drop (length f.pdu)) out_is ∙ front_behind o f.pdu
