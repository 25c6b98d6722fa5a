-- Laws of the numbers: a refusal is told by its number, and so is what an answer says of its refusal; a kind by its own.
-- Assumes nothing.
use Rattle.std.specs.Prelude.{ℕ, ◌≡◌, cond, eqb, Option, None, Some, Result, Ok, Err}
use Rattle.std.proofs.Common.{refl, sym, ap, ◌∙◌}
use Rattle.numbers.specs.declared.refusals.Refusal.{Refusal}
use Rattle.numbers.specs.declared.refusals.Refusal.TheVariants.{BlankCell, ShortOutput, ShortGather, BadContents, LongPdu, BrokenRecord, NoSuchPdu}
use Rattle.numbers.specs.declared.kinds.Kind.{Kind}
use Rattle.numbers.specs.declared.kinds.Kind.TheVariants.{AssociateRq, AssociateAc, AssociateRj, DataTf, ReleaseRq, ReleaseRp, Abort}
use Rattle.numbers.specs.Kinds.{NO-KIND, ASSOCIATE-RQ, ASSOCIATE-AC, ASSOCIATE-RJ, DATA-TF, RELEASE-RQ, RELEASE-RP, kind_number}
use Rattle.numbers.specs.Refusals.{NOT-REFUSED, BLANK-CELL, SHORT-OUTPUT, SHORT-GATHER, BAD-CONTENTS, LONG-PDU, BROKEN-RECORD, refusal_number, refusal_in}

-- the refusal of a number
numbered : ℕ → Refusal
numbered n =
    cond (eqb n BLANK-CELL) BlankCell
    (cond (eqb n SHORT-OUTPUT) ShortOutput
    (cond (eqb n SHORT-GATHER) ShortGather
    (cond (eqb n BAD-CONTENTS) BadContents
    (cond (eqb n LONG-PDU) LongPdu
    (cond (eqb n BROKEN-RECORD) BrokenRecord NoSuchPdu)))))

numbered_back : (a : Refusal) → numbered (refusal_number a) ≡ a
unfolding numbered
numbered_back BlankCell = refl
numbered_back ShortOutput = refl
numbered_back ShortGather = refl
numbered_back BadContents = refl
numbered_back LongPdu = refl
numbered_back BrokenRecord = refl
numbered_back NoSuchPdu = refl

-- two refusals of one number are one
pub refusal_once : {a b : Refusal} → refusal_number a ≡ refusal_number b → a ≡ b
refusal_once {a} {b} e = sym (numbered_back a) ∙ (ap numbered e ∙ numbered_back b)

-- no refusal has the number of none
pub refusal_some : (a : Refusal) → refusal_number a ≡ NOT-REFUSED → ⊥
refusal_some BlankCell e = cc
refusal_some ShortOutput e = cc
refusal_some ShortGather e = cc
refusal_some BadContents e = cc
refusal_some LongPdu e = cc
refusal_some BrokenRecord e = cc
refusal_some NoSuchPdu e = cc

-- two answers that say the same of their refusal, and the same value where they have none, are one
pub answer_once : {T : Type 0} (a b : Result T Refusal) → refusal_in a ≡ refusal_in b → ((x y : T) → a ≡ Ok x → b ≡ Ok y → x ≡ y) → a ≡ b
answer_once (Ok x) (Ok y) e f = ap Ok (f x y refl refl)
answer_once (Ok x) (Err m) e f = absurd (refusal_some m (sym e))
answer_once (Err n) (Ok y) e f = absurd (refusal_some n e)
answer_once (Err n) (Err m) e f = ap Err (refusal_once e)

-- the kind of a number
kind_at : ℕ → Option Kind
kind_at n =
    cond (eqb n NO-KIND) None
    (cond (eqb n ASSOCIATE-RQ) (Some AssociateRq)
    (cond (eqb n ASSOCIATE-AC) (Some AssociateAc)
    (cond (eqb n ASSOCIATE-RJ) (Some AssociateRj)
    (cond (eqb n DATA-TF) (Some DataTf)
    (cond (eqb n RELEASE-RQ) (Some ReleaseRq)
    (cond (eqb n RELEASE-RP) (Some ReleaseRp) (Some Abort)))))))

kind_back : (k : Option Kind) → kind_at (kind_number k) ≡ k
unfolding kind_at
kind_back None = refl
kind_back (Some AssociateRq) = refl
kind_back (Some AssociateAc) = refl
kind_back (Some AssociateRj) = refl
kind_back (Some DataTf) = refl
kind_back (Some ReleaseRq) = refl
kind_back (Some ReleaseRp) = refl
kind_back (Some Abort) = refl

-- two kinds, or none, of one number are one
pub kind_once : (a b : Option Kind) → kind_number a ≡ kind_number b → a ≡ b
kind_once a b e = sym (kind_back a) ∙ (ap kind_at e ∙ kind_back b)
