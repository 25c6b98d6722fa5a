-- Laws of a P-DATA-TF.
-- Assumes nothing.
use Prim.Native.Nat.{ℕ, ◌+◌, ◌≤◌, ◌<◌}
use native.Mathlib.Omega.{arith}
use mathlib.Core.Bool.{Bool, true, false}
use mathlib.Core.List.{List, ◌∷◌, ◌++◌}
use mathlib.Core.Path.{◌≡◌, sym, ap, ◌∙◌}
use lib.ListN.{length}
use borrow.Author.Rules.{rules}
use Rattle.numbers.specs.Refusals.{NOT-REFUSED, SHORT-OUTPUT, BAD-CONTENTS, LONG-PDU}
use Rattle.numbers.specs.Kinds.{DATA-TF}
use Rattle.numbers.specs.Lengths.{HEADER}
use Rattle.octets.specs.Octets.{four}
use Rattle.octets.specs.Put.{Placed}
use Rattle.octets.specs.Private.Put.{Put}
use Rattle.octets.proofs.PutLaws.{placed_next}
use Rattle.pdvs.specs.Data.{pdvs_ok}
use Rattle.writing.specs.Fields.{items_of, items_good}
use Rattle.writing.specs.Wire.{pdu_bytes}
use Rattle.writing.specs.Form.{Wrote, most_of, data_form}
use Rattle.writing.proofs.FormLaws.{contents_bad, wrote_long, wrote_short, wrote_fine}

-- ---- `write_data`
module _ (peer : ℕ) (s o : List ℕ) (b : Bool) (e : b ≡ pdvs_ok 3 s) where
  pub data_refused : b ≡ false → Wrote (data_form peer (items_of s)) o (record { refusal = BAD-CONTENTS; count = 0 }) o
  unfolding data_form items_good
  data_refused = contents_bad (data_form peer (items_of s)) o b e

  module _ (m : ℕ) (t : b ≡ true) (q : m ≡ most_of peer) where
    data_good : pdvs_ok 3 s ≡ true
    data_good = sym e ∙ t

    pub data_over : m < length s → Wrote (data_form peer (items_of s)) o (record { refusal = LONG-PDU; count = 0 }) o
    unfolding data_form items_good pdu_bytes
    data_over h = wrote_long (data_form peer (items_of s)) o data_good (omega arith)

    module _ (h : length s ≤ m) where
      pub data_short : length o < length s + HEADER → Wrote (data_form peer (items_of s)) o (record { refusal = SHORT-OUTPUT; count = 0 }) o
      unfolding data_form items_good pdu_bytes
      data_short l = wrote_short (data_form peer (items_of s)) o data_good (omega arith) (omega arith)

      pub data_fine : (x o₁ o₂ : List ℕ) (i r : ℕ) → length s + HEADER ≤ length o → x ≡ DATA-TF ∷ 0 ∷ four (length s) → Placed o 0 x i o₁ → Placed o₁ i s r o₂ → Wrote (data_form peer (items_of s)) o (record { refusal = NOT-REFUSED; count = r }) o₂
      unfolding data_form items_good pdu_bytes
      data_fine x o₁ o₂ i r l k p w =
          let n : length x ≡ 6 = ap length k in
          let all : Put o 0 (x ++ s) r o₂ = placed_next o 0 x s o₁ i (omega arith) p w in
          wrote_fine (data_form peer (items_of s)) o data_good (omega arith) o₂ r (omega arith) (rw k at all)

pub ruleset data_laws = (rules, data_refused, data_over, data_short, data_fine)
