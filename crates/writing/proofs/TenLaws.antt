-- Laws of the ten-byte PDUs.
-- Assumes nothing.
use Prim.Native.Nat.{ℕ, zero, suc, ◌≤◌, ◌<◌}
use native.Mathlib.Nat.{zero-add}
use native.Mathlib.Omega.{arith}
use mathlib.Core.Bool.{Bool, true, false}
use mathlib.Core.List.{List, []}
use mathlib.Core.Path.{◌≡◌, refl, sym, ap, ◌∙◌}
use lib.ListN.{length, get_or-eq_default}
use lib.Dec.{leb, eqb}
use borrow.Author.Rules.{rules}
use borrow.Author.Tests.{eqb-true, eqb-false, leb-true, leb-false}
use Rattle.laws.proofs.Booleans.{holds}
use Rattle.laws.proofs.Below.{below}
use Rattle.numbers.specs.Refusals.{NOT-REFUSED, SHORT-OUTPUT}
use Rattle.numbers.specs.Lengths.{TEN}
use Rattle.octets.specs.Put.{front, Placed}
use Rattle.octets.proofs.PutLaws.{put_none, put_out, put_behind, put_front, placed_put, placed_fits, behind_fits}
use Rattle.writing.specs.Ten.{NO-TEN, TEN-RELEASE-RP, tens, ten_of}
use Rattle.writing.specs.Form.{Wrote, good_form}
use Rattle.writing.proofs.FormLaws.{wrote_short, wrote_fine}

-- ---- `ten_of`: the other numbers
pub no_ten : (w : ℕ) → (w ≡ 1 → ⊥) → (w ≡ 2 → ⊥) → (w ≡ 3 → ⊥) → (w ≡ 4 → ⊥) → (w ≡ 5 → ⊥) → (w ≡ 6 → ⊥) → (w ≡ 7 → ⊥) → [] ≡ ten_of w
unfolding ten_of tens
no_ten zero a b c d e f g = refl
no_ten (suc w) a b c d e f g = sym (get_or-eq_default tens [] {n = suc w} (omega arith))

-- ---- `ten_len`: each of the seven has ten bytes
pub len_none : (w : ℕ) → w ≡ NO-TEN → 0 ≡ length (ten_of w)
unfolding ten_of tens
len_none w e = rw e

pub len_past : (w : ℕ) → TEN-RELEASE-RP < w → 0 ≡ length (ten_of w)
unfolding ten_of tens
len_past w h = ap length (sym (get_or-eq_default tens [] h))

pub len_ten : (w : ℕ) → (w ≡ NO-TEN → ⊥) → w ≤ TEN-RELEASE-RP → TEN ≡ length (ten_of w)
unfolding ten_of tens
len_ten zero n l = absurd (n refl)
len_ten (suc w) n l = eqb-true _ _ (holds _ (below 7 (λ k. eqb TEN (length (ten_of (suc k)))) tt w (omega arith)))

pub ruleset len_laws = (rules, len_none, len_past, len_ten)

-- no number has more
pub ten_length : (w : ℕ) → length (ten_of w) ≤ TEN
ten_length w = go (eqb w NO-TEN) refl (leb w TEN-RELEASE-RP) refl
  where
    go : (a : Bool) → eqb w NO-TEN ≡ a → (b : Bool) → leb w TEN-RELEASE-RP ≡ b → length (ten_of w) ≤ TEN
    go true p b q = omega (arith, len_none w (eqb-true _ _ p))
    go false p true q = omega (arith, len_ten w (eqb-false _ _ p) (leb-true _ _ q))
    go false p false q = omega (arith, len_past w (leb-false _ _ q))

-- ---- what `write_ten` leaves where there is room: the bytes at the start
module _ (w : ℕ) (o o' : List ℕ) (n : ℕ) (P : Placed o 0 (ten_of w) n o') (h : length (ten_of w) ≤ length o) where
  pub ten_out : o' ≡ front o (ten_of w)
  ten_out = put_out o 0 (ten_of w) P (omega arith) ∙ put_front o (ten_of w)

  pub ten_count : n ≡ length (ten_of w)
  ten_count = put_behind o 0 (ten_of w) P (omega arith) ∙ zero-add (length (ten_of w))

-- ---- `write_ten`: no bytes are placed, and nothing changed
pub nothing_placed : (o t : List ℕ) → [] ≡ t → Placed o 0 t 0 o
nothing_placed o t e =
    rw (sym e) (record { behind = sym (behind_fits o 0 [] (omega arith)); out = sym (placed_fits o 0 [] (omega arith) ∙ put_none o 0) })

-- ---- `send`
module _ (o t : List ℕ) (e : length t ≡ TEN) where
  pub send_short : length o < TEN → Wrote (good_form t) o (record { refusal = SHORT-OUTPUT; count = 0 }) o
  send_short h = wrote_short (good_form t) o refl (omega arith) (omega arith)

  pub send_fine : (o' : List ℕ) (r : ℕ) → TEN ≤ length o → Placed o 0 t r o' → Wrote (good_form t) o (record { refusal = NOT-REFUSED; count = r }) o'
  send_fine o' r h p = wrote_fine (good_form t) o refl (omega arith) o' r (omega arith) (placed_put o 0 t p (omega arith))

pub ruleset send_laws = (rules, send_short, send_fine)
