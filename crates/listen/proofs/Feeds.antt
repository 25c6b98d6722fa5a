-- A turn of the loop: the next call is offered what the last one did not use, nothing lost, repeated or in another order; only where all is used is a piece read.
-- Assumes nothing.
use mathlib.Core.Path.{◌≡◌, refl, sym, ap, ◌∙◌, subst}
use mathlib.Core.List.{List, [], ◌∷◌, ◌++◌}
use Prim.Native.Nat.{ℕ, zero, suc, ◌+◌, ◌-◌, ◌<◌, min}
use native.Mathlib.Omega.{arith}
use lib.ListN.{length, take, drop}
use lib.Seq.{take-nil, drop-drop}
use native.Mathlib.Nat.{sub-zero, suc-sub-suc}
use Rattle.std.proofs.Common.{add-one}
use Rattle.association.specs.declared.Answer.{Answer}
use Rattle.association.specs.Calls.{Call, call, receive_of}
use Rattle.demand_3.specs.Calls.{Lent, leaves}
use Rattle.listen.specs.declared.window.Window.{Window}
use Rattle.listen.specs.Window.{rest_of}
use Rattle.listen.specs.Listen.{most, offering, Fed, Listened}
use Rattle.listen.specs.Listen as listen

-- ---- what is offered
drop_take : (n m : ℕ) (l : List ℕ) → drop n (take m l) ≡ take (m - n) (drop n l)
drop_take zero m l = rw sub-zero
drop_take (suc n) zero l =
    let e : 0 - suc n ≡ 0 = omega arith in
    rw e
drop_take (suc n) (suc m) [] = rw take-nil
drop_take (suc n) (suc m) (x ∷ l) = rw suc-sub-suc (drop_take n m l)

taken_alike : (m x y : ℕ) (l : List ℕ) → (0 < m → x ≡ y) → take m (drop x l) ≡ take m (drop y l)
taken_alike zero x y l h = refl
taken_alike (suc m) x y l h = ap (λ (j : ℕ). take (suc m) (drop j l)) (h (omega arith))

-- WHAT A CALL DID NOT USE is offered to the next one: v is the window w behind the bytes used, but not behind its end. It is the clause of `Window::consume` too
pub offers_rest : (w v : Window) (used : ℕ) → v.piece ≡ w.piece → v.end ≡ w.end → v.at ≡ w.at + min used (w.end - w.at) → rest_of v ≡ drop used (rest_of w)
offers_rest w v used p e a =
    let m = min used (w.end - w.at) in
    let n : w.end - (w.at + m) ≡ w.end - w.at - used = omega arith in
    rw (p, e, a)
    (ap (λ (j : ℕ). take j (drop (w.at + m) w.piece)) n ∙ taken_alike (w.end - w.at - used) (w.at + m) (w.at + used) w.piece (λ h. omega arith)
    ∙ ap (take (w.end - w.at - used)) (sym (drop-drop used w.at w.piece)) ∙ sym (drop_take used (w.end - w.at) (drop w.at w.piece)))

-- Before a call, from s on: k calls were made, p is not used yet, and t is lent to the next one.
pub record Going (s : Lent) (k : ℕ) (p : List ℕ) (t : Lent) : Type 0 where
  pub bytes : List ℕ
  pub fed : Fed s k bytes p t

pub starts : (s : Lent) (p : List ℕ) → p ≡ [] → Going s 0 p s
starts s p e = record { bytes = []; fed = rw e listen.unread }

pub finishes : {s t : Lent} {k : ℕ} {p : List ℕ} → Going s k p t → k ≡ most → Listened s t
finishes {s} {t} {k} {p} g e = listen.too_many (subst (λ (n : ℕ). Fed s n g.bytes p t) e g.fed)

answers : (t : Lent) {q y g o : List ℕ} {r : Answer} → y ≡ q → call r g o ≡ receive_of t.assoc t.gather y t.out → offering t q ≡ call r g o
answers t part made = ap (λ (b : List ℕ). offering t b) (sym part) ∙ sym made

module _ {s t : Lent} {k : ℕ} where
  -- q is what is left once the piece is filled, which keeps p where there is some
  filled : (p q : List ℕ) → (0 < length p → q ≡ p) → 0 < length q → Going s k p t → Going s k q t
  filled [] [] kept some g = absurd (omega arith)
  filled [] (b ∷ q) kept some g = record { bytes = g.bytes ++ (b ∷ q); fed = listen.reads b q g.fed }
  filled (b ∷ p) q kept some g = subst (λ (x : List ℕ). Going s k x t) (sym (kept (omega arith))) g

  offered : (q : List ℕ) → 0 < length q → Going s k q t → Going s (k + 1) (drop (offering t q).answer.told.used q) (leaves (offering t q))
  offered [] some g = absurd (omega arith)
  offered (b ∷ q) some g = rw add-one (record { bytes = g.bytes; fed = listen.offers g.fed })

  -- nothing is left, and nothing was read
  last : (p q : List ℕ) → (0 < length p → q ≡ p) → length q ≡ 0 → Going s k p t → Listened s (leaves (offering t q))
  last [] [] kept none g = listen.at_end g.fed
  last [] (b ∷ q) kept none g = absurd (omega arith)
  last (b ∷ p) q kept none g =
      let e : length q ≡ length (b ∷ p) = ap length (kept (omega arith)) in
      absurd (omega arith)

  module _ {p q y g o : List ℕ} {r : Answer} where
    -- A TURN: the piece is filled, its rest y offered, and what the call used is passed
    pub turned : {n : List ℕ} → (0 < length p → q ≡ p) → y ≡ q → 0 < length y → call r g o ≡ receive_of t.assoc t.gather y t.out → n ≡ drop r.told.used q
        → Going s k p t → Going s (k + 1) n (record { assoc = r.assoc; gather = g; out = o })
    turned {n} kept part some made past at-start =
        let some' : 0 < length q = rw (← part) some in
        subst (λ (m : List ℕ). Going s (k + 1) m (record { assoc = r.assoc; gather = g; out = o })) (sym past)
        (subst (λ (d : Call). Going s (k + 1) (drop d.answer.told.used q) (leaves d)) (answers t part made) (offered q some' (filled p q kept some' at-start)))

    -- the last turn, which offers nothing
    pub ended : (0 < length p → q ≡ p) → y ≡ q → length y ≡ 0 → call r g o ≡ receive_of t.assoc t.gather y t.out
        → Going s k p t → Listened s (record { assoc = r.assoc; gather = g; out = o })
    ended kept part none made at-start =
        subst (λ (d : Call). Listened s (leaves d)) (answers t part made) (last p q kept (rw (← part) none) at-start)
