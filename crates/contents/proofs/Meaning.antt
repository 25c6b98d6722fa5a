-- What the order of the known items comes to, in counts: in a 20H one 30H and one or more 40H; in an RQ or AC one 10H, one or more contexts and one 50H.
-- Assumes nothing.
use Prim.Native.Nat.{ℕ, suc, ◌≤◌}
use mathlib.Core.Bool.{true, false, or-true}
use mathlib.Core.List.{[], ◌∷◌, append-nil}
use mathlib.Core.Path.{◌≡◌, refl, sym, ap, ◌∙◌}
use lib.ListN.{length, replicate}
use lib.Dec.{leb, eqb}
use borrow.Author.Tests.{leb-true}
use Rattle.laws.specs.Lists.{among}
use Rattle.laws.proofs.Booleans.{left_of, right_of}
use Rattle.items.specs.Items.{Walk, bodies, holds}
use Rattle.items.proofs.HoldLaws.{times, times_other, held_count}
use Rattle.contents.specs.Contents.{top_known, context_known, named, context_order, subs_ok, top_good, top_order, top_ok}

-- ---- a 20H
pub record Sub (w : Walk) : Type 0 where
  pub abstracts : length (bodies 0x30 w) ≡ 1
  pub transfers : 1 ≤ length (bodies 0x40 w)

module _ (w : Walk) (h : subs_ok w ≡ true) where
  pub subs_some : leb 1 (length (bodies 0x40 w)) ≡ true
  unfolding subs_ok
  subs_some = left_of _ _ h

  pub subs_hold : holds context_known named (context_order (length (bodies 0x40 w))) w ≡ true
  unfolding subs_ok
  subs_hold = right_of (leb 1 (length (bodies 0x40 w))) _ h

  pub sub_counts : Sub w
  unfolding among times
  sub_counts =
      let n : ℕ = length (bodies 0x40 w) in
      record {
        abstracts = held_count context_known named (context_order n) w subs_hold 0x30 refl ∙ ap suc (ap (times 0x30) (sym (append-nil (replicate n 0x40))) ∙ times_other 0x30 0x40 n [] refl);
        transfers = leb-true 1 n subs_some;
      }

-- ---- an RQ or an AC, with k for the type of a context
pub record Top (k : ℕ) (w : Walk) : Type 0 where
  pub applications : length (bodies 0x10 w) ≡ 1
  pub contexts : 1 ≤ length (bodies k w)
  pub users : length (bodies 0x50 w) ≡ 1

module _ (k : ℕ) (w : Walk) (h : top_ok k w ≡ true) where
  pub top_some : leb 1 (length (bodies k w)) ≡ true
  unfolding top_ok
  top_some = left_of _ _ h

  pub top_holds : holds (top_known k) (top_good k) (top_order k (length (bodies k w))) w ≡ true
  unfolding top_ok
  top_holds = right_of (leb 1 (length (bodies k w))) _ h

  pub top_counts : eqb k 0x10 ≡ false → eqb k 0x50 ≡ false → Top k w
  unfolding among times
  top_counts a b =
      let n : ℕ = length (bodies k w) in
      record {
        applications = held_count (top_known k) (top_good k) (top_order k n) w top_holds 0x10 refl ∙ ap suc (times_other 0x10 k n (0x50 ∷ []) a);
        contexts = leb-true 1 n top_some;
        users = held_count (top_known k) (top_good k) (top_order k n) w top_holds 0x50 (or-true (eqb 0x50 k)) ∙ times_other 0x50 k n (0x50 ∷ []) b;
      }
