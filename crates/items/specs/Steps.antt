-- The items of a holder's bytes, gone through one after another: where they begin, and what each step of the iterator gives.
use Rattle.std.specs.Prelude.{ℕ, zero, suc, ◌+◌, ◌≡◌, ◌<◌, List, [], length, drop, Option, Some, None, MatchOption, Result, MatchResult}
use Rattle.std.specs.Borrow.{Bor}
use Rattle.octets.specs.Slice.{PartOf}
use Rattle.items.specs.Items.{Walk, walk, done, broken, item}
use Rattle.items.specs.declared.Item.{Item}
use Rattle.items.specs.declared.Items.{Items}
use Rattle.items.specs.declared.Broken.{Broken}

-- a place behind a head, or none where 0 stands for it
abbrev pub place_or_none : ℕ → Option ℕ
place_or_none zero = None
place_or_none (suc n) = Some (suc n)

-- the bytes that are still to be gone through
abbrev pub rest_of : Items → Bor (List ℕ)
rest_of s = s.rest

-- the items that stand in them
abbrev pub left : Items → Walk
left s = walk (rest_of s).now

-- an item stands first: its body stands behind the four bytes of its head, and what is left stands behind that
pub record Gives (s : Items) (x : Item) (t : Items) : Type 0 where
  pub walk : left s ≡ item x.kind x.body.now (left t)
  pub body : PartOf (rest_of s) 4 x.body.now x.body
  pub rest : PartOf (rest_of s) (4 + length x.body.now) (drop (4 + length x.body.now) (rest_of s).now) (rest_of t)
  pub whole : 4 + length x.body.now + length (rest_of t).now ≡ length (rest_of s).now

-- none does, and nothing is left: the empty part at the place where the items end
pub record Ends (s : Items) (w : Walk) (t : Items) : Type 0 where
  pub walk : left s ≡ w
  pub rest : PartOf (rest_of s) 0 [] (rest_of t)

-- a step from s to t
abbrev pub Steps : Items → Option (Result Item Broken) → Items → Type 0
Steps s r t =
    MatchOption r (Ends s done t) (λ x. MatchResult x (λ i. Gives s i t) (λ _. Ends s broken t × (0 < length (rest_of s).now)))
