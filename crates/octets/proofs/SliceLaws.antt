-- Slices that are handed back: two such parts agree.
-- Assumes nothing.
use Prim.Native.Nat.{ℕ, ◌+◌}
use native.Mathlib.Omega.{arith}
use mathlib.Core.List.{List}
use mathlib.Core.Path.{◌≡◌, ◌∙◌}
use denote.Ref.{Bor}
use Rattle.laws.proofs.Agree.{agree}
use Rattle.octets.specs.Slice.{PartOf}

-- the same part, but for its ghost name
pub parts_agree : {s a b : Bor (List ℕ)} {start : ℕ} {bs : List ℕ} → PartOf s start bs a → PartOf s start bs b → (a.ref_ptr ≡ b.ref_ptr) × (a.now ≡ b.now)
parts_agree p q = ((λ i. (agree p.block q.block i, agree p.place q.place i)), agree p.bytes q.bytes)

-- a part of a part
pub part_of_part : {s r x : Bor (List ℕ)} {a b : ℕ} {bs cs : List ℕ} → PartOf s a bs r → PartOf r b cs x → PartOf s (a + b) cs x
part_of_part p q = record { block = q.block ∙ p.block; place = let m = p.place in let n = q.place in omega arith; bytes = q.bytes }

-- where `&s[a..e]` lies, as the code has it, with o for the place of s
pub place_from : (o a b : ℕ) → a ≡ b → a + o ≡ o + b
place_from o a b e = omega arith
