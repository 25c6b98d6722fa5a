-- A list of bytes gone through part by part, as items and PDV items are: a step looks at the part that stands first, and goes on behind it.
use Rattle.std.specs.Prelude.{ℕ, zero, suc, ◌+◌, ◌&&◌, cond, List, length, leb}

-- at most n steps, and `stop` where they are used up. As many steps as bytes are enough: then the equation holds that has no n (proofs/Parts.stepped)
abbrev pub steps : {A : Type 0} → ((List ℕ → A) → List ℕ → A) → (List ℕ → A) → ℕ → List ℕ → A
steps step stop zero s = stop s
steps step stop (suc n) s = step (steps step stop n) s

-- a part at a place: four bytes, which say how many bytes m follow them, and these. The place behind it, or 0 where m is below the least or the part passes
-- the end
unfoldable pub part_end : ℕ → List ℕ → ℕ → ℕ → ℕ
part_end least s at m = cond (leb least m && leb (at + 4 + m) (length s)) (at + 4 + m) 0
