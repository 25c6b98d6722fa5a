-- A slice that is handed back: "The returned slice is the caller's own part, with its start and length stated."
use Rattle.std.specs.Prelude.{ℕ, ◌+◌, ◌≡◌, List}
use Rattle.std.specs.Borrow.{Bor}

-- r is the caller's own part of s, in the same block of memory: it starts at place `start` of s, and its bytes are bs
pub record PartOf (s : Bor (List ℕ)) (start : ℕ) (bs : List ℕ) (r : Bor (List ℕ)) : Type 0 where
  pub block : r.ref_ptr.0 ≡ s.ref_ptr.0
  pub place : r.ref_ptr.1 ≡ s.ref_ptr.1 + start
  pub bytes : r.now ≡ bs
