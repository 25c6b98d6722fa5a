-- For the private functions of reading and writing_associate, and the proofs of writing: bytes put where they have room.
use Rattle.std.specs.Prelude.{ℕ, ◌+◌, ◌≡◌, List, length}
use Rattle.octets.specs.Put.{put}

-- bs were put into o from place `at` on; o is now o', and r is the place behind them
pub record Put (o : List ℕ) (at : ℕ) (bs : List ℕ) (r : ℕ) (o' : List ℕ) : Type 0 where
  pub behind : r ≡ at + length bs
  pub out : o' ≡ put o at bs
