-- An association as the 16 bytes that a host lends: `struct feo_assoc` of include/feohanna.h.
use Rattle.std.specs.Prelude.{ℕ, Bool, cond, not, List, ◌∷◌, ◌++◌, get_or, eqb}
use Rattle.association.specs.declared.Assoc.{Assoc}
use Rattle.assoc_bytes.specs.Low.{low, low_at}

abbrev pub byte_of : Bool → ℕ
byte_of mark = cond mark 1 0

-- any byte but 0 is set
abbrev pub is_set : ℕ → Bool
is_set mark = not (eqb mark 0)

-- state, deaf, artim, requestor, a byte each; peer_max, four; gathered, eight
unfoldable pub bytes_of : Assoc → List ℕ
bytes_of a = (a.state ∷ byte_of a.deaf ∷ byte_of a.artim ∷ byte_of a.requestor ∷ low 4 a.peer_max) ++ low 8 a.gathered

unfoldable pub assoc_of : List ℕ → Assoc
assoc_of s =
    record {
      state = get_or s 0 0;
      deaf = is_set (get_or s 1 0);
      artim = is_set (get_or s 2 0);
      requestor = is_set (get_or s 3 0);
      peer_max = low_at 4 s 4;
      gathered = low_at 8 s 8;
    }
