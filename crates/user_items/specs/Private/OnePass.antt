-- For the private functions: the sub-items of any list of kinds in one pass. KindLaws.passes_is says what it comes to.
use Rattle.std.specs.Prelude.{ℕ, Bool, true, false, not, ◌&&◌, cond, List, [], ◌∷◌, map, eqb}
use Rattle.laws.specs.Lists.{any, among, same_bytes}
use Rattle.items.specs.Items.{Walk, done, broken, item, bodies}
use Rattle.user_items.specs.Kinds.{Kind, alike}

abbrev pub type_of : Kind → ℕ
type_of k = k.type

unfoldable pub known_in : List Kind → ℕ → Bool
known_in ks t = among t (map type_of ks)

-- whether a body is good for its type, and what of it must not come twice
unfoldable pub good_in : List Kind → ℕ → List ℕ → Bool
good_in [] t b = true
good_in (k ∷ ks) t b = cond (eqb t k.type) (k.good b) (good_in ks t b)

unfoldable pub once_in : List Kind → ℕ → List ℕ → List ℕ
once_in [] t = alike
once_in (k ∷ ks) t = cond (eqb t k.type) k.once (once_in ks t)

-- a sub-item of type t has x for what must not come twice
unfoldable pub comes : (List ℕ → List ℕ) → ℕ → List ℕ → Walk → Bool
comes once t x w = any (same_bytes x) (map once (bodies t w))

-- a sub-item, with those behind it
unfoldable pub sub_ok : List Kind → ℕ → List ℕ → Walk → Bool
sub_ok ks t b w = cond (known_in ks t) (good_in ks t b && not (comes (once_in ks t) t (once_in ks t b) w)) true

-- the sub-items fill their holder, and each is so
unfoldable pub passes : List Kind → Walk → Bool
passes ks done = true
passes ks broken = false
passes ks (item t b w) = sub_ok ks t b w && passes ks w
