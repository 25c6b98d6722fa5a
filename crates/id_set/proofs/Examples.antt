-- Worked examples of sets of IDs, computed: which of ten IDs are in given words, and which words a set with an ID more has. Written from document 02,
-- the rulings and the layout (ID n is bit n % 64 of word n / 64) by one who had not seen the definitions.
-- Assumes nothing.
use Prim.Native.Nat.{ℕ, zero, suc}
use mathlib.Core.Bool.{Bool, true, not, cond, ◌&&◌, ◌||◌}
use mathlib.Core.List.{List, [], ◌∷◌}
use mathlib.Core.Path.{◌≡◌, refl}
use lib.Dec.{eqb, ltb}
use lib.ListN.{length}
use Rattle.laws.specs.Lists.{all, among}
use Rattle.id_set.specs.IdSet.{is_in}

abbrev same : Bool → Bool → Bool
same a b = cond a b (not b)

abbrev below : ℕ → List ℕ
below zero = []
below (suc n) = n ∷ below n

-- ---- of these ten, those that are named are in the set, and no other
abbrev probes : List ℕ
probes = 0 ∷ 1 ∷ 63 ∷ 64 ∷ 127 ∷ 128 ∷ 191 ∷ 192 ∷ 254 ∷ 255 ∷ []

abbrev finds : List ℕ × List ℕ → Bool
finds r = all (λ n. same (is_in n r.0) (among n r.1)) probes

abbrev found : List (List ℕ × List ℕ)
found =
    (0 ∷ 0 ∷ 0 ∷ 0 ∷ [], [])
    ∷ (1 ∷ 0 ∷ 0 ∷ 0 ∷ [], 0 ∷ [])
    ∷ (2 ∷ 0 ∷ 0 ∷ 0 ∷ [], 1 ∷ [])
    ∷ (0x8000000000000000 ∷ 0 ∷ 0 ∷ 0 ∷ [], 63 ∷ [])
    ∷ (0 ∷ 1 ∷ 0 ∷ 0 ∷ [], 64 ∷ [])
    ∷ (0 ∷ 0x8000000000000000 ∷ 0 ∷ 0 ∷ [], 127 ∷ [])
    ∷ (0 ∷ 0 ∷ 1 ∷ 0 ∷ [], 128 ∷ [])
    ∷ (0 ∷ 0 ∷ 0x8000000000000000 ∷ 0 ∷ [], 191 ∷ [])
    ∷ (0 ∷ 0 ∷ 0 ∷ 1 ∷ [], 192 ∷ [])
    ∷ (0 ∷ 0 ∷ 0 ∷ 0x4000000000000000 ∷ [], 254 ∷ [])
    ∷ (0 ∷ 0 ∷ 0 ∷ 0x8000000000000000 ∷ [], 255 ∷ [])
    ∷ (2 ∷ 2 ∷ 2 ∷ 2 ∷ [], 1 ∷ [])
    ∷ (0xaaaaaaaaaaaaaaaa ∷ 0xaaaaaaaaaaaaaaaa ∷ 0xaaaaaaaaaaaaaaaa ∷ 0xaaaaaaaaaaaaaaaa ∷ [], 1 ∷ 63 ∷ 127 ∷ 191 ∷ 255 ∷ [])
    ∷ (0x5555555555555555 ∷ 0x5555555555555555 ∷ 0x5555555555555555 ∷ 0x5555555555555555 ∷ [], 0 ∷ 64 ∷ 128 ∷ 192 ∷ 254 ∷ [])
    ∷ (0xffffffffffffffff ∷ 0xffffffffffffffff ∷ 0xffffffffffffffff ∷ 0xffffffffffffffff ∷ [], 0 ∷ 1 ∷ 63 ∷ 64 ∷ 127 ∷ 128 ∷ 191 ∷ 192 ∷ 254 ∷ 255 ∷ [])
    ∷ (0xffffffffffffffff ∷ 0xffffffffffffffff ∷ 0xffffffffffffffff ∷ 0x7fffffffffffffff ∷ [], 0 ∷ 1 ∷ 63 ∷ 64 ∷ 127 ∷ 128 ∷ 191 ∷ 192 ∷ 254 ∷ [])
    ∷ (0xffffffffffffffff ∷ 0xfffffffffffffffe ∷ 0xffffffffffffffff ∷ 0xffffffffffffffff ∷ [], 0 ∷ 1 ∷ 63 ∷ 127 ∷ 128 ∷ 191 ∷ 192 ∷ 254 ∷ 255 ∷ [])
    ∷ (0x8000000000000001 ∷ 0x8000000000000001 ∷ 0x8000000000000001 ∷ 0x8000000000000001 ∷ [], 0 ∷ 63 ∷ 64 ∷ 127 ∷ 128 ∷ 191 ∷ 192 ∷ 255 ∷ [])
    ∷ []

pub which_are_in : all finds found ≡ true
unfolding is_in among
which_are_in = refl

-- ---- of all IDs, those that are in the words behind are the one that was added and those that are in the words before
abbrev adds : List ℕ × (ℕ × List ℕ) → Bool
adds r = eqb (length r.1.1) 4 && (all (λ n. ltb n 0x1_0000_0000_0000_0000) r.1.1 && all (λ n. same (is_in n r.1.1) (eqb n r.1.0 || is_in n r.0)) (below 256))

abbrev added : List (List ℕ × (ℕ × List ℕ))
added =
    (0 ∷ 0 ∷ 0 ∷ 0 ∷ [], (0, 1 ∷ 0 ∷ 0 ∷ 0 ∷ []))
    ∷ (0 ∷ 0 ∷ 0 ∷ 0 ∷ [], (1, 2 ∷ 0 ∷ 0 ∷ 0 ∷ []))
    ∷ (0 ∷ 0 ∷ 0 ∷ 0 ∷ [], (63, 0x8000000000000000 ∷ 0 ∷ 0 ∷ 0 ∷ []))
    ∷ (0 ∷ 0 ∷ 0 ∷ 0 ∷ [], (64, 0 ∷ 1 ∷ 0 ∷ 0 ∷ []))
    ∷ (0 ∷ 0 ∷ 0 ∷ 0 ∷ [], (127, 0 ∷ 0x8000000000000000 ∷ 0 ∷ 0 ∷ []))
    ∷ (0 ∷ 0 ∷ 0 ∷ 0 ∷ [], (128, 0 ∷ 0 ∷ 1 ∷ 0 ∷ []))
    ∷ (0 ∷ 0 ∷ 0 ∷ 0 ∷ [], (191, 0 ∷ 0 ∷ 0x8000000000000000 ∷ 0 ∷ []))
    ∷ (0 ∷ 0 ∷ 0 ∷ 0 ∷ [], (192, 0 ∷ 0 ∷ 0 ∷ 1 ∷ []))
    ∷ (0 ∷ 0 ∷ 0 ∷ 0 ∷ [], (254, 0 ∷ 0 ∷ 0 ∷ 0x4000000000000000 ∷ []))
    ∷ (0 ∷ 0 ∷ 0 ∷ 0 ∷ [], (255, 0 ∷ 0 ∷ 0 ∷ 0x8000000000000000 ∷ []))
    ∷ (2 ∷ 0 ∷ 0 ∷ 0 ∷ [], (1, 2 ∷ 0 ∷ 0 ∷ 0 ∷ []))
    ∷ (0 ∷ 0 ∷ 0 ∷ 0x8000000000000000 ∷ [], (255, 0 ∷ 0 ∷ 0 ∷ 0x8000000000000000 ∷ []))
    ∷ (2 ∷ 0 ∷ 0 ∷ 0 ∷ [], (255, 2 ∷ 0 ∷ 0 ∷ 0x8000000000000000 ∷ []))
    ∷ (2 ∷ 0 ∷ 0 ∷ 0 ∷ [], (65, 2 ∷ 2 ∷ 0 ∷ 0 ∷ []))
    ∷ (2 ∷ 0 ∷ 0 ∷ 0 ∷ [], (129, 2 ∷ 0 ∷ 2 ∷ 0 ∷ []))
    ∷ (2 ∷ 0 ∷ 0 ∷ 0 ∷ [], (193, 2 ∷ 0 ∷ 0 ∷ 2 ∷ []))
    ∷ (0x8000000000000000 ∷ 0 ∷ 0 ∷ 0 ∷ [], (64, 0x8000000000000000 ∷ 1 ∷ 0 ∷ 0 ∷ []))
    ∷ (0 ∷ 0x8000000000000000 ∷ 0 ∷ 0 ∷ [], (128, 0 ∷ 0x8000000000000000 ∷ 1 ∷ 0 ∷ []))
    ∷ (0 ∷ 0 ∷ 0x8000000000000000 ∷ 0 ∷ [], (192, 0 ∷ 0 ∷ 0x8000000000000000 ∷ 1 ∷ []))
    ∷ (0xaaaaaaaaaaaaaaaa ∷ 0xaaaaaaaaaaaaaaaa ∷ 0xaaaaaaaaaaaaaaaa ∷ 0x2aaaaaaaaaaaaaaa ∷ [], (255, 0xaaaaaaaaaaaaaaaa ∷ 0xaaaaaaaaaaaaaaaa ∷ 0xaaaaaaaaaaaaaaaa ∷ 0xaaaaaaaaaaaaaaaa ∷ []))
    ∷ (0xaaaaaaaaaaaaaaaa ∷ 0xaaaaaaaaaaaaaaaa ∷ 0xaaaaaaaaaaaaaaaa ∷ 0xaaaaaaaaaaaaaaaa ∷ [], (1, 0xaaaaaaaaaaaaaaaa ∷ 0xaaaaaaaaaaaaaaaa ∷ 0xaaaaaaaaaaaaaaaa ∷ 0xaaaaaaaaaaaaaaaa ∷ []))
    ∷ (0xffffffffffffffff ∷ 0xffffffffffffffff ∷ 0xffffffffffffffff ∷ 0xffffffffffffffff ∷ [], (0, 0xffffffffffffffff ∷ 0xffffffffffffffff ∷ 0xffffffffffffffff ∷ 0xffffffffffffffff ∷ []))
    ∷ (1 ∷ 0 ∷ 0 ∷ 0 ∷ [], (0, 1 ∷ 0 ∷ 0 ∷ 0 ∷ []))
    ∷ (0xfffffffffffffffe ∷ 0xffffffffffffffff ∷ 0xffffffffffffffff ∷ 0xffffffffffffffff ∷ [], (0, 0xffffffffffffffff ∷ 0xffffffffffffffff ∷ 0xffffffffffffffff ∷ 0xffffffffffffffff ∷ []))
    ∷ []

pub with_one_more : all adds added ≡ true
unfolding is_in
with_one_more = refl
