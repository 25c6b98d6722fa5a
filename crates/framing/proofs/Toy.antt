-- The engines of ShutOut differ from the reference of the toy machine.
-- Assumes nothing.
use Prim.Native.Nat.{ℕ, ◌≤◌}
use mathlib.Core.Path.{◌≡◌, sym, ap, ◌∙◌}
use mathlib.Core.List.{List, [], ◌∷◌}
use native.Mathlib.Omega.{arith}
use lib.ListN.{length, replicate}
use Rattle.octets.specs.Octets.{be16, be32}
use Rattle.octets.specs.Put.{put, front}
use Rattle.framing.specs.Runs.{Ran, runs}
use Rattle.framing.specs.Rounds.{rounds, by_length}
use Rattle.framing.specs.Framing.{length_field, frame, split}
use Rattle.framing.specs.Host as host
use Rattle.framing.specs.Host.{Calls, Entry, Item, One, one, run}
use Rattle.framing.specs.Reference as ref
use Rattle.framing.specs.Engine as eng
use Rattle.framing.specs.ShutOut as out
use Rattle.framing.specs.ShutOut.{SeesOnePdu, SeesOnePiece}
use Rattle.framing.specs.Toy.{toy}
use Rattle.framing.proofs.ShutOut.{one_pdu_more, one_piece_more, reported_behind}

-- in an open association
abbrev reference : List (Item One ℕ) → Ran (Entry ℕ) (ref.Box (toy 4))
reference is = ref.reference (toy 4) is (ref.box (toy 4) 1 [])

-- an engine of any kind, of which each script's trace is the reference's
abbrev Traces : (D : Calls One ℕ (Entry ℕ)) → D.S → Type 0
Traces D start = (is : List (Item One ℕ)) → (host.script D is start).trace ≡ (reference is).trace

-- two PDUs in one piece: no event without them, two with them
pub one_pdu : (D : Calls One ℕ (Entry ℕ)) (start : D.S) → Traces D start → SeesOnePdu D start → ⊥
unfolding runs ref.framed split by_length rounds frame length_field be32 be16
one_pdu D start t h =
    let p : List ℕ = 1 ∷ 0 ∷ 0 ∷ 0 ∷ 0 ∷ 0 ∷ 2 ∷ 0 ∷ 0 ∷ 0 ∷ 0 ∷ 0 ∷ [] in
    let all : length (host.script D (run one (p ∷ []) ∷ []) start).trace ≡ 2 = ap length (t (run one (p ∷ []) ∷ [])) in
    omega (arith, all, one_pdu_more D start [] one h p)

-- a PDU in two pieces: no event in the first
pub one_piece : (D : Calls One ℕ (Entry ℕ)) (start : D.S) → Traces D start → SeesOnePiece D start → ⊥
unfolding runs ref.framed split by_length rounds frame length_field be32 be16
one_piece D start t h =
    let ps : List (List ℕ) = (0 ∷ 0 ∷ 0 ∷ []) ∷ [] in
    let first : (host.script D (run one ((1 ∷ 0 ∷ 0 ∷ []) ∷ []) ∷ []) start).trace ≡ [] = t (run one ((1 ∷ 0 ∷ 0 ∷ []) ∷ []) ∷ []) in
    let all : length (host.script D (run one ((1 ∷ 0 ∷ 0 ∷ []) ∷ ps) ∷ []) start).trace ≡ 1 = ap length (t (run one ((1 ∷ 0 ∷ 0 ∷ []) ∷ ps) ∷ [])) in
    omega (arith, all, ap length (one_piece_more D start [] one h 1 (0 ∷ 0 ∷ []) ps ∙ first))

-- a PDU and a byte in one piece: the byte is not gathered
pub over_reporting : (k : ℕ) → 1 ≤ k
    → ((is : List (Item One ℕ)) → eng.engine_boxed (toy 4) (host.script (out.over_reporting (eng.engine_calls (toy 4)) k) is (eng.engine_fresh (toy 4) 1 (replicate 10 0) (replicate 10 0))) ≡ reference is) → ⊥
unfolding runs host.feed eng.receive eng.local put front ref.framed split by_length rounds frame length_field be32 be16
over_reporting k h t =
    let p : List ℕ = 1 ∷ 0 ∷ 0 ∷ 0 ∷ 0 ∷ 0 ∷ 2 ∷ [] in
    let lent = eng.engine_fresh (toy 4) 1 (replicate 10 0) (replicate 10 0) in
    let e = reported_behind (eng.engine_calls (toy 4)) k one [] lent 1 (0 ∷ 0 ∷ 0 ∷ 0 ∷ 0 ∷ 2 ∷ []) (omega arith) in
    let z : ◌≡◌ {A = ℕ} 0 1 = ap (λ (x : Ran (Entry ℕ) (ref.Box (toy 4))). length x.end.got) (sym (ap (eng.engine_boxed (toy 4)) e) ∙ t (run one (p ∷ []) ∷ [])) in
    omega arith
