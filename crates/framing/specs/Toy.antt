-- A toy machine, and a script that antt computes: what the reference and the engine do with it, to be read beside their definitions.
use Rattle.std.specs.Prelude.{ℕ, ◌+◌, ◌≡◌, refl, false, cond, List, [], ◌∷◌, length, get_or, replicate, eqb, ltb}
use Rattle.std.proofs.Math.Option.{none, some}
use Rattle.octets.specs.Octets.{be16, be32}
use Rattle.octets.specs.Put.{put, front}
use Rattle.framing.specs.Runs.{runs}
use Rattle.framing.specs.Rounds.{rounds, by_length}
use Rattle.framing.specs.Framing.{length_field, frame, split}
use Rattle.framing.specs.Host as host
use Rattle.framing.specs.Host.{Entry, Item, One, one, event, run}
use Rattle.framing.specs.Reference as ref
use Rattle.framing.specs.Reference.{Machine}
use Rattle.framing.specs.Engine as eng

-- State 0 drops. A PDU of type 3 or a length above the limit leads there; any other PDU leads one state on, and is answered by its type and length; one of
-- type 1 is shown. Local events 0 and 1 lead to states 0 and 1, any other is refused. The host is told the PDU's type, 99, or the local event.
abbrev pub toy : ℕ → Machine
toy most =
    record {
      R = ℕ;
      E = ℕ;
      A = ℕ;
      limit = most;
      drops = λ r. eqb r 0;
      on_pdu = λ r p.
          let type = get_or p 0 0 in
          record { next = cond (eqb type 3) 0 (r + 1); told = type; sends = type ∷ length p ∷ []; shows = eqb type 1 };
      on_long = λ r. record { next = 0; told = 99; sends = 99 ∷ []; shows = false };
      on_local = λ r v. cond (ltb v 2) (some (record { next = v; told = v; sends = []; shows = false })) none;
    }

abbrev saw : ℕ → List ℕ → List ℕ → Entry ℕ
saw told shown sent = record { told = told; shown = shown; sent = sent }

-- ---- a script: a refused event; the opening; a run of three PDUs, the third too long (limit 4), and a byte; a byte more; a second opening, a PDU and half a
-- header; the closing; a third opening, a PDU and a byte

abbrev toy_script : List (List ℕ) → List (Item One ℕ)
toy_script ps =
    event one 2
    ∷ event one 1
    ∷ run one ps
    ∷ run one ((5 ∷ []) ∷ [])
    ∷ event one 1
    ∷ run one ((2 ∷ 0 ∷ 0 ∷ 0 ∷ 0 ∷ 0 ∷ 2 ∷ 0 ∷ 0 ∷ []) ∷ [])
    ∷ event one 0
    ∷ event one 1
    ∷ run one ((2 ∷ 0 ∷ 0 ∷ 0 ∷ 0 ∷ 0 ∷ 4 ∷ []) ∷ [])
    ∷ []

-- the run in one piece, and in four, one of them empty
abbrev toy_whole : List (List ℕ)
toy_whole = (1 ∷ 0 ∷ 0 ∷ 0 ∷ 0 ∷ 2 ∷ 7 ∷ 8 ∷ 2 ∷ 0 ∷ 0 ∷ 0 ∷ 0 ∷ 0 ∷ 9 ∷ 0 ∷ 0 ∷ 0 ∷ 0 ∷ 5 ∷ 77 ∷ []) ∷ []

abbrev pieces : List (List ℕ)
pieces = (1 ∷ 0 ∷ []) ∷ (0 ∷ 0 ∷ 0 ∷ 2 ∷ 7 ∷ []) ∷ [] ∷ (8 ∷ 2 ∷ 0 ∷ 0 ∷ 0 ∷ 0 ∷ 0 ∷ 9 ∷ 0 ∷ 0 ∷ 0 ∷ 0 ∷ 5 ∷ 77 ∷ []) ∷ []

by_reference : ref.reference (toy 4) (toy_script toy_whole) (ref.box (toy 4) 0 [])
    ≡ record {
      trace =
          saw 1 [] []
          ∷ saw 1 (1 ∷ 0 ∷ 0 ∷ 0 ∷ 0 ∷ 2 ∷ 7 ∷ 8 ∷ []) (1 ∷ 8 ∷ [])
          ∷ saw 2 [] (2 ∷ 6 ∷ [])
          ∷ saw 99 [] (99 ∷ [])
          ∷ saw 1 [] []
          ∷ saw 2 [] (2 ∷ 6 ∷ [])
          ∷ saw 0 [] []
          ∷ saw 1 [] []
          ∷ saw 2 [] (2 ∷ 6 ∷ [])
          ∷ [];
      end = ref.box (toy 4) 2 (4 ∷ []);
    }
unfolding runs ref.framed split by_length rounds frame length_field be32 be16
by_reference = refl

in_pieces : eng.engine_boxed (toy 4) (host.script (eng.engine_calls (toy 4)) (toy_script pieces) (eng.engine_fresh (toy 4) 0 (replicate 10 0) (replicate 10 0)))
    ≡ ref.reference (toy 4) (toy_script toy_whole) (ref.box (toy 4) 0 [])
unfolding runs host.feed eng.receive eng.local put front ref.framed split by_length rounds frame length_field be32 be16
in_pieces = refl

-- ---- document 01's lengths: 16,384 is taken at byte 16,390, and 16,385 is judged at byte 6

abbrev toy_lent : eng.EngineState (toy 16384)
toy_lent = eng.engine_fresh (toy 16384) 1 (replicate 16390 0) (replicate 16390 0)

not_yet : (host.script (eng.engine_calls (toy 16384)) (run one ((8 ∷ 0 ∷ 0 ∷ 0 ∷ 64 ∷ 0 ∷ []) ∷ replicate 16383 5 ∷ []) ∷ []) toy_lent).trace ≡ []
unfolding runs host.feed eng.receive eng.local put front by_length rounds frame length_field be32 be16
not_yet = refl

at_last : (host.script (eng.engine_calls (toy 16384)) (run one ((8 ∷ 0 ∷ 0 ∷ 0 ∷ 64 ∷ 0 ∷ []) ∷ replicate 16384 5 ∷ []) ∷ []) toy_lent).trace ≡ saw 8 [] (8 ∷ 16390 ∷ []) ∷ []
unfolding runs host.feed eng.receive eng.local put front by_length rounds frame length_field be32 be16
at_last = refl

at_six : (host.script (eng.engine_calls (toy 16384)) (run one ((8 ∷ 0 ∷ 0 ∷ 0 ∷ 64 ∷ 1 ∷ []) ∷ []) ∷ []) toy_lent).trace ≡ saw 99 [] (99 ∷ []) ∷ []
unfolding runs host.feed eng.receive eng.local put front by_length rounds frame length_field be32 be16
at_six = refl
