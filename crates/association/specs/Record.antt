-- The association record, and when it is broken: document 01, 'Refusal numbers', 6.
use Rattle.std.specs.Prelude.{ℕ, ◌+◌, Bool, false, not, ◌&&◌, ◌||◌, List, [], ◌∷◌, eqb, leb, ltb}
use Rattle.std.specs.Bool.{beq}
use Rattle.laws.specs.Lists.{any}
use Rattle.numbers.specs.Lengths.{HEADER, LONGEST}
use Rattle.framing.specs.Framing.{length_field}
use Rattle.association.specs.declared.Assoc.{Assoc}
use Rattle.association.specs.declared.Brings.{Brings}

-- an association but for the bytes gathered, which stand beside it (framing): what Table 9-10 and the actions know of it
pub record Standing : Type 0 where
  pub state : ℕ
  pub deaf : Bool
  pub artim : Bool
  pub requestor : Bool
  pub peer : ℕ

-- ---- every place that lists the fields

abbrev pub standing : Assoc → Standing
standing a = record { state = a.state; deaf = a.deaf; artim = a.artim; requestor = a.requestor; peer = a.peer_max }

-- the association that stands so, with n bytes gathered
abbrev pub with_gathered : Standing → ℕ → Assoc
with_gathered s n = record { state = s.state; gathered = n; deaf = s.deaf; artim = s.artim; requestor = s.requestor; peer_max = s.peer }

-- a fresh association: state 1, and all else 0
unfoldable pub idle : Assoc
idle = record { state = 1; gathered = 0; deaf = false; artim = false; requestor = false; peer_max = 0 }

-- in this state and with these marks, and with what the event brought
abbrev pub moved : ℕ → Bool → Bool → Brings → Standing
moved state artim requestor b = record { state = state; deaf = b.deaf; artim = artim; requestor = requestor; peer = b.peer_max }

-- without "deafness, requestor mark and peer maximum"
abbrev pub cleared : Standing → Standing
cleared s = record { state = s.state; deaf = false; artim = s.artim; requestor = false; peer = 0 }

-- ---- what state and marks say

-- "In Sta1 and Sta4 all bytes are used and dropped"; the association is deaf: "later bytes are used and dropped until Sta1"
unfoldable pub dropping : Standing → Bool
dropping s = eqb s.state 1 || (eqb s.state 4 || s.deaf)

-- "state is 2 or 13"
unfoldable pub timed : ℕ → Bool
timed state = eqb state 2 || eqb state 13

-- ---- the clauses of 6, in the paper's order

-- "state outside 1..13"
unfoldable pub stray_state : Assoc → Bool
stray_state a = ltb a.state 1 || ltb 13 a.state

-- "bytes gathered above 16,389, or above 0 in Sta1, Sta4 or when deaf"
unfoldable pub overfull : Assoc → Bool
overfull a = ltb 16389 a.gathered || (dropping (standing a) && ltb 0 a.gathered)

-- "deaf outside Sta13"
unfoldable pub stray_deaf : Assoc → Bool
stray_deaf a = a.deaf && not (eqb a.state 13)

-- "ARTIM mark not equal to "state is 2 or 13""
unfoldable pub mistimed : Assoc → Bool
mistimed a = not (beq a.artim (timed a.state))

-- "with 6 or more gathered, the gathered length field L above 16,384 or gathered not below 6 + L"
unfoldable pub bad_length : ℕ → List ℕ → Bool
bad_length gathered g = leb HEADER gathered && (ltb LONGEST (length_field g) || leb (HEADER + length_field g) gathered)

-- "requestor mark or peer maximum non-zero in Sta1"
unfoldable pub marked_idle : Assoc → Bool
marked_idle a = eqb a.state 1 && (a.requestor || not (eqb a.peer_max 0))

-- all but `bad_length`, since "6's test of L comes after 3"
unfoldable pub clauses : Assoc → List Bool
clauses a = stray_state a ∷ overfull a ∷ stray_deaf a ∷ mistimed a ∷ marked_idle a ∷ []

unfoldable pub broken : Assoc → Bool
broken a = any (λ (clause : Bool). clause) (clauses a)

-- the whole of 6, over the gather buffer
unfoldable pub broken_over : Assoc → List ℕ → Bool
broken_over a g = broken a || bad_length a.gathered g
