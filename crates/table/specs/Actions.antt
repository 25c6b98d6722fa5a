-- The 28 actions of Tables 9-6 to 9-9 of PS3.8 2017e: what each does that shows here.
use Rattle.std.specs.Prelude.{ℕ, Bool, true, false, cond, List, [], ◌∷◌, get_or}
use Rattle.numbers.specs.Kinds.{NO-KIND, ASSOCIATE-RQ, ASSOCIATE-AC, ASSOCIATE-RJ, DATA-TF, RELEASE-RQ, RELEASE-RP, ABORT}

-- the ARTIM timer: an action starts it, stops it or lets it stay as it is
pub data Timer : Type 0 where
  starts : Timer
  stops : Timer
  stays : Timer

-- what an action sends: nothing; the PDU of the contents that came with the local event, by its kind; or a PDU of its own
pub data Sends : Type 0 where
  nothing : Sends
  contents : ℕ → Sends
  reject_version : Sends  -- "AE-6 then sends result 1, source 2, reason 2"
  release_rq : Sends
  release_rp : Sends
  abort_user : Sends  -- "AA-1 source 0, reason 0"
  abort_provider : Sends  -- "AA-7 and AA-8 source 2", the reason by what was received

-- the kind of that PDU
abbrev pub kind_sent : Sends → ℕ
kind_sent nothing = NO-KIND
kind_sent (contents kind) = kind
kind_sent reject_version = ASSOCIATE-RJ
kind_sent release_rq = RELEASE-RQ
kind_sent release_rp = RELEASE-RP
kind_sent abort_user = ABORT
kind_sent abort_provider = ABORT

-- the number that the code answers for each
abbrev pub sends_number : Sends → ℕ
sends_number nothing = 0
sends_number (contents kind) = 1
sends_number reject_version = 2
sends_number release_rq = 3
sends_number release_rp = 4
sends_number abort_user = 5
sends_number abort_provider = 6

-- what is sent; the ARTIM timer; whether the PDU received is shown to the host; the next state
pub record Does : Type 0 where
  pub sends : Sends
  pub artim : Timer
  pub shows : Bool
  pub next : ℕ

-- ---- the words of the table below, as wide as their columns
abbrev does : Timer → Bool → ℕ → Sends → Does
does artim shows next sends = record { sends = sends; artim = artim; shows = shows; next = next }

abbrev start : Timer
start = starts

abbrev stop· : Timer
stop· = stops

abbrev show : Bool
show = true

abbrev hide : Bool
hide = false

-- ---- Tables 9-6 to 9-9, a line to an action; place 0 is no action's. `accepts` is asked at AE-6 and `requestor` at AR-8. The PDU is shown "at AE-3, AE-4, an
-- accepting AE-6, DT-2, AR-6 and AA-3" (document 01, 'From bytes to PDUs')
unfoldable pub actions : Bool → Bool → List Does
actions accepts requestor =
    does stays hide 0 nothing
    --     ARTIM PDU Sta sends
    ∷ does stays hide 4 nothing  -- AE-1 Issue TRANSPORT CONNECT request primitive to local transport service
    ∷ does stays hide 5 (contents ASSOCIATE-RQ)  -- AE-2 Send A-ASSOCIATE-RQ-PDU
    ∷ does stays show 6 nothing  -- AE-3 Issue A-ASSOCIATE confirmation (accept) primitive
    ∷ does stays show 1 nothing  -- AE-4 Issue A-ASSOCIATE confirmation (reject) primitive and close transport connection
    ∷ does start hide 2 nothing  -- AE-5 Issue Transport connection response primitive; start ARTIM timer
    ∷ cond accepts  -- AE-6 Stop ARTIM timer and if A-ASSOCIATE-RQ acceptable by service-provider:
    (does stop· show 3 nothing)  -- issue A-ASSOCIATE indication primitive
    (does start hide 13 reject_version)  -- otherwise: issue A-ASSOCIATE-RJ-PDU and start ARTIM timer
    ∷ does stays hide 6 (contents ASSOCIATE-AC)  -- AE-7 Send A-ASSOCIATE-AC PDU
    ∷ does start hide 13 (contents ASSOCIATE-RJ)  -- AE-8 Send A-ASSOCIATE-RJ PDU and start ARTIM timer
    ∷ does stays hide 6 (contents DATA-TF)  -- DT-1 Send P-DATA-TF PDU
    ∷ does stays show 6 nothing  -- DT-2 Send P-DATA indication primitive
    ∷ does stays hide 7 release_rq  -- AR-1 Send A-RELEASE-RQ PDU
    ∷ does stays hide 8 nothing  -- AR-2 Issue A-RELEASE indication primitive
    ∷ does stays hide 1 nothing  -- AR-3 Issue A-RELEASE confirmation primitive, and close transport connection
    ∷ does start hide 13 release_rp  -- AR-4 Issue A-RELEASE-RP PDU and start ARTIM timer
    ∷ does stop· hide 1 nothing  -- AR-5 Stop ARTIM timer
    ∷ does stays show 7 nothing  -- AR-6 Issue P-DATA indication
    ∷ does stays hide 8 (contents DATA-TF)  -- AR-7 Issue P-DATA-TF PDU
    ∷ does stays hide (cond requestor 9 10) nothing  -- AR-8 Issue A-RELEASE indication (release collision): if association-requestor, next state is Sta9; if not, next state is Sta10
    ∷ does stays hide 11 release_rp  -- AR-9 Send A-RELEASE-RP PDU
    ∷ does stays hide 12 nothing  -- AR-10 Issue A-RELEASE confirmation primitive
    ∷ does start hide 13 abort_user  -- AA-1 Send A-ABORT PDU (service-user source) and start (or restart if already started) ARTIM timer
    ∷ does stop· hide 1 nothing  -- AA-2 Stop ARTIM timer if running. Close transport connection
    ∷ does stays show 1 nothing  -- AA-3 issue A-ABORT indication, or otherwise A-P-ABORT indication, and close transport connection
    ∷ does stays hide 1 nothing  -- AA-4 Issue A-P-ABORT indication primitive
    ∷ does stop· hide 1 nothing  -- AA-5 Stop ARTIM timer
    ∷ does stays hide 13 nothing  -- AA-6 Ignore PDU
    ∷ does stays hide 13 abort_provider  -- AA-7 Send A-ABORT PDU
    ∷ does start hide 13 abort_provider  -- AA-8 Send A-ABORT PDU (service-provider source-), issue an A-P-ABORT indication, and start ARTIM timer
    ∷ []

-- what an action does, by its number; outside 1 to 28 nothing, with next state 0
unfoldable pub does_of : ℕ → Bool → Bool → Does
does_of action accepts requestor = get_or (actions accepts requestor) action (does stays hide 0 nothing)

-- the state after an action
unfoldable pub next_of : ℕ → Bool → Bool → ℕ
next_of action accepts requestor = (does_of action accepts requestor).next

-- whether an action shows the PDU
unfoldable pub shows_of : ℕ → Bool → Bool
shows_of action accepts = (does_of action accepts false).shows

-- whether the timer runs, where it did (or did not) before
abbrev pub runs_after : Timer → Bool → Bool
runs_after starts before = true
runs_after stops before = false
runs_after stays before = before

-- whether the ARTIM timer runs after an action
unfoldable pub artim_of : ℕ → Bool → Bool → Bool
artim_of action accepts before = runs_after (does_of action accepts false).artim before
