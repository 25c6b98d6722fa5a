-- Table 9-10 of PS3.8 2017e, row by row as it is printed.
use Rattle.std.specs.Prelude.{ℕ, Bool, List, [], ◌∷◌, get_or}
use Rattle.laws.specs.Lists.{among}
use Rattle.table.specs.ActionNames.{····}
use Rattle.table.specs.ActionNames.{AE-1, AE-2, AE-3, AE-4, AE-5, AE-6, AE-7, AE-8, DT-1, DT-2}
use Rattle.table.specs.ActionNames.{AR-1, AR-2, AR-3, AR-4, AR-5, AR-6, AR-7, AR-8, AR-9, AR-10}
use Rattle.table.specs.ActionNames.{AA-1, AA-2, AA-3, AA-4, AA-5, AA-6, AA-7, AA-8}
use Rattle.table.specs.EventNames.{AC-RECEIVED, RJ-RECEIVED, RQ-RECEIVED, DATA-RECEIVED, RELEASE-RQ-RECEIVED, RELEASE-RP-RECEIVED, ABORT-RECEIVED, INVALID-RECEIVED}

-- a row; its place 0 is no state's
abbrev row : ℕ → ℕ → ℕ → ℕ → ℕ → ℕ → ℕ → ℕ → ℕ → ℕ → ℕ → ℕ → ℕ → List ℕ
row a b c d e f g h i j k l m = 0 ∷ a ∷ b ∷ c ∷ d ∷ e ∷ f ∷ g ∷ h ∷ i ∷ j ∷ k ∷ l ∷ m ∷ []

-- 19 events, numbered from 1 as the rows are printed (place 0 is no event's), by 13 states; ···· is a blank cell. The next state, which a printed cell has too,
-- is its action's
unfoldable pub table : List (List ℕ)
table =
    []
    -- Sta    1    2    3    4    5    6    7    8    9   10   11   12   13
    ∷ row AE-1 ···· ···· ···· ···· ···· ···· ···· ···· ···· ···· ···· ····  -- 1 A-ASSOCIATE Request (local user)
    ∷ row ···· ···· ···· AE-2 ···· ···· ···· ···· ···· ···· ···· ···· ····  -- 2 Transport Conn. Confirm (local transport service)
    ∷ row ···· AA-1 AA-8 ···· AE-3 AA-8 AA-8 AA-8 AA-8 AA-8 AA-8 AA-8 AA-6  -- 3 A-ASSOCIATE-AC PDU (received on transport connection)
    ∷ row ···· AA-1 AA-8 ···· AE-4 AA-8 AA-8 AA-8 AA-8 AA-8 AA-8 AA-8 AA-6  -- 4 A-ASSOCIATE-RJ PDU (received on transport connection)
    ∷ row AE-5 ···· ···· ···· ···· ···· ···· ···· ···· ···· ···· ···· ····  -- 5 Transport Connection Indication (local transport service)
    ∷ row ···· AE-6 AA-8 ···· AA-8 AA-8 AA-8 AA-8 AA-8 AA-8 AA-8 AA-8 AA-7  -- 6 A-ASSOCIATE-RQ PDU (received on transport connection)
    ∷ row ···· ···· AE-7 ···· ···· ···· ···· ···· ···· ···· ···· ···· ····  -- 7 A-ASSOCIATE response primitive (accept)
    ∷ row ···· ···· AE-8 ···· ···· ···· ···· ···· ···· ···· ···· ···· ····  -- 8 A-ASSOCIATE response primitive (reject)
    ∷ row ···· ···· ···· ···· ···· DT-1 ···· AR-7 ···· ···· ···· ···· ····  -- 9 P-DATA request primitive
    ∷ row ···· AA-1 AA-8 ···· AA-8 DT-2 AR-6 AA-8 AA-8 AA-8 AA-8 AA-8 AA-6  -- 10 P-DATA-TF PDU
    ∷ row ···· ···· ···· ···· ···· AR-1 ···· ···· ···· ···· ···· ···· ····  -- 11 A-RELEASE Request primitive
    ∷ row ···· AA-1 AA-8 ···· AA-8 AR-2 AR-8 AA-8 AA-8 AA-8 AA-8 AA-8 AA-6  -- 12 A-RELEASE-RQ PDU (received on open transport connection)
    ∷ row ···· AA-1 AA-8 ···· AA-8 AA-8 AR-3 AA-8 AA-8 AR-10 AR-3 AA-8 AA-6  -- 13 A-RELEASE-RP PDU (received on transport connection)
    ∷ row ···· ···· ···· ···· ···· ···· ···· AR-4 AR-9 ···· ···· AR-4 ····  -- 14 A-RELEASE Response primitive
    ∷ row ···· ···· AA-1 AA-2 AA-1 AA-1 AA-1 AA-1 AA-1 AA-1 AA-1 AA-1 ····  -- 15 A-ABORT Request primitive
    ∷ row ···· AA-2 AA-3 ···· AA-3 AA-3 AA-3 AA-3 AA-3 AA-3 AA-3 AA-3 AA-2  -- 16 A-ABORT PDU (received on open transport connection)
    ∷ row ···· AA-5 AA-4 AA-4 AA-4 AA-4 AA-4 AA-4 AA-4 AA-4 AA-4 AA-4 AR-5  -- 17 Transport connection closed indication (local transport service)
    ∷ row ···· AA-2 ···· ···· ···· ···· ···· ···· ···· ···· ···· ···· AA-2  -- 18 ARTIM timer expired (Association reject/release timer)
    ∷ row ···· AA-1 AA-8 ···· AA-8 AA-8 AA-8 AA-8 AA-8 AA-8 AA-8 AA-8 AA-7  -- 19 Unrecognized or invalid PDU received
    ∷ []

-- the action at an event in a state; 0 at a blank cell, and outside the table
unfoldable pub cell_of : ℕ → ℕ → ℕ
cell_of event state = get_or (get_or table event []) state 0

-- the events that bytes bring: the rows of PDUs
unfoldable pub is_received : ℕ → Bool
is_received event =
    among event
    (AC-RECEIVED ∷ RJ-RECEIVED ∷ RQ-RECEIVED ∷ DATA-RECEIVED ∷ RELEASE-RQ-RECEIVED ∷ RELEASE-RP-RECEIVED ∷ ABORT-RECEIVED ∷ INVALID-RECEIVED ∷ [])
