-- The count where nothing was gathered, and what an action sends by itself, by the table's number.
-- Assumes nothing.
use Prim.Native.Nat.{ℕ}
use mathlib.Core.Path.{◌≡◌, refl, sym}
use mathlib.Core.Bool.{Bool, true, false, cond}
use lib.Dec.{eqb}
use Rattle.table.specs.Actions.{Sends, sends_number, does_of}
use Rattle.table.specs.Actions.{Sends.nothing, Sends.contents, Sends.reject_version, Sends.release_rq, Sends.release_rp, Sends.abort_user, Sends.abort_provider}
use Rattle.writing.specs.Ten.{NO-TEN, REJECT-VERSION, TEN-RELEASE-RQ, TEN-RELEASE-RP, ABORT-USER}
use Rattle.association.specs.Record.{Standing, with_gathered}
use Rattle.association.specs.Performing.{leaving, ten_for, ten_by}

-- where nothing was gathered
pub leaves_none : (s : Standing) → leaving s 0 ≡ with_gathered s 0
unfolding leaving
leaves_none s = by (eqb s.state 1)
  where
    by : (b : Bool) → with_gathered s (cond b 0 0) ≡ with_gathered s 0
    by true = refl
    by false = refl

-- ---- `ten_by`: by the number of what the table's code answers
abbrev pub ten_numbered : ℕ → ℕ → ℕ
ten_numbered n abort =
    cond (eqb n 2) REJECT-VERSION
    (cond (eqb n 3) TEN-RELEASE-RQ
    (cond (eqb n 4) TEN-RELEASE-RP
    (cond (eqb n 5) ABORT-USER
    (cond (eqb n 6) abort
    NO-TEN))))

numbered : (s : Sends) (abort : ℕ) → ten_numbered (sends_number s) abort ≡ ten_for s abort
numbered nothing abort = refl
numbered (contents kind) abort = refl
numbered reject_version abort = refl
numbered release_rq abort = refl
numbered release_rp abort = refl
numbered abort_user abort = refl
numbered abort_provider abort = refl

pub ten_sent : (action : ℕ) (accepts : Bool) (abort : ℕ) → ten_by action accepts abort ≡ ten_numbered (sends_number (does_of action accepts false).sends) abort
unfolding ten_by
ten_sent action accepts abort = sym (numbered (does_of action accepts false).sends abort)
