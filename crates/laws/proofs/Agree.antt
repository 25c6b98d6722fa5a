-- Any two permitted answers agree: where a contract is an equation for the answer, or for the contents of a lent buffer, `agree` says so; `Agrees` is the
-- statement for a function, over its contract as the checker reads it (`Post` of the function's `Reads`), at any arguments.
-- Assumes nothing.
use Prim.Native.Nat.{ℕ}
use mathlib.Core.Path.{◌≡◌, sym, ◌∙◌}
use mathlib.Core.List.{List}
use contract.Lifetimes.{Lfts}
use denote.Ref.{Bor}
use denote.Triple.Clauses.{AtExit}
use borrow.Fn.Kinds.{ParamKind, ResultKind, Dens, res_t, ended_of, Out}

pub agree : {A : Type 0} {a b x : A} → a ≡ x → b ≡ x → a ≡ b
agree p q = p ∙ sym q

abbrev pub Agrees : (n : ℕ) (ps : List (ParamKind n)) (r : ResultKind n) → Out n ps r → Type 0
Agrees n ps r Post =
    (κs : Lfts n) (args : Dens κs ps) (a b : (res_t r κs).Denot) (x y : AtExit (ended_of n ps r) κs) → Post κs args a x → Post κs args b y → a ≡ b

-- the same with the contents of what was lent, as the call leaves it
abbrev pub AgreesLent : {L : Type 0} (n : ℕ) (ps : List (ParamKind n)) (r : ResultKind n) → Out n ps r → ((κs : Lfts n) → AtExit (ended_of n ps r) κs → L) → Type 0
AgreesLent n ps r Post left =
    (κs : Lfts n) (args : Dens κs ps) (a b : (res_t r κs).Denot) (x y : AtExit (ended_of n ps r) κs)
    → Post κs args a x → Post κs args b y → (a ≡ b) × (left κs x ≡ left κs y)

-- the same for a slice that is handed back: where it lies and its contents, all but the ghost name under which they are tracked
abbrev pub AgreesPart : {X : Type 0} (n : ℕ) (ps : List (ParamKind n)) (r : ResultKind n) → Out n ps r → ((κs : Lfts n) → (res_t r κs).Denot → Bor X) → Type 0
AgreesPart n ps r Post part =
    (κs : Lfts n) (args : Dens κs ps) (a b : (res_t r κs).Denot) (x y : AtExit (ended_of n ps r) κs)
    → Post κs args a x → Post κs args b y → ((part κs a).ref_ptr ≡ (part κs b).ref_ptr) × ((part κs a).now ≡ (part κs b).now)
