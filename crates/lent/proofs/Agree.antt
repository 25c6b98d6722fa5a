-- Any two permitted answers agree, for each public function, and so do the record and the buffers as they are left. The contract is stated here as a fact, `Received` or `Given`, and `.._says` that it is
-- what the checker reads in the source: docs/PROMISES.md names the two.
-- Assumes nothing.
use Prim.Native.Nat.{ℕ}
use mathlib.Core.Path.{◌≡◌, refl, ap}
use mathlib.Core.List.{List}
use seplogic.Ra.Ura.{Ura}
use base.Logic.{SProp}
use prog.Memory.{Memory}
use prog.Routine.{Routine}
use types.Logic.{Logic}
use contract.Lifetimes.{Lfts}
use contract.Monad.{Fun, fact}
use denote.Triple.Entry.{Args}
use denote.Triple.Clauses.{AtExit}
use Rattle.laws.proofs.Agree.{agree}
use Rattle.association.specs.declared.Assoc.{Assoc}
use Rattle.association.specs.declared.Told.{Told}
use Rattle.association.specs.Events.{Local.plain}
use Rattle.association.specs.Calls.{Call, call, receive_of, local_of}
use Rattle.lent.specs.contracts.receive_lent as receive-lent
use Rattle.lent.specs.contracts.event_lent as event-lent

-- what is told and left, as one call
abbrev lent_call : Told → Assoc → List ℕ → List ℕ → Call
lent_call r a g o = call (record { told = r; assoc = a }) g o

module _ (κs : Lfts 4) (args : Args receive-lent.signature κs) where
  abbrev Received : Told → AtExit receive-lent.ended κs → Type 0
  Received r x =
      lent_call r x.0.now x.1.0.now x.1.1.1.0.now ≡ receive_of args.0.now args.1.0.now args.1.1.0.now args.1.1.1.0.now

  pub receive_lent_says : {M : Type 1} {𝓤 : Ura M} (𝓛 : Logic 𝓤) (mem : Memory → SProp 𝓤) (run : Routine → Fun 𝓤) (r : Told) (x : AtExit receive-lent.ended κs)
      → (receive-lent.clauses 𝓛 mem run κs args).ensures tt r x ≡ fact 𝓤 (Received r x)
  receive_lent_says 𝓛 mem run r x = refl

  pub receive_lent_agrees : (r s : Told) (x y : AtExit receive-lent.ended κs) → Received r x → Received s y
      → (r ≡ s) × ((x.0.now ≡ y.0.now) × ((x.1.0.now ≡ y.1.0.now) × (x.1.1.1.0.now ≡ y.1.1.1.0.now)))
  receive_lent_agrees r s x y p q =
      let e : lent_call r x.0.now x.1.0.now x.1.1.1.0.now ≡ lent_call s y.0.now y.1.0.now y.1.1.1.0.now = agree p q in
      (ap (λ c. c.answer.told) e, (ap (λ c. c.answer.assoc) e, (ap (λ c. c.gather) e, ap (λ c. c.out) e)))

module _ (κs : Lfts 3) (args : Args event-lent.signature κs) where
  abbrev Given : Told → AtExit event-lent.ended κs → Type 0
  Given r x =
      lent_call r x.0.now args.1.1.0.now x.1.1.1.0.now ≡ local_of args.0.now args.1.1.0.now args.1.1.1.0.now (plain args.1.0)

  pub event_lent_says : {M : Type 1} {𝓤 : Ura M} (𝓛 : Logic 𝓤) (mem : Memory → SProp 𝓤) (run : Routine → Fun 𝓤) (r : Told) (x : AtExit event-lent.ended κs)
      → (event-lent.clauses 𝓛 mem run κs args).ensures tt r x ≡ fact 𝓤 (Given r x)
  event_lent_says 𝓛 mem run r x = refl

  pub event_lent_agrees : (r s : Told) (x y : AtExit event-lent.ended κs) → Given r x → Given s y → (r ≡ s) × ((x.0.now ≡ y.0.now) × (x.1.1.1.0.now ≡ y.1.1.1.0.now))
  event_lent_agrees r s x y p q =
      let e : lent_call r x.0.now args.1.1.0.now x.1.1.1.0.now ≡ lent_call s y.0.now args.1.1.0.now y.1.1.1.0.now = agree p q in
      (ap (λ c. c.answer.told) e, (ap (λ c. c.answer.assoc) e, ap (λ c. c.out) e))
