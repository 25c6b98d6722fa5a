-- Any two permitted answers agree, for each public function.
-- Assumes nothing.
use native.Mathlib.Omega.{arith}
use mathlib.Core.Path.{◌≡◌, refl}
use Rattle.laws.proofs.Agree.{agree, Agrees}
use Rattle.table.specs.Sent.{sent_number}
use Rattle.table.specs.declared.sent.Sends.{Sends}
use Rattle.table.specs.declared.sent.Sends.TheVariants.{Nothing, Contents, RejectVersion, ReleaseRq, ReleaseRp, AbortUser, AbortProvider}
use Rattle.table.proofs.cell as cell
use Rattle.table.proofs.next_state as next-state
use Rattle.table.proofs.artim_after as artim-after
use Rattle.table.proofs.shows as shows
use Rattle.table.proofs.sends as sends
use Rattle.table.proofs.is_received as is-received

pub cell_agrees : Agrees 0 cell.Kinds.ps cell.Kinds.r cell.Reads.Post
cell_agrees κs args a b x y p q = agree p q

pub next_state_agrees : Agrees 0 next-state.Kinds.ps next-state.Kinds.r next-state.Reads.Post
next_state_agrees κs args a b x y p q = agree p q

pub artim_after_agrees : Agrees 0 artim-after.Kinds.ps artim-after.Kinds.r artim-after.Reads.Post
artim_after_agrees κs args a b x y p q = agree p q

pub shows_agrees : Agrees 0 shows.Kinds.ps shows.Kinds.r shows.Reads.Post
shows_agrees κs args a b x y p q = agree p q

-- the number determines the answer
same_sends : (a b : Sends) → sent_number a ≡ sent_number b → a ≡ b
same_sends Nothing Nothing e = refl
same_sends Nothing Contents e = absurd (omega (arith, e))
same_sends Nothing RejectVersion e = absurd (omega (arith, e))
same_sends Nothing ReleaseRq e = absurd (omega (arith, e))
same_sends Nothing ReleaseRp e = absurd (omega (arith, e))
same_sends Nothing AbortUser e = absurd (omega (arith, e))
same_sends Nothing AbortProvider e = absurd (omega (arith, e))
same_sends Contents Nothing e = absurd (omega (arith, e))
same_sends Contents Contents e = refl
same_sends Contents RejectVersion e = absurd (omega (arith, e))
same_sends Contents ReleaseRq e = absurd (omega (arith, e))
same_sends Contents ReleaseRp e = absurd (omega (arith, e))
same_sends Contents AbortUser e = absurd (omega (arith, e))
same_sends Contents AbortProvider e = absurd (omega (arith, e))
same_sends RejectVersion Nothing e = absurd (omega (arith, e))
same_sends RejectVersion Contents e = absurd (omega (arith, e))
same_sends RejectVersion RejectVersion e = refl
same_sends RejectVersion ReleaseRq e = absurd (omega (arith, e))
same_sends RejectVersion ReleaseRp e = absurd (omega (arith, e))
same_sends RejectVersion AbortUser e = absurd (omega (arith, e))
same_sends RejectVersion AbortProvider e = absurd (omega (arith, e))
same_sends ReleaseRq Nothing e = absurd (omega (arith, e))
same_sends ReleaseRq Contents e = absurd (omega (arith, e))
same_sends ReleaseRq RejectVersion e = absurd (omega (arith, e))
same_sends ReleaseRq ReleaseRq e = refl
same_sends ReleaseRq ReleaseRp e = absurd (omega (arith, e))
same_sends ReleaseRq AbortUser e = absurd (omega (arith, e))
same_sends ReleaseRq AbortProvider e = absurd (omega (arith, e))
same_sends ReleaseRp Nothing e = absurd (omega (arith, e))
same_sends ReleaseRp Contents e = absurd (omega (arith, e))
same_sends ReleaseRp RejectVersion e = absurd (omega (arith, e))
same_sends ReleaseRp ReleaseRq e = absurd (omega (arith, e))
same_sends ReleaseRp ReleaseRp e = refl
same_sends ReleaseRp AbortUser e = absurd (omega (arith, e))
same_sends ReleaseRp AbortProvider e = absurd (omega (arith, e))
same_sends AbortUser Nothing e = absurd (omega (arith, e))
same_sends AbortUser Contents e = absurd (omega (arith, e))
same_sends AbortUser RejectVersion e = absurd (omega (arith, e))
same_sends AbortUser ReleaseRq e = absurd (omega (arith, e))
same_sends AbortUser ReleaseRp e = absurd (omega (arith, e))
same_sends AbortUser AbortUser e = refl
same_sends AbortUser AbortProvider e = absurd (omega (arith, e))
same_sends AbortProvider Nothing e = absurd (omega (arith, e))
same_sends AbortProvider Contents e = absurd (omega (arith, e))
same_sends AbortProvider RejectVersion e = absurd (omega (arith, e))
same_sends AbortProvider ReleaseRq e = absurd (omega (arith, e))
same_sends AbortProvider ReleaseRp e = absurd (omega (arith, e))
same_sends AbortProvider AbortUser e = absurd (omega (arith, e))
same_sends AbortProvider AbortProvider e = refl

pub sends_agrees : Agrees 0 sends.Kinds.ps sends.Kinds.r sends.Reads.Post
sends_agrees κs args a b x y p q = same_sends a b (agree p q)

pub is_received_agrees : Agrees 0 is-received.Kinds.ps is-received.Kinds.r is-received.Reads.Post
is_received_agrees κs args a b x y p q = agree p q
