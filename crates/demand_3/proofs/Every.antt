-- EVERY CALL that a host makes, from a fresh association on: no record is broken, refusals 6, 3 and 2 never come, and a piece that is not empty is used by a byte or
-- more.
-- Assumes nothing.
use Prim.Native.Nat.{ℕ, ◌≤◌}
use mathlib.Core.Path.{◌≡◌, sym, ap, ◌∙◌, subst}
use mathlib.Core.Bool.{false}
use mathlib.Core.List.{List, [], ◌∷◌, ◌++◌}
use native.Mathlib.Omega.{arith}
use lib.ListN.{length}
use Rattle.laws.specs.Lists.{among}
use Rattle.framing.specs.Runs.{Ran}
use Rattle.framing.specs.Host as host
use Rattle.framing.specs.Host.{One, Item, Heard, Hosted, HostedScript}
use Rattle.framing.specs.Engine as eng
use Rattle.framing.proofs.Ready.{Ready}
use Rattle.framing.proofs.Call.{called, told}
use Rattle.framing.proofs.Hosts.{Advances, feed_step, cut_script}
use Rattle.association.specs.Record.{standing, broken_over}
use Rattle.association.specs.Events.{Local}
use Rattle.association.specs.Machine.{upper, request_refusal}
use Rattle.association.specs.Calls.{receive_of, local_of}
use Rattle.demand_2.proofs.Unbroken.{fine_over}
use Rattle.demand_2.proofs.Given.{request_known}
use Rattle.demand_2.proofs.Kept.{upper_laws}
use Rattle.demand_2.proofs.Ready.{fine_ready, receive_answered}
use Rattle.demand_2.proofs.Calls.{receive_refusal_so, local_refusal_so, local_used}
use Rattle.demand_3.specs.Calls.{Lent, leaves, fresh, Made, looking, every}
use Rattle.demand_3.specs.Calls.{Given.piece, Given.local}
use Rattle.demand_3.specs.Every.{Each, Held}
use Rattle.demand_3.proofs.Same.{engine, At, hears, does, refused_same}
use Rattle.demand_3.proofs.Demand.{at_fresh}

-- ---- one call

-- what it leaves is what the engine of framing leaves
module _ (s : Lent) (r : At s) where
  used_same : (p : List ℕ) → (receive_of s.assoc s.gather p s.out).answer.told.used ≡ (eng.receive upper (engine s) p).used
  used_same p = ap (λ (h : Heard _ (eng.EngineState upper)). h.used) (hears s host.one p r)

  pub at_received : (p : List ℕ) → At (leaves (receive_of s.assoc s.gather p s.out))
  at_received p =
      subst (Ready upper upper_laws) (sym (ap (λ (h : Heard _ (eng.EngineState upper)). h.next) (hears s host.one p r))) (called upper upper_laws (engine s) p [] r).ready

  pub at_given : (e : Local) → At (leaves (local_of s.assoc s.gather s.out e))
  at_given e =
      subst (Ready upper upper_laws) (sym (ap (λ (h : Ran _ (eng.EngineState upper)). h.end) (does s host.one e r))) (told upper upper_laws (engine s) host.one e r).ready

  abbrev receives : List ℕ → Made
  receives p = record { given = piece p; lent = s; call = receive_of s.assoc s.gather p s.out }

  abbrev takes : Local → Made
  takes e = record { given = local e; lent = s; call = local_of s.assoc s.gather s.out e }

  lent_fine : broken_over s.assoc s.gather ≡ false
  lent_fine = fine_over _ _ 16390 (fine_ready _ _ s.out r)

  -- bytes are never refused
  pub never_refused : (p : List ℕ) → (receives p).call.answer.told.refusal ≡ 0
  never_refused p = receive_refusal_so s.assoc s.gather p s.out ∙ receive_answered s.assoc s.gather s.out r

  pub held_received : (p : List ℕ) → Held (receives p)
  unfolding among
  held_received p =
      let k = called upper upper_laws (engine s) p [] r in
      record {
        lent_whole = lent_fine;
        left_whole = fine_over _ _ 16390 (fine_ready _ _ (receives p).call.out (at_received p));
        refusal = rw (never_refused p);
        at_least = λ h. rw (used_same p) (k.at_least h);
        at_most = rw (used_same p) k.at_most;
      }

  pub held_given : (e : Local) → Held (takes e)
  held_given e =
      let a = s.assoc in
      let q : (takes e).call.answer.told.refusal ≡ request_refusal (standing a) e 16390 = local_refusal_so a s.gather s.out e ∙ refused_same s r e in
      record {
        lent_whole = lent_fine;
        left_whole = fine_over _ _ 16390 (fine_ready _ _ (takes e).call.out (at_given e));
        refusal = rw q (request_known (standing a) e);
        at_least = λ h. absurd (omega arith);
        at_most = rw (local_used a s.gather s.out e) (omega arith);
      }

-- ---- all of them

each_append : {X : Type 0} (P : X → Type 0) (l m : List X) → Each P l → Each P m → Each P (l ++ m)
each_append P [] m h k = k
each_append P (x ∷ l) m h k = (h.0, each_append P l m h.1 k)

-- whatever is looked at
module _ {T : Type 0} (look : Made → List T) where
  pub advances : Advances (looking look) At
  advances =
      record {
        uses = λ s c p r h. (held_received s r p).at_least h;
        hears = λ s c p r. at_received s r p;
        does = λ s c e r. at_given s r e;
      }

  -- what the host's loop is, without its bound: nothing to do, or one call, and then the same with what it did not use
  pub loop : (c : One) (p : List ℕ) (s : Lent) → At s → host.feed (looking look) c p s ≡ host.feed_by (looking look) c (host.feed (looking look) c) p s
  loop c p s r = feed_step (looking look) At advances c p s r

module _ (P : Made → Type 0) (bytes : (s : Lent) (p : List ℕ) → At s → P (record { given = piece p; lent = s; call = receive_of s.assoc s.gather p s.out })) where
  -- a run, given by any host
  pub each_run : {c : One} {s : Lent} {b : List ℕ} {x : Ran Made Lent} → At s → Hosted every c s b x → Each P x.trace × At x.end
  each_run r host.done = (tt, r)
  each_run {c} {s} r (host.offer p t h) =
      let k = each_run (at_received s r p) h in
      ((bytes s p r, k.0), k.1)

  module _ (events : (s : Lent) (e : Local) → At s → P (record { given = local e; lent = s; call = local_of s.assoc s.gather s.out e })) where
    pub each_script : {s : Lent} {is : List (Item One Local)} {x : Ran Made Lent} → At s → HostedScript every s is x → Each P x.trace
    each_script r host.nothing = tt
    each_script {s} r (host.gives c e w) = (events s e r, each_script (at_given s r e) w)
    each_script {s} r (host.feeds c ps {x = x} {y = y} h w) =
        let k = each_run r h in
        each_append P x.trace y.trace k.0 (each_script k.1 w)

module _ (is : List (Item One Local)) (g o : List ℕ) (hg : 16390 ≤ length g) (ho : 16390 ≤ length o) where
  -- the host that cuts is a host, whatever it looks at
  pub a_host : {T : Type 0} (look : Made → List T) → HostedScript (looking look) (fresh g o) is (host.script (looking look) is (fresh g o))
  a_host look = cut_script (looking look) At (advances look) is (fresh g o) (at_fresh g o hg ho)

  pub every_call : {x : Ran Made Lent} → HostedScript every (fresh g o) is x → Each Held x.trace
  every_call w = each_script Held (λ s p r. held_received s r p) (λ s e r. held_given s r e) (at_fresh g o hg ho) w
