-- A log beside any engine, with room for so many records: a call that finds no room for one more is refused, whether or not it would act.
use Rattle.std.specs.Prelude.{ℕ, Bool, true, false, List, [], ◌++◌, map, length, ltb}
use Rattle.framing.specs.Runs.{Ran, stop}
use Rattle.framing.specs.Host.{Calls, Heard}

module _ {C E T L : Type 0} (D : Calls C E T) (note : T → L) (room : ℕ) where
  pub record Logged : Type 0 where
    pub own : D.S
    pub log : List L

  -- the engine after a call of which l was seen, with a record for each
  abbrev pub noting : D.S → List L → List T → Logged
  noting s log l = record { own = s; log = log ++ map note l }

  abbrev pub hear_by : Bool → Logged → C → List ℕ → Heard T Logged
  hear_by false x c p = record { used = 0; seen = []; next = x }
  hear_by true x c p = let a = D.receive x.own c p in record { used = a.used; seen = a.seen; next = noting a.next x.log a.seen }

  abbrev pub do_by : Bool → Logged → C → E → Ran T Logged
  do_by false x c e = stop x
  do_by true x c e = let a = D.on_event x.own c e in record { trace = a.trace; end = noting a.end x.log a.trace }

  abbrev pub logged : Calls C E T
  logged =
      record {
        S = Logged;
        receive = λ x c p. hear_by (ltb (length x.log) room) x c p;
        on_event = λ x c e. do_by (ltb (length x.log) room) x c e;
      }
