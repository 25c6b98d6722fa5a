-- For the private functions: what is told once an event is done, and where there was none.
use Rattle.std.specs.Prelude.{ℕ, ◌≡◌, cond, List, length}
use Rattle.octets.specs.Put.{front}
use Rattle.numbers.specs.Refusals.{NOT-REFUSED}
use Rattle.framing.specs.Reference.{Reaction}
use Rattle.association.specs.declared.Assoc.{Assoc}
use Rattle.association.specs.declared.Answer.{Answer}
use Rattle.association.specs.Record.{Standing, standing, with_gathered}
use Rattle.association.specs.Machine.{Seen}

-- a reaction, at which u bytes were used, with a PDU of n bytes
unfoldable pub tell_of : Reaction Standing Seen → ℕ → ℕ → Answer
tell_of x u n =
    record {
      told = record { refusal = NOT-REFUSED; action = x.told.action; used = u; sent = length x.sends; shown = cond x.shows n 0 };
      assoc = with_gathered x.next 0;
    }

-- it was told, and its bytes stand at the start of the output
pub record Done (x : Reaction Standing Seen) (o : List ℕ) (u n : ℕ) (r : Answer) (o' : List ℕ) : Type 0 where
  pub answer : r ≡ tell_of x u n
  pub out : o' ≡ front o x.sends

-- nothing happened but that n bytes are gathered and u were used
unfoldable pub quiet_of : Assoc → ℕ → ℕ → Answer
quiet_of a n u = record { told = record { refusal = NOT-REFUSED; action = 0; used = u; sent = 0; shown = 0 }; assoc = with_gathered (standing a) n }
