-- `write_plain`: an event with contents, no room, or the ten bytes.
use Rattle.requests.proofs.RequestLaws.{plain_laws}
use Rattle.requests.proofs.write_plain.Goals as goal

pub returns-then-carries : goal.returns-then-carries
returns-then-carries c = search plain_laws

pub returns-then-out-ten_len : goal.returns-then-out-ten_len
returns-then-out-ten_len c = search plain_laws

pub returns : goal.returns
returns c = search plain_laws
