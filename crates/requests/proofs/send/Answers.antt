-- Refused at the gate, or as the writer lets it go.
use borrow.Author.Rules.{rules}
use Rattle.requests.proofs.RequestLaws.{shut_at, finish_at}
use Rattle.requests.proofs.send.Goals as goal

pub returns-in-Ok : goal.returns-in-Ok
returns-in-Ok c = finish_at _ _ _ _ _ c.in-Ok.ensures _ _ _ c.write_data.ensures c.finish.ensures

pub returns-in-Err : goal.returns-in-Err
returns-in-Err c = search (rules, shut_at)
