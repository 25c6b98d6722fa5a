-- `measure`: by the side's items.
use Rattle.writing_associate.proofs.ContextLaws.{measure_runs, measure_answers}
use Rattle.writing_associate.proofs.contexts.measure.Goals as goal

pub returns-in-Request : goal.returns-in-Request
returns-in-Request c = rw c.in-Request.is (measure_runs c.args.base c.runs_size.result c.args.rs.now c.runs_size.ensures)

pub returns-in-Accept : goal.returns-in-Accept
returns-in-Accept c = rw c.in-Accept.is (measure_answers c.args.base c.names_size.result c.args.rs.now c.names_size.ensures)
