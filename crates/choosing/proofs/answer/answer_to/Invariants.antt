-- The records of the site from the place on, with the result so far, say what all of them say.
use Rattle.std.proofs.Common.{map, drop}
use Rattle.sheets.specs.Private.OneRecord.{run_context}
use Rattle.choosing.specs.Choice.{liked_of}
use Rattle.choosing.proofs.AnswerLaws.{Looking}
use Rattle.choosing.proofs.answer.answer_to.Given as goal

abbrev pub invariant-loop-liked : goal.invariant-loop-liked
invariant-loop-liked l = Looking (run_context l.run) (map liked_of l.site) l.result (map liked_of (drop l.liked-index l.site))
