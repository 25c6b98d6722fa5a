-- The reader has come to b, and reading on from there gives what reading the whole gives.
use Rattle.std.proofs.Common.{◌≡◌, Some, drop}
use Rattle.names.specs.Private.OnePass.{reads}
use Rattle.names.specs.declared.name.Part.TheVariants.{Start}
use Rattle.names.proofs.name.name_ok.Given as goal

abbrev pub invariant-loop-b : goal.invariant-loop-b
invariant-loop-b l = reads (Some l.part) (drop l.b-index l.s) ≡ reads (Some Start) l.s
