-- The PDVs so far are good and took `taken` bytes.
use Rattle.pdvs.specs.Data.{pdvs}
use Rattle.pdvs.proofs.DataLaws.{Judging}
use Rattle.pdvs.proofs.pdvs_ok.Given as goal

abbrev pub invariant-loop-pdv : goal.invariant-loop-pdv
invariant-loop-pdv l = record {
  can : (goal.iterator-loop-pdv).can_next l.pdv-iterator;
  ends : (goal.iterator-loop-pdv).is_finite l.pdv-iterator;
  judging : Judging l.most l.s l.taken (pdvs l.pdv-iterator.0.now);
}
