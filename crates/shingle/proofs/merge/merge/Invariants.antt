-- What is written and the stretches still to come are together the whole: the laws of `Merging`.
use Rattle.shingle.proofs.Merging.{Merging}
use Rattle.shingle.proofs.merge.merge.Given as goal

abbrev pub invariant-loop-read : goal.invariant-loop-read
invariant-loop-read l = Merging l.initial.table l.table l.n l.e l.count l.written l.read
