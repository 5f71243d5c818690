-- What is written, and what is kept of the rest, are together all: the laws of `Keeping`.
use Rattle.opening.proofs.Keeping.{Keeping}
use Rattle.opening.proofs.list.keep.Given as goal

abbrev pub invariant-loop-read : goal.invariant-loop-read
invariant-loop-read l = Keeping l.gone l.initial.table l.table l.n l.written l.read
