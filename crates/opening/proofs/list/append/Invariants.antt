-- What is written, and the rest of the list, are together all: the laws of `Appending`.
use Rattle.opening.proofs.Keeping.{Appending}
use Rattle.opening.proofs.list.append.Given as goal

abbrev pub invariant-loop-k : goal.invariant-loop-k
invariant-loop-k l = Appending l.new l.initial.table l.table l.from l.n l.k
