-- So many are found before entry k: the record `Counting`.
use Rattle.crossing.proofs.Crossing.{Counting}
use Rattle.crossing.proofs.count.Given as goal

abbrev pub invariant-loop-k : goal.invariant-loop-k
invariant-loop-k l = Counting l.nodes l.span.string l.span.start l.span.size l.k l.found
