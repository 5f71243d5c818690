-- The pairs written and those to come are together all: the record `Writing`.
use Rattle.crossing.proofs.Crossing.{Writing}
use Rattle.crossing.proofs.write.Given as goal

abbrev pub invariant-loop-place : goal.invariant-loop-place
invariant-loop-place l = Writing l.nodes l.span.string l.span.start l.span.size l.initial.table l.table l.place l.at
