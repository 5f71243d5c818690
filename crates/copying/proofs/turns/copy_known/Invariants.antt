-- What is settled from each turn on is what is settled from the start.
use Rattle.copying.proofs.Settling.{Turning}
use Rattle.copying.proofs.turns.copy_known.Given as goal

abbrev pub invariant-loop-below : goal.invariant-loop-below
invariant-loop-below l = Turning l.string l.nodes l.size l.initial.output l.built l.waiting l.pile l.output l.at l.below
