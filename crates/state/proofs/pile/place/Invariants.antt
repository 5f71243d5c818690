-- The last k ids are placed: the laws of `Pushing`.
use Rattle.state.proofs.Pushing.{Placing}
use Rattle.state.proofs.pile.place.Given as goal

abbrev pub invariant-loop-k : goal.invariant-loop-k
invariant-loop-k l = Placing l.initial.places l.waiting l.level l.count l.ids l.places l.k
