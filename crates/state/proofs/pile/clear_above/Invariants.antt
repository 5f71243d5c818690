-- The places up to `above` are those that are kept: the laws of `Keeping`.
use Rattle.state.proofs.Keeping.{Clearing}
use Rattle.state.proofs.pile.clear_above.Given as goal

abbrev pub invariant-loop-above : goal.invariant-loop-above
invariant-loop-above l = Clearing l.initial.cleared l.waiting l.cleared l.above
