-- The strata of the shingles passed: the laws of `Turns`.
use Rattle.strata.proofs.Turns.{Filling}
use Rattle.strata.proofs.filling.fill.Given as goal

abbrev pub invariant-loop-k : goal.invariant-loop-k
invariant-loop-k l = Filling l.shingles l.n l.k l.strata
