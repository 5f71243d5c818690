-- The estimate from each turn on is the whole estimate: the laws of `Summing`.
use Rattle.strata.proofs.Summing.{Summing}
use Rattle.strata.proofs.estimating.sum.Given as goal

abbrev pub invariant-loop-i : goal.invariant-loop-i
invariant-loop-i l = Summing l.levels l.theirs l.own l.shingles l.sum l.i
