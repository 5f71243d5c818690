-- `equal_until` meets its contract. The invariant: the bytes passed are equal.
use Rattle.partition.specs.Runs.{EqualBytes}
use Rattle.partition.proofs.run.equal_until.Given as goal

abbrev pub invariant-loop-i : goal.invariant-loop-i
invariant-loop-i l = EqualBytes l.bytes l.from l.i
