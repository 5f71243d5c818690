-- `last_low` meets its contract. The invariant is its own claim for the positions passed, and x is the running value at j.
use Rattle.partition.specs.Places.{values, LastLow}
use Rattle.partition.proofs.Running.{Runs}
use Rattle.partition.proofs.block.Block.last_low.Given as goal

abbrev pub invariant-loop-j : goal.invariant-loop-j
invariant-loop-j l = LastLow (values l.self) l.m l.from l.j l.last × Runs l.self.width l.self.bytes.now l.from l.j l.x
