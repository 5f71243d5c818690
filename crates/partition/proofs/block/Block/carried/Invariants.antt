-- `carried` meets its contract: read afresh, or the running value as far as i.
use Rattle.partition.proofs.Running.{Runs}
use Rattle.partition.proofs.block.Block.carried.Given as goal

abbrev pub invariant-loop-i : goal.invariant-loop-i
invariant-loop-i l = Runs l.self.width l.self.bytes.now l.j l.i l.number
