-- `past_run` meets its contract: the start as it is, or moved along equal bytes.
use Rattle.std.proofs.Common.{arith}
use Rattle.partition.proofs.Level.{level}
use Rattle.partition.proofs.block.Block.past_run.Goals as goal

pub returns-clause-level : goal.returns-clause-level
returns-clause-level c = rw c.moved.ensures.at_value (level _ _ _ _ _ _ _ (omega arith) (omega arith) (omega arith) (omega arith) (omega arith) c.equal_until-until.ensures.equal_bytes)
