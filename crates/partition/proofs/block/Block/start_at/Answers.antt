-- `start_at` meets its contract.
use Rattle.partition.proofs.Running.{stands}
use Rattle.partition.proofs.block.Block.start_at.Goals as goal

pub returns-clause-stands : goal.returns-clause-stands
returns-clause-stands c = stands _ _ _ _ _ c.saturating_sub-last.ensures c.number-x.ensures c.carried-number.ensures
