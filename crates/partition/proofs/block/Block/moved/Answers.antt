-- `moved` meets its contract.
use Rattle.std.proofs.Common.{refl}
use Rattle.partition.proofs.Running.{stands}
use Rattle.partition.proofs.block.Block.moved.Goals as goal

pub returns-clause-stands_2 : goal.returns-clause-stands_2
returns-clause-stands_2 c = stands _ _ _ _ _ refl c.carried-x.ensures c.carried-number.ensures
