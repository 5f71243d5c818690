-- `last_before` meets its contract: the position just before the start is the last of its kind, or all positions from `to` up to the start are above m.
use Rattle.partition.specs.Places.{values}
use Rattle.partition.proofs.Steps.{Above}
use Rattle.partition.proofs.block.Block.last_before.Given as goal

abbrev pub invariant-loop-to : goal.invariant-loop-to
invariant-loop-to l = Above (values l.self) l.m l.to l.start.at

abbrev pub decreases-loop-to : goal.decreases-loop-to
decreases-loop-to l = l.to
