-- `find_cuts` meets its contract. The invariant: the cuts found, followed by those from a position on, are all cuts, and the positions before it within
-- the distance have no value below `floor`.
use Rattle.std.proofs.Common.{◌-◌}
use Rattle.partition.specs.Places.{values}
use Rattle.partition.specs.Scans.{Floor}
use Rattle.partition.proofs.Search.{Going}
use Rattle.partition.proofs.find_cuts.Given as goal

abbrev pub invariant-loop-cut : goal.invariant-loop-cut
invariant-loop-cut l = record {
  going : Going l.block.width l.block.distance l.block.modulus l.block.bytes.now l.at l.n l.from;
  floor : Floor (values l.block) l.block.distance l.floor l.from;
}

abbrev pub decreases-loop-cut : goal.decreases-loop-cut
decreases-loop-cut l = l.block.end - l.from
