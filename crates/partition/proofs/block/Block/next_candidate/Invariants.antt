-- `next_candidate` meets its contract. The invariant: no position before the start is a candidate, those before it within the distance have no value
-- below `known`, and the start has the numbers of its windows.
use Rattle.std.proofs.Common.{◌-◌}
use Rattle.partition.specs.Places.{StandsIn}
use Rattle.partition.proofs.Candidates.{Searched}
use Rattle.partition.proofs.block.Block.next_candidate.Given as goal

abbrev pub invariant-loop-start : goal.invariant-loop-start
invariant-loop-start l = record {
  searched : Searched l.self.width l.self.distance l.self.modulus l.self.bytes.now l.from l.start.at l.known;
  stands : StandsIn l.self l.start;
}

abbrev pub decreases-loop-start : goal.decreases-loop-start
decreases-loop-start l = l.self.end - l.start.at
