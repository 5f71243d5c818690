-- `first_low` meets its contract. The invariant: the value at `at` falls below all before it, as far as j, and x is the running value at j. Both begin at
-- the start.
use Rattle.std.proofs.Common.{◌≡◌, ◌+◌, ◌-◌, ◌<◌}
use Rattle.partition.specs.Places.{values}
use Rattle.partition.proofs.Running.{Runs}
use Rattle.partition.proofs.Steps.{Falling}
use Rattle.partition.proofs.block.Block.first_low.Given as goal

abbrev pub invariant-loop-j : goal.invariant-loop-j
invariant-loop-j l = record {
  falling : Falling (values l.self) l.self.distance l.initial.at l.at l.j;
  inside : l.at < l.self.end;
  reach : l.until ≡ l.at + l.self.distance;
  runs : Runs l.self.width l.self.bytes.now l.initial.at l.j l.x;
  value : l.value ≡ values l.self l.at;
}

abbrev pub decreases-loop-j : goal.decreases-loop-j
decreases-loop-j l = l.self.end + l.self.distance - l.j
