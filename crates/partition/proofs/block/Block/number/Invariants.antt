-- `number` meets its contract. The invariant: going on from x with the bytes that are left gives the window's number, and x is below 65,521.
use Rattle.std.proofs.Common.{◌≡◌, ◌+◌, ◌-◌, ◌%◌, ◌<◌, map, take, drop}
use Rattle.spread.specs.Spreading.{spread_of}
use Rattle.partition.specs.Cuts.{number_from, window_at}
use Rattle.partition.proofs.block.Block.number.Given as goal

abbrev pub invariant-loop-j : goal.invariant-loop-j
invariant-loop-j l = record {
  small : l.x < 65521;
  rest : number_from l.x (take (l.at + l.self.width - l.j) (drop l.j (map spread_of l.self.bytes.now))) % 65521
      ≡ window_at l.self.width l.self.bytes.now l.at;
}
