-- The sum so far and the counts ahead make the whole total, as far as 33.
use Rattle.std.proofs.Common.{◌≡◌, ◌+◌, min, drop}
use Rattle.trail.specs.Trails.{total}
use Rattle.trail.proofs.table.size.Given as goal

abbrev pub invariant-loop-count : goal.invariant-loop-count
invariant-loop-count l = min 33 (l.sum + total (drop l.count-index l.counts)) ≡ min 33 (total l.counts)
