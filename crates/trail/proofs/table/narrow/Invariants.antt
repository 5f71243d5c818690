-- The places filled so far are the front of the counts, and no count is above the sum.
use Rattle.std.proofs.Common.{◌≡◌, ◌++◌, ◌-◌, take, replicate}
use Rattle.trail.proofs.table.narrow.Given as goal

abbrev pub invariant-loop-row : goal.invariant-loop-row
invariant-loop-row l = l.bytes ≡ take l.row l.counts ++ replicate (32 - l.row) 0
