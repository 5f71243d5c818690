-- The best row so far and its id, or none and top (`Scanned`), one row that leaves v further each turn.
use Rattle.std.proofs.Common.{◌≡◌, ◌<◌, ◌-◌, get_or}
use Rattle.trail.proofs.Scan.{Scanned}
use Rattle.trail.proofs.walk.least.Given as goal

abbrev pub invariant-loop-row : goal.invariant-loop-row
invariant-loop-row l = Scanned l.table.previous l.table.own l.counts l.v l.low l.top l.row l.best l.limit × (l.row < 32 → get_or l.table.previous l.row 0 ≡ l.v)

abbrev pub decreases-loop-row : goal.decreases-loop-row
decreases-loop-row l = 32 - l.row
