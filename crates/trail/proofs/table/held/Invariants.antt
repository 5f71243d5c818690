-- What was added up and what the rows ahead hold make the whole tally; no sum passes the total of 32.
use Rattle.std.proofs.Common.{◌≡◌, ◌+◌}
use Rattle.trail.proofs.Tally.{held_from}
use Rattle.trail.proofs.table.held.Given as goal

abbrev pub invariant-loop-row : goal.invariant-loop-row
invariant-loop-row l = l.sum + held_from l.id l.column l.counts l.row ≡ held_from l.id l.column l.counts 0
