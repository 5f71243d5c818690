-- What is counted so far and what is still to be counted make the whole number (`Counting`); each call of the search adds the trails
-- that start with a smaller id at this step.
use Rattle.trail.proofs.Ranking.{Counting}
use Rattle.trail.proofs.rank.rank.Given as goal

abbrev pub invariant-loop-i : goal.invariant-loop-i
invariant-loop-i l = Counting l.ids l.table.previous l.table.own l.unused l.last l.skip l.i
