-- Each turn fills one row of the three columns; at the end they are the table of the order's pairs.
use Rattle.trail.proofs.Fill.{Chaining}
use Rattle.trail.proofs.rank.chain.Given as goal

abbrev pub invariant-loop-i : goal.invariant-loop-i
invariant-loop-i l = Chaining l.ids l.previous l.own l.count l.last l.i
