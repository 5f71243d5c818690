-- The search meets its contract. Going on from an id, it answers for the whole search (`Turning`): a turn takes the row of the
-- least id left, whose trails the call below answers for, and goes on above it. The measure is the number of unused pairs.
use Rattle.trail.proofs.Turn.{Turning, room}
use Rattle.trail.proofs.walk.+search.Given as goal

abbrev pub decreases-search : goal.decreases-search
decreases-search l = l.k

abbrev pub invariant-loop-next : goal.invariant-loop-next
invariant-loop-next l = Turning l.table.previous l.table.own l.counts l.top l.k l.v l.skip l.left l.next

abbrev pub decreases-loop-next : goal.decreases-loop-next
decreases-loop-next l = room l.table.own l.top l.next
