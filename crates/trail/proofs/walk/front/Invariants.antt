-- The places filled so far are the front of the ids that the last k rows lead to.
use Rattle.std.proofs.Common.{◌≡◌, ◌++◌, ◌-◌, take, drop, replicate}
use Rattle.trail.specs.Search.{led}
use Rattle.trail.proofs.walk.front.Given as goal

abbrev pub invariant-loop-i : goal.invariant-loop-i
invariant-loop-i l = (l.last ≡ drop (32 - l.k) l.rows) × (l.ids ≡ take l.i (led l.own l.last) ++ replicate (32 - l.i) 0)
