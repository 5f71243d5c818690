-- None of the linked rows passed is missed, and so none of the rows passed that leave their id (`Clear`).
use Rattle.std.proofs.Common.{◌≡◌, ℕ, ◌<◌, ◌-◌, get_or}
use Rattle.trail.specs.Search.{Following, Clear}
use Rattle.trail.proofs.reach.met.Given as goal

abbrev pub invariant-loop-row : goal.invariant-loop-row
invariant-loop-row l = (id : ℕ) → Following l.table.previous id 0 l.from → Clear l.table.previous l.counts l.marked id l.row × (l.row < 32 → get_or l.table.previous l.row 0 ≡ id)

abbrev pub decreases-loop-row : goal.decreases-loop-row
decreases-loop-row l = 32 - l.row
