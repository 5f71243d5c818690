-- With the mark, and without.
use Rattle.rcds.specs.Trails.{marked}
use Rattle.rcds.proofs.ids.mark.Goals as goal

pub returns-then-only : goal.returns-then-only
unfolding marked
returns-then-only c = rw c.if-only.true

pub returns : goal.returns
unfolding marked
returns c = rw c.if-only.false
