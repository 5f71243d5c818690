use Rattle.std.proofs.Common.{arith, below_more}
use Rattle.trail.proofs.links.leaving.Goals as goal

pub returns-then-previous-row : goal.returns-then-previous-row
returns-then-previous-row c = record { on = omega arith; here = λ h. c.if-previous-row.true; none = c.loop-row.invariant }

pub loop-row-preserved : goal.loop-row-preserved
loop-row-preserved c = below_more _ _ c.loop-row.invariant (λ g h e. c.if-previous-row.false e)

pub returns : goal.returns
returns c = record { on = c.requires; here = λ h. absurd (omega arith); none = λ j h. c.loop-row.invariant j (omega arith) }
