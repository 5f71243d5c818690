use Rattle.std.proofs.Common.{arith}
use Rattle.trail.proofs.Tally.{total-drop, total_end}
use Rattle.trail.proofs.table.size.Goals as goal

pub loop-count-init : goal.loop-count-init
loop-count-init c = omega arith

pub loop-count-preserved : goal.loop-count-preserved
loop-count-preserved c = omega (arith, c.saturating_add-sum.ensures, total-drop c.args.counts.now c.loop-count.count-index (omega arith))

pub returns : goal.returns
returns c = omega (arith, total_end c.args.counts.now c.loop-count.count-index (omega arith))
