use Rattle.std.proofs.Common.{arith, refl}
use Rattle.trail.proofs.Fill.{fill_next, copied}
use Rattle.trail.proofs.Tally.{count_le}
use Rattle.trail.proofs.table.narrow.Goals as goal

pub loop-row-init : goal.loop-row-init
loop-row-init c = refl

pub overflow_cast-bytes : goal.overflow_cast-bytes
overflow_cast-bytes c = omega (arith, count_le c.args.counts.now c.loop-row.row (omega arith))

pub loop-row-preserved : goal.loop-row-preserved
loop-row-preserved c = fill_next _ _ 32 _ (omega arith) (omega arith) c.loop-row.invariant

pub returns : goal.returns
returns c = copied _ _ c.loop-row.row (omega arith) (omega arith) c.loop-row.invariant
