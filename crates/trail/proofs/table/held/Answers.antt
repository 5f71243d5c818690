use Rattle.std.proofs.Common.{arith}
use Rattle.trail.proofs.Tally.{held_take, held_skip, held_end, held_le, held_all}
use Rattle.trail.proofs.table.held.Goals as goal
use Rattle.trail.proofs.table.held.Goals.{then-other-id, else-other-id}

pub overflow_add-sum : goal.overflow_add-sum
overflow_add-sum c = omega (arith, held_take c.args.column.now c.args.counts.now c.args.id c.loop-row.row (omega arith) (omega arith) c.if-other-id.true, held_le c.args.column.now c.args.counts.now c.args.id)

pub loop-row-preserved : goal.loop-row-preserved
loop-row-preserved c =
    let take = held_take c.args.column.now c.args.counts.now c.args.id c.loop-row.row (omega arith) (omega arith) in
    let skip = held_skip c.args.column.now c.args.counts.now c.args.id c.loop-row.row (omega arith) (omega arith) in
    elim c.if-other-id.branch [
      | then-other-id w ↦ omega (arith, take w.if-other-id.true)
      | else-other-id w ↦ omega (arith, skip w.if-other-id.false)
    ]

pub returns : goal.returns
returns c = omega (arith, held_end c.args.column.now c.args.counts.now c.args.id c.loop-row.row (omega arith), held_all c.args.column.now c.args.counts.now c.args.id)
