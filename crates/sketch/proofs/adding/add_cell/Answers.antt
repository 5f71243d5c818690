use Rattle.std.proofs.Common.{arith}
use Rattle.sketch.proofs.Cells.{rows_start, rows_next, rows_end}
use Rattle.sketch.proofs.adding.add_cell.Goals as goal

pub loop-m-init : goal.loop-m-init
loop-m-init c = rows_start _ _ c.args.values.now

pub loop-m-preserved : goal.loop-m-preserved
loop-m-preserved c = rows_next _ _ _ (omega arith) c.loop-m.invariant c.add_row.ensures

pub returns : goal.returns
returns c = rows_end _ _ _ (omega arith) c.loop-m.invariant
