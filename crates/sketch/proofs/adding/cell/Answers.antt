-- The place by definition, below 192 since q is at most 64.
use Rattle.std.proofs.Common.{arith}
use Rattle.sketch.proofs.Cells.{cell_is}
use Rattle.sketch.proofs.adding.cell.Goals as goal

pub returns : goal.returns
returns c = rw c.from.ensures (cell_is _ _ _ _ (omega arith) (omega arith) (omega arith) c.tag.ensures)
