use Rattle.std.proofs.Common.{arith}
use Rattle.rows.specs.Rows.{words_of}
use Rattle.message_writer.proofs.Writing.{filled_done, filled_start, filled_row, no_row}
use Rattle.message_writer.proofs.put.put_values.Goals as goal

pub loop-i-init : goal.loop-i-init
loop-i-init c = filled_start _ _ _ _

pub loop-i-preserved : goal.loop-i-preserved
loop-i-preserved c = filled_row _ _ _ _ _ _ _ (omega arith) c.load.ensures c.loop-i.invariant c.put_value.ensures

pub shape_of-buffer : goal.shape_of-buffer
shape_of-buffer c = c.loop-i.invariant.same

pub returns : goal.returns
returns c = filled_done (no_row c.args.count c.loop-i.i (words_of c.args.table.now) (omega arith)) c.loop-i.invariant
