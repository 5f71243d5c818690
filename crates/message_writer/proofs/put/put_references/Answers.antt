use Rattle.std.proofs.Common.{arith}
use Rattle.message_writer.proofs.Writing.{filled_more, filled_done, reference_more, no_more, filled_first}
use Rattle.message_writer.proofs.put.put_references.Goals as goal

pub loop-i-init : goal.loop-i-init
loop-i-init c = filled_first _ _ _

pub loop-i-preserved : goal.loop-i-preserved
loop-i-preserved c =
    filled_more _ (reference_more c.args.indexes.now c.args.counts.now c.loop-i.i _ (omega arith) c.word.ensures) (omega arith) c.loop-i.invariant c.put_word.ensures

pub shape_of-buffer : goal.shape_of-buffer
shape_of-buffer c = c.loop-i.invariant.same

pub returns : goal.returns
returns c = filled_done (no_more c.args.indexes.now c.args.counts.now c.loop-i.i (omega arith)) c.loop-i.invariant
