-- The node lies in the string, and its bytes are written: the laws `block_end` and `block_written`.
use Rattle.reply.proofs.Replying.{block_end, block_written}
use Rattle.reply.proofs.node.write_bytes.Goals as goal

pub slice_bounds-write_literal-end : goal.slice_bounds-write_literal-end
slice_bounds-write_literal-end c = block_end c.args.lent.string.now _ _ _ _ c.node_start-start.ensures c.node_length-length.ensures c.requires

pub returns : goal.returns
returns c = block_written c.args.lent.string.now _ _ _ _ c.node_start-start.ensures c.node_length-length.ensures _ _ _ c.write_literal.ensures
