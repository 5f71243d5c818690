-- The law `opening_written`.
use Rattle.reply.proofs.Replying.{opening_written}
use Rattle.reply.proofs.node.opening.Goals as goal

pub returns : goal.returns
returns c = opening_written _ _ _ _ c.node_id-root.ensures c.write_opening.ensures
