-- The law `inside_is`.
use Rattle.node_table.proofs.Entries.{inside_is}
use Rattle.node_table.proofs.lies_inside.Goals as goal

pub returns : goal.returns
returns c = inside_is _ _ _ _ _ c.node_start-start.ensures c.node_length-length.ensures
