-- Head, number, value, one after the other.
use Rattle.message_writer.proofs.Writing.{pair_stored}
use Rattle.message_writer.proofs.put.put_pair.Goals as goal

pub returns : goal.returns
returns c = pair_stored _ _ _ _ c.put_head.ensures c.put_number.ensures c.put_value.ensures
