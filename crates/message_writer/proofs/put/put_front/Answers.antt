-- Head and four numbers, one after the other.
use Rattle.message_writer.proofs.Writing.{front_stored}
use Rattle.message_writer.proofs.put.put_front.Goals as goal

pub returns : goal.returns
returns c = front_stored _ _ _ _ _ c.put_head.ensures c.put_number.ensures c.put_number-2.ensures c.put_number-3.ensures c.put_number-4.ensures
