-- Three numbers and a value, one after the other.
use Rattle.message_writer.proofs.Writing.{middle_stored}
use Rattle.message_writer.proofs.put.put_middle.Goals as goal

pub returns : goal.returns
returns c = middle_stored _ _ _ _ c.put_number.ensures c.put_number-2.ensures c.put_number-3.ensures c.put_value.ensures
