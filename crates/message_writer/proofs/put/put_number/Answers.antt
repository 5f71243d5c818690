-- The word of a number.
use Rattle.message_writer.proofs.Writing.{number_stored}
use Rattle.message_writer.proofs.put.put_number.Goals as goal

pub returns : goal.returns
returns c = number_stored _ c.word.ensures c.put_word.ensures
