-- The word of an end.
use Rattle.message_writer.proofs.Writing.{end_stored}
use Rattle.message_writer.proofs.put.put_end.Goals as goal

pub returns : goal.returns
returns c = end_stored _ c.word.ensures c.put_word.ensures
