-- Three words, one after the other: the law `value_stored`.
use Rattle.message_writer.proofs.Writing.{value_stored}
use Rattle.message_writer.proofs.put.put_value.Goals as goal

pub returns : goal.returns
returns c = value_stored _ c.word.ensures c.word-2.ensures c.word-3.ensures c.put_word.ensures c.put_word-2.ensures c.put_word-3.ensures
