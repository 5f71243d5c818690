-- What is still to do, done, gives the whole: the record `Filled`.
use Rattle.std.proofs.Common.{◌+◌, ◌*◌, drop}
use Rattle.message.specs.Fields.{text_to}
use Rattle.message_writer.proofs.Writing.{Filled}
use Rattle.message_writer.proofs.put.put_text.Given as goal

abbrev pub invariant-loop-k : goal.invariant-loop-k
invariant-loop-k l = Filled l.initial.buffer l.buffer l.from (l.from + l.k) (text_to (drop (l.k * 3) l.text)) (text_to l.text)
