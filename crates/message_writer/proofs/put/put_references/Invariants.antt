-- What is still to do, done, gives the whole: the record `Filled`.
use Rattle.std.proofs.Common.{◌+◌, drop}
use Rattle.message.specs.Words.{reference_word}
use Rattle.message.specs.Fields.{many_to}
use Rattle.message_writer.specs.Writing.{paired}
use Rattle.message_writer.proofs.Writing.{Filled}
use Rattle.message_writer.proofs.put.put_references.Given as goal

abbrev pub invariant-loop-i : goal.invariant-loop-i
invariant-loop-i l = Filled l.initial.buffer l.buffer l.from (l.from + l.i) (many_to reference_word (paired (drop l.i l.indexes) (drop l.i l.counts))) (many_to reference_word (paired l.indexes l.counts))
