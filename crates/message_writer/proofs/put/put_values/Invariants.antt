-- What is still to do, done, gives the whole: the record `Filled`.
use Rattle.std.proofs.Common.{◌+◌, ◌*◌, ◌-◌}
use Rattle.rows.specs.Rows.{words_of}
use Rattle.message.specs.Fields.{values_to}
use Rattle.message_writer.specs.Writing.{first_rows}
use Rattle.message_writer.proofs.Writing.{Filled}
use Rattle.message_writer.proofs.put.put_values.Given as goal

abbrev pub invariant-loop-i : goal.invariant-loop-i
invariant-loop-i l = Filled l.initial.buffer l.buffer l.from (l.from + l.i * 3) (values_to (first_rows (l.count - l.i) l.i (words_of l.table))) (values_to (first_rows l.count 0 (words_of l.table)))
