-- The words stored one after the other are the message: the law `opening_stored`.
use Rattle.std.proofs.Common.{◌*◌, arith}
use Rattle.message.specs.Messages.{opening}
use Rattle.rows.specs.Rows.{words_of}
use Rattle.message_writer.specs.Writing.{first_rows}
use Rattle.message_writer.proofs.Writing.{written_full, written_fit, opening_size, opening_stored}
use Rattle.message_writer.proofs.write_opening.Goals as goal

pub returns-then-most-q : goal.returns-then-most-q
returns-then-most-q c = written_full (opening c.args.session c.args.rule c.args.w c.args.p c.args.levels c.args.m c.args.q c.args.length c.args.root (first_rows (c.args.q * 3 * 5) 0 (words_of c.args.cells.now))) _ (rw (← opening_size c.args.session c.args.rule c.args.w c.args.p c.args.levels c.args.m c.args.q c.args.length c.args.root (words_of c.args.cells.now)) (omega arith))

pub returns-then-words-size : goal.returns-then-words-size
returns-then-words-size c = written_full (opening c.args.session c.args.rule c.args.w c.args.p c.args.levels c.args.m c.args.q c.args.length c.args.root (first_rows (c.args.q * 3 * 5) 0 (words_of c.args.cells.now))) _ (rw (← opening_size c.args.session c.args.rule c.args.w c.args.p c.args.levels c.args.m c.args.q c.args.length c.args.root (words_of c.args.cells.now)) c.if-words-size.true)

pub returns : goal.returns
returns c = written_fit (opening c.args.session c.args.rule c.args.w c.args.p c.args.levels c.args.m c.args.q c.args.length c.args.root (first_rows (c.args.q * 3 * 5) 0 (words_of c.args.cells.now))) _ _ _ (opening_size c.args.session c.args.rule c.args.w c.args.p c.args.levels c.args.m c.args.q c.args.length c.args.root (words_of c.args.cells.now)) c.if-words-size.false (opening_stored c.args.session c.args.rule c.args.w c.args.p c.args.levels c.args.m c.args.q c.args.length c.args.root (words_of c.args.cells.now) c.put_front.ensures c.put_middle.ensures c.put_values.ensures c.put_end.ensures)
