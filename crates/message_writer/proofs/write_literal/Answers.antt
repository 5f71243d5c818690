-- The words stored one after the other are the message: the law `literal_stored`.
use Rattle.std.proofs.Common.{arith}
use Rattle.message.specs.Messages.{literal}
use Rattle.message_writer.proofs.Writing.{written_full, written_fit, literal_size, literal_stored}
use Rattle.message_writer.proofs.write_literal.Goals as goal

pub returns-then-buffer-size : goal.returns-then-buffer-size
returns-then-buffer-size c =
    let a = c.args in
    written_full (literal a.session a.level a.id a.text.now) _ (omega (arith, literal_size a.session a.level a.id a.text.now))

pub returns : goal.returns
returns c =
    let a = c.args in
    written_fit (literal a.session a.level a.id a.text.now) _ _ _ (omega (arith, literal_size a.session a.level a.id a.text.now)) c.if-buffer-size.false
    (literal_stored a.session a.level a.id _ a.text.now (omega arith) c.put_pair.ensures c.put_text.ensures c.put_end.ensures)
