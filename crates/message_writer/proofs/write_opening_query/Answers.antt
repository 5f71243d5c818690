-- The words stored one after the other are the message: the law `opening_query_stored`.
use Rattle.message.specs.Messages.{opening_query}
use Rattle.message_writer.proofs.Writing.{written_full, written_fit, opening_query_size, opening_query_stored}
use Rattle.message_writer.proofs.write_opening_query.Goals as goal

pub returns-then-buffer-lt2 : goal.returns-then-buffer-lt2
returns-then-buffer-lt2 c = written_full (opening_query c.args.session) _ (rw (← opening_query_size c.args.session) c.if-buffer-lt2.true)

pub returns : goal.returns
returns c = written_fit (opening_query c.args.session) _ _ 2 (opening_query_size c.args.session) c.if-buffer-lt2.false (opening_query_stored _ c.put_head.ensures c.put_end.ensures)
