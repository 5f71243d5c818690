-- The words stored one after the other are the message: the law `pair_written`.
use Rattle.message_writer.proofs.Writing.{pair_full, pair_written}
use Rattle.message_writer.proofs.write_pair.Goals as goal

pub returns-then-buffer-lt6 : goal.returns-then-buffer-lt6
returns-then-buffer-lt6 c = pair_full _ _ _ _ _ c.if-buffer-lt6.true

pub returns : goal.returns
returns c = pair_written c.args.session c.args.level c.args.id _ c.if-buffer-lt6.false c.put_pair.ensures c.put_end.ensures
