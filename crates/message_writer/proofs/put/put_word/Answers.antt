-- The four bytes are one word stored: the laws `stored_bytes` and `stored_out`.
use Rattle.std.proofs.Common.{◌∙◌}
use Rattle.message_writer.proofs.Writing.{stored_bytes, stored_out}
use Rattle.message_writer.proofs.put.put_word.Goals as goal

pub returns-then-buffer-k : goal.returns-then-buffer-k
returns-then-buffer-k c = stored_out _ _ _ c.if-buffer-k.true

pub returns : goal.returns
returns c = stored_bytes _ _ _ _ c.if-buffer-k.false (c.copy_from_slice.ensures.after ∙ c.to_be_bytes.ensures)
