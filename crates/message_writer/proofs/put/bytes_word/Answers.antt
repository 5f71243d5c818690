-- The four bytes are one number.
use Rattle.std.proofs.Common.{◌∙◌, ap, arith}
use Rattle.message.specs.Words.{with_kind, word_of_bytes}
use Rattle.message_writer.proofs.put.bytes_word.Goals as goal

pub returns : goal.returns
unfolding word_of_bytes
returns c = c.word.ensures ∙ ap (with_kind 5) (omega arith)
