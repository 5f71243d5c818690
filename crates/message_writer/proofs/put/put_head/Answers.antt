-- The number of each type.
use Rattle.std.proofs.Common.{◌∙◌}
use Rattle.message_writer.proofs.Writing.{head_stored}
use Rattle.message.proofs.Codes.{form_in_code}
use Rattle.message_writer.proofs.put.put_head.Goals as goal

pub returns : goal.returns
returns c = head_stored _ _ (c.word.ensures ∙ rw (form_in_code c.args.form)) c.put_word.ensures
