-- The number of what is read: the law `type_answer_lem`.
use Rattle.std.specs.Prelude.{None, Some}
use Rattle.message.proofs.Codes.{form_in_code}
use Rattle.message.proofs.Answers.{type_answer_lem}
use Rattle.message.proofs.reader.message_type.Goals as goal

pub returns-in_default : goal.returns-in_default
returns-in_default c = type_answer_lem _ None c.in_default.ensures

pub returns : goal.returns
returns c = rw (form_in_code c.form.result, c.form.ensures) (type_answer_lem _ (Some c.in-Some.read) c.in-Some.ensures)
