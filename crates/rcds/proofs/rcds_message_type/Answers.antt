-- What the reading of the message promises, of its answer as a number.
use Rattle.std.proofs.Common.{arith}
use Rattle.message.specs.Messages.{parse}
use Rattle.message.proofs.Answers.{type_answer_low}
use Rattle.rcds.proofs.rcds_message_type.Goals as goal

pub returns : goal.returns
returns c = omega (arith, c.answer.ensures, c.message_type.ensures, type_answer_low (parse c.args.message.now))
