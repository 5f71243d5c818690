-- The number of each kind.
use Rattle.message.specs.Words.{with_kind}
use Rattle.message.proofs.Codes.{kind_in_code}
use Rattle.message_writer.proofs.put.word.Goals as goal

pub returns : goal.returns
unfolding with_kind
returns c = rw (kind_in_code c.args.kind)
