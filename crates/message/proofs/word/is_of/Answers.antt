-- A kind's number is what the code has for it.
use Rattle.message.specs.Words.{kind_of}
use Rattle.message.proofs.Codes.{kind_in_code}
use Rattle.message.proofs.word.is_of.Goals as goal

pub returns : goal.returns
unfolding kind_of
returns c = rw (kind_in_code c.args.kind)
