-- The rest is a remainder.
use Rattle.std.proofs.Common.{rules}
use Rattle.message.specs.Words.{rest_of}
use Rattle.message.proofs.word.rest.Goals as goal

pub returns : goal.returns
unfolding rest_of
returns c = search rules
