-- The two remainders in a row are one.
use Rattle.std.proofs.Common.{arith}
use Rattle.message.specs.Words.{plain, rest_of}
use Rattle.message.specs.Fields.{parts_value}
use Rattle.message.proofs.word.join_parts.Goals as goal

pub returns : goal.returns
unfolding parts_value plain rest_of
returns c = omega arith
