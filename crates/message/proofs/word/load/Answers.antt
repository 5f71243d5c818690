-- A word is read by its four bytes: the laws `load_word` and `no_word`.
use Rattle.std.proofs.Common.{arith}
use Rattle.message.proofs.Words.{load_word, no_word}
use Rattle.message.proofs.word.load.Goals as goal

pub returns-then-message-k : goal.returns-then-message-k
returns-then-message-k c = no_word _ _ c.if-message-k.true

pub returns : goal.returns
returns c = omega (arith, load_word c.args.message.now c.args.k (omega arith))
