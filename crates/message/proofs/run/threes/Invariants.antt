-- Each word up to k carries three bytes: the record `Threes`.
use Rattle.message.specs.Words.{link_words}
use Rattle.message.specs.Reading.{Threes}
use Rattle.message.proofs.run.threes.Given as goal

abbrev pub invariant-loop-k : goal.invariant-loop-k
invariant-loop-k l = Threes (link_words l.message) l.at l.k
