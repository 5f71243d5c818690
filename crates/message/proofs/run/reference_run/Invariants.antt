-- The references up to word k have risen: the record `Risen`.
use Rattle.message.specs.Words.{link_words}
use Rattle.message.proofs.Reading.{Risen}
use Rattle.message.proofs.run.reference_run.Given as goal

abbrev pub invariant-loop-k : goal.invariant-loop-k
invariant-loop-k l = Risen (link_words l.message) l.at l.k l.least
