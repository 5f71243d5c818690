-- What stands there, by the laws `reference_read` and `no_reference`.
use Rattle.std.proofs.Common.{ℕ, ◌/◌, ◌%◌, ◌∙◌, ap, arith}
use Rattle.message.specs.Words.{rest_of, reference_word}
use Rattle.message.proofs.Parts.{reference_read, no_reference}
use Rattle.message.proofs.reader.reference_at.Goals as goal

pub returns-then-words-at : goal.returns-then-words-at
returns-then-words-at c = no_reference _ _ _ (grind arith)

pub returns : goal.returns
unfolding reference_word
returns c = reference_read _ _ _ _ (ap (λ (x : ℕ). record { index = x / 64; count = x % 64 }) (c.rest-x.ensures ∙ ap rest_of c.load.ensures))
