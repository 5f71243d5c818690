-- Whether a word carries three bytes decides: the laws `threes_more` and `no_three`.
use Rattle.std.proofs.Common.{arith, ap, sym, ◌∙◌}
use Rattle.message.specs.Words.{link_words, carries_three_bytes}
use Rattle.message.proofs.Words.{length_words}
use Rattle.message.proofs.Reading.{threes_more, no_three}
use Rattle.message.proofs.run.threes.Goals as goal

pub returns-then-not-carries_three-clause-stops : goal.returns-then-not-carries_three-clause-stops
returns-then-not-carries_three-clause-stops c = sym (ap carries_three_bytes c.load.ensures) ∙ (sym c.carries_three.ensures ∙ c.if-not-carries_three.true)

pub loop-k-preserved : goal.loop-k-preserved
loop-k-preserved c =
    threes_more _ _ _ c.loop-k.invariant (omega (arith, length_words c.args.message.now)) (sym c.if-not-carries_three.false ∙ (c.carries_three.ensures ∙ ap carries_three_bytes c.load.ensures))

pub returns-clause-stops : goal.returns-clause-stops
returns-clause-stops c = no_three (link_words c.args.message.now) c.max.result (omega (arith, length_words c.args.message.now))
