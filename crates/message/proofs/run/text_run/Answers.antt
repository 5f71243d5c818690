-- The words with three bytes, and what the next word carries: the laws `text_ends` and `text_ends_after`.
use Rattle.std.proofs.Common.{arith, ap, ◌∙◌}
use Rattle.message.specs.Words.{link_words, carried_by}
use Rattle.message.proofs.Words.{length_words}
use Rattle.message.proofs.Reading.{carried_in, carried_most, text_ends, text_ends_after}
use Rattle.message.proofs.run.text_run.Goals as goal

pub overflow_mul-full : goal.overflow_mul-full
overflow_mul-full c = omega (arith, c.threes-k.ensures.run.high, length_words c.args.message.now)

pub overflow_add-result : goal.overflow_add-result
overflow_add-result c =
    let is = c.carried.ensures ∙ ap carried_by c.load.ensures in
    omega (arith, carried_in (link_words c.args.message.now) c.threes-k.result, length_words c.args.message.now)

pub overflow_add-result-in_default : goal.overflow_add-result-in_default
overflow_add-result-in_default c =
    let is = c.carried.ensures ∙ ap carried_by c.load.ensures in
    omega (arith, c.threes-k.ensures.run.high, carried_most c.load.result, length_words c.args.message.now)

pub returns-in-0 : goal.returns-in-0
returns-in-0 c = text_ends _ _ _ c.threes-k.ensures.run _ (c.carried.ensures ∙ ap carried_by c.load.ensures) c.threes-k.ensures.stops c.in-0.is

pub returns-in_default : goal.returns-in_default
returns-in_default c = text_ends_after _ _ _ c.threes-k.ensures.run _ (c.carried.ensures ∙ ap carried_by c.load.ensures) c.threes-k.ensures.stops (omega arith)
