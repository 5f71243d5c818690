use Rattle.std.proofs.Common.{arith, sym, ◌∙◌}
use Rattle.message.proofs.Words.{length_words}
use Rattle.message.proofs.Reading.{risen_none, risen_more, risen_falls, risen_stop, risen_last}
use Rattle.message.proofs.run.reference_run.Goals as goal

pub loop-k-init : goal.loop-k-init
loop-k-init c = risen_none _ _

pub returns-then-not-is_reference : goal.returns-then-not-is_reference
returns-then-not-is_reference c = risen_stop _ _ _ _ c.loop-k.invariant _ (omega (arith, length_words c.args.message.now)) c.load-w.ensures (sym c.if-not-is_reference.true ∙ c.is_reference.ensures)

pub returns-then-index-least : goal.returns-then-index-least
returns-then-index-least c = risen_falls _ _ _ _ c.loop-k.invariant _ (omega (arith, length_words c.args.message.now)) c.load-w.ensures (sym c.if-not-is_reference.false ∙ c.is_reference.ensures) (omega (arith, c.rest-index.ensures))

pub loop-k-preserved : goal.loop-k-preserved
loop-k-preserved c = risen_more _ _ _ _ c.loop-k.invariant _ (omega (arith, length_words c.args.message.now)) c.load-w.ensures (sym c.if-not-is_reference.false ∙ c.is_reference.ensures) _ (omega (arith, c.rest-index.ensures)) (omega (arith, c.rest-index.ensures))

pub returns : goal.returns
returns c = risen_last _ _ _ _ _ _ c.loop-k.invariant (omega (arith, length_words c.args.message.now)) (omega arith) c.loop-k.auto.k-end c.max.ensures
