-- The state is stored, or kept.
use Rattle.std.proofs.Common.{sym, ◌∙◌}
use Rattle.held.proofs.Outcome.{takes_held, held_kept, held_stored}
use Rattle.held.proofs.take.Goals as goal

pub returns-then-not-refuses : goal.returns-then-not-refuses
returns-then-not-refuses c =
    held_stored (takes_held c.load-before.ensures c.take-taken.ensures) (sym c.refuses.ensures ∙ c.if-not-refuses.true) c.store.ensures

pub returns-else-not-refuses : goal.returns-else-not-refuses
returns-else-not-refuses c = held_kept (takes_held c.load-before.ensures c.take-taken.ensures) (sym c.refuses.ensures ∙ c.if-not-refuses.false)
