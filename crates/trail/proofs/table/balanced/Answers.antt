use Rattle.std.proofs.Common.{arith, get_or, eqb}
use Rattle.trail.proofs.Prune.{from_bool_le, unbalanced}
use Rattle.trail.proofs.Tally.{tally_le}
use Rattle.trail.proofs.table.balanced.Goals as goal

pub overflow_add-entering : goal.overflow_add-entering
overflow_add-entering c = omega (arith, c.from.ensures, from_bool_le (eqb (get_or c.args.previous.now c.loop-id.id-index 0) 0), c.held-entering.ensures, tally_le (λ p o. eqb p (get_or c.args.previous.now c.loop-id.id-index 0)) c.args.own.now c.args.own.now c.args.counts.now)

pub returns-then-entering-from : goal.returns-then-entering-from
returns-then-entering-from c = λ e. unbalanced _ _ _ _ _ _ _ c.held-leaving.ensures c.held-entering.ensures c.from.ensures c.if-entering-from.true
