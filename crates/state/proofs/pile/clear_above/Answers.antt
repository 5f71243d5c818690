use Rattle.std.proofs.Common.{arith, rules}
use Rattle.state.proofs.Keeping.{clearing_start, clearing_next, clearing_end}
use Rattle.state.proofs.pile.clear_above.Goals as goal

pub loop-above-init : goal.loop-above-init
loop-above-init c = clearing_start _ _ (search rules)

pub loop-above-preserved : goal.loop-above-preserved
loop-above-preserved c = clearing_next _ _ _ _ c.loop-above.invariant (omega arith)

pub returns : goal.returns
returns c = clearing_end _ _ _ _ c.loop-above.invariant (omega arith)
