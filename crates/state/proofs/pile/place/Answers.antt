use Rattle.std.proofs.Common.{arith, rules}
use Rattle.state.proofs.Pushing.{placing_start, placing_next, placing_end}
use Rattle.state.proofs.pile.place.Goals as goal

pub loop-k-init : goal.loop-k-init
loop-k-init c = placing_start _ _ _ _ _ (search rules) (search rules) (search rules) (search rules)

pub loop-k-preserved : goal.loop-k-preserved
loop-k-preserved c = placing_next _ _ _ _ _ _ _ c.loop-k.invariant c.loop-k-test.true

pub returns : goal.returns
returns c = placing_end _ _ _ _ _ _ _ c.loop-k.invariant (omega arith)
