use Rattle.std.proofs.Common.{refl, rules}
use Rattle.state_bytes.proofs.Storing.{rowing_start, rowing_next, rowing_end}
use Rattle.state_bytes.proofs.store_head.Goals as goal

pub loop-k-init : goal.loop-k-init
loop-k-init c = rowing_start _ _ _ (search rules) (search rules)

pub loop-k-preserved : goal.loop-k-preserved
loop-k-preserved c = rowing_next _ _ _ _ _ _ _ c.loop-k.invariant c.loop-k-test.true refl c.store.ensures

pub returns : goal.returns
returns c = rowing_end _ _ _ _ _ c.loop-k.invariant c.loop-k-test.false
