use Rattle.std.proofs.Common.{rules}
use Rattle.state_bytes.proofs.Loading.{reading_start, reading_next, reading_end}
use Rattle.state_bytes.proofs.load_places.Goals as goal

pub loop-k-init : goal.loop-k-init
loop-k-init c = reading_start _ (search rules)

pub loop-k-preserved : goal.loop-k-preserved
loop-k-preserved c = reading_next _ _ _ c.loop-k.invariant _ _ c.loop-k-test.true c.load-level.ensures c.load-id.ensures

pub returns : goal.returns
returns c = reading_end _ _ _ c.loop-k.invariant c.loop-k-test.false
