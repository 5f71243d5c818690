use Rattle.std.proofs.Common.{refl, arith, rules}
use Rattle.state_bytes.proofs.Storing.{places_start, rowing_place, rowing_end}
use Rattle.state_bytes.proofs.store_places.Goals as goal

pub loop-k-init : goal.loop-k-init
loop-k-init c = places_start _ _ (search rules) (search rules)

pub loop-k-preserved : goal.loop-k-preserved
loop-k-preserved c = rowing_place _ _ _ _ _ _ _ c.loop-k.invariant c.loop-k-test.true refl c.store.ensures c.store-in-loop-k.ensures

pub returns : goal.returns
returns c = rowing_end _ _ _ _ _ c.loop-k.invariant (omega arith)
